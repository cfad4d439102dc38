use Rattle.std.proofs.Common.{ℕ, List, refl, subst}
use Rattle.dw_rules.specs.RowsWithExpressions.{IsEntryOfKind}
use Rattle.dw_rules.specs.Rules.{Rule}
use Rattle.dw_rules.specs.Views.{numbered_rule_of, rule_of}
use Rattle.dw_unwind.specs.CallerViews.{answer_in, machine_in}
use Rattle.dw_unwind.specs.Contents.{Overlays, content_changed, contents_in}
use Rattle.dw_unwind.proofs.Callers.{comes, of_next}
use Rattle.dw_unwind.proofs.Contents.{overlays-next, overlays-no-more}
use Rattle.dw_unwind.proofs.Places.{writes-first, writes-next}
use Rattle.dw_unwind.proofs.caller_contents.overlay_into.Goals as goal

pub found_by-requires : goal.found_by-requires
found_by-requires g c =
    of_next IsEntryOfKind _ (numbered_rule_of (c.in-Some.number, c.in-Some.rule)) _ _ _ c.requires c.loop-number.invariant.whole
    (c.in-Some.ensures).steps

pub loop-number-init : goal.loop-number-init
loop-number-init g c = record {
  whole = c.into_iter-number-iterator.ensures.into_iter_gives;
  wanted = contents_in c.args.into.now;
  goes = λ final over.
      subst (λ (rules : List (ℕ × Rule)). Overlays (machine_in g.R.Registers.contents g.M.Memory.bytes c.args.present.now)
      (answer_in c.args.cfa) rules (contents_in c.args.into.now) final) c.into_iter-number-iterator.ensures.into_iter_gives over;
  writes = writes-first (contents_in c.args.into.now);
}

pub returns : goal.returns
returns g c =
    let e = machine_in g.R.Registers.contents g.M.Memory.bytes c.args.present.now in
    let wanted = c.loop-number.invariant.wanted in
    record {
      wanted = wanted;
      right = c.loop-number.invariant.goes wanted (overlays-no-more e (answer_in c.args.cfa) _ _ (c.in-None.ensures).steps.0);
      writes = c.loop-number.invariant.writes;
    }

pub loop-number-preserved : goal.loop-number-preserved
loop-number-preserved g c =
    let e = machine_in g.R.Registers.contents g.M.Memory.bytes c.args.present.now in
    let n = c.in-Some.number in
    let wanted = c.loop-number.invariant.wanted in
    let now = content_changed wanted n c.content_of.result in record {
      whole = comes numbered_rule_of c.loop-number.yielded (n, c.in-Some.rule) _ _ _ c.loop-number.invariant.whole
          (c.in-Some.ensures).steps;
      wanted = now;
      goes = λ final over. c.loop-number.invariant.goes final
          (overlays-next e (answer_in c.args.cfa) _ _ n (rule_of c.in-Some.rule) (answer_in c.found_by.result) c.content_of.result wanted now
          final (c.in-Some.ensures).steps c.found_by.ensures (λ r. refl) c.content_of.ensures over);
      writes = writes-next wanted (contents_in c.loop-number.into) (contents_in c.put-all_placed.new.self) n c.content_of.result
          c.loop-number.all_placed c.put-all_placed.result c.loop-number.invariant.writes c.put-all_placed.ensures.near
          c.put-all_placed.ensures.puts;
    }
