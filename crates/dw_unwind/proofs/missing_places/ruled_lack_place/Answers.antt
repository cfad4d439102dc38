use Rattle.std.proofs.Common.{ℕ, List, map, refl, subst}
use Rattle.dw_rules.specs.RowsWithExpressions.{IsEntryOfKind}
use Rattle.dw_rules.specs.Rules.{Rule, rule_in}
use Rattle.dw_rules.specs.Views.{numbered_rule_of, rule_of}
use Rattle.dw_unwind.specs.CallerViews.{answer_in, machine_in}
use Rattle.dw_unwind.specs.MissingPlaces.{LacksFarContents}
use Rattle.dw_unwind.proofs.Callers.{comes, of_next}
use Rattle.dw_unwind.proofs.Places.{entry-rule-is, far-next, far-none}
use Rattle.dw_unwind.proofs.missing_places.ruled_lack_place.Goals as goal

pub lacks_place-requires : goal.lacks_place-requires
lacks_place-requires g c =
    of_next IsEntryOfKind _ (numbered_rule_of (c.in-Some.number, c.in-Some.rule)) _ _ _ c.requires.kinds c.loop-number.invariant.whole
    (c.in-Some.ensures).steps

pub loop-number-init : goal.loop-number-init
loop-number-init g c =
    let e = machine_in g.R.Registers.contents g.M.Memory.bytes c.args.present.now in
    record {
      whole = c.into_iter-number-iterator.ensures.into_iter_gives;
      lacks = λ later. subst (λ (rules : List (ℕ × Rule)). LacksFarContents e (answer_in c.args.cfa) (rule_in rules))
          c.into_iter-number-iterator.ensures.into_iter_gives later;
    }

pub returns-then-lacks_place : goal.returns-then-lacks_place
returns-then-lacks_place g c =
    rw c.if-lacks_place.true at (c.lacks_place.ensures (rule_in c.args.rules)
    (entry-rule-is (map numbered_rule_of c.loop-number.yielded) c.in-Some.number (rule_of c.in-Some.rule) _ _ c.args.rules c.requires.table
    c.loop-number.invariant.whole (c.in-Some.ensures).steps))

pub returns : goal.returns
returns g c =
    let e = machine_in g.R.Registers.contents g.M.Memory.bytes c.args.present.now in
    c.loop-number.invariant.lacks (far-none e (answer_in c.args.cfa) _ (c.in-None.ensures).steps.0)

pub loop-number-preserved : goal.loop-number-preserved
loop-number-preserved g c =
    let e = machine_in g.R.Registers.contents g.M.Memory.bytes c.args.present.now in
    let here = rw c.if-lacks_place.false at (c.lacks_place.ensures (λ r. rule_of c.in-Some.rule) refl) in
    record {
      whole = comes numbered_rule_of c.loop-number.yielded (c.in-Some.number, c.in-Some.rule) _ _ _ c.loop-number.invariant.whole
          (c.in-Some.ensures).steps;
      lacks = λ later. c.loop-number.invariant.lacks
          (far-next e (answer_in c.args.cfa) _ _ c.in-Some.number (rule_of c.in-Some.rule) (c.in-Some.ensures).steps here later);
    }
