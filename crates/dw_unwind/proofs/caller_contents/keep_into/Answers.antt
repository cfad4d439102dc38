use Rattle.std.proofs.Common.{◌∙◌, ap, get_or, refl}
use Rattle.std.proofs.lemmas.List.{drop_all}
use Rattle.dw_unwind.specs.CallerViews.{machine_in}
use Rattle.dw_unwind.specs.Contents.{content_changed, contents_in}
use Rattle.dw_unwind.specs.Walks.{content_of}
use Rattle.dw_unwind.proofs.Contents.{keeps-next, keeps-no-more}
use Rattle.dw_unwind.proofs.Places.{writes-first, writes-next}
use Rattle.dw_unwind.proofs.caller_contents.keep_into.Goals as goal

pub loop-number-init : goal.loop-number-init
loop-number-init g c = record { wanted = contents_in c.args.into.now; goes = λ final keeps. keeps; writes = writes-first (contents_in c.args.into.now) }

pub returns : goal.returns
returns g c =
    let e = machine_in g.R.Registers.contents g.M.Memory.bytes c.args.present.now in
    let wanted = c.loop-number.invariant.wanted in
    record {
      wanted = wanted;
      right = c.loop-number.invariant.goes wanted
          (keeps-no-more e _ _ (drop_all c.loop-number.number-index c.args.kept.now c.loop-number-test.false));
      writes = c.loop-number.invariant.writes;
    }

pub loop-number-preserved : goal.loop-number-preserved
loop-number-preserved g c =
    let e = machine_in g.R.Registers.contents g.M.Memory.bytes c.args.present.now in
    let kept = c.args.kept.now in
    let i = c.loop-number.number-index in
    let n = get_or kept i 0 in
    let wanted = c.loop-number.invariant.wanted in
    let now = content_changed wanted n c.content_of.result in record {
      wanted = now;
      goes = λ final keeps. c.loop-number.invariant.goes final
          (keeps-next e kept i 0 wanted now final c.content_of.result c.loop-number-test.true (λ r. refl)
          (c.content_of.ensures ∙ ap content_of c.content.ensures) keeps);
      writes = writes-next wanted (contents_in c.loop-number.into) (contents_in c.put-all_placed.new.self) n c.content_of.result
          c.loop-number.all_placed c.put-all_placed.result c.loop-number.invariant.writes c.put-all_placed.ensures.near
          c.put-all_placed.ensures.puts;
    }
