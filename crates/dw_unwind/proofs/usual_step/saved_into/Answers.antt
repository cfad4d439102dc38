use Rattle.std.proofs.Common.{◌≡◌, List, ap, map, rules, subst, w64, ℤ}
use mir.Val.{to_z, of_z}
use Rattle.dw_rules.specs.Rules.{offset}
use Rattle.dw_rules.specs.SavedRules.{Saved, as_saved}
use Rattle.dw_unwind.specs.Caller.{IsRegister}
use Rattle.dw_unwind.specs.CallerViews.{answer_in, machine_in}
use Rattle.dw_unwind.specs.Contents.{contents_in}
use Rattle.dw_unwind.proofs.Callers.{comes}
use Rattle.dw_unwind.proofs.Contents.{overlays-next}
use Rattle.dw_unwind.proofs.usual_step.saved_into.Goals as goal

pub loop-number-preserved : goal.loop-number-preserved
loop-number-preserved g c =
    let e = machine_in g.R.Registers.contents g.M.Memory.bytes c.args.present.now in
    let cfa = answer_in c.args.cfa in
    let n = c.in-Some.number in
    let a = answer_in c.saved.result in
    let next = (c.in-Some.ensures).steps in
    let same : to_z w64 (of_z w64 c.in-Some.offset) ≡ c.in-Some.offset = search rules in
    record {
      whole = comes (λ (saved : Saved). saved) c.loop-number.yielded (n, c.in-Some.offset) _ _ _ c.loop-number.invariant.whole next;
      goes = λ final over. c.loop-number.invariant.goes final
          (overlays-next e cfa _ _ n (offset c.in-Some.offset) a c.content_of.result
          (contents_in c.loop-number.into) (contents_in c.set.new.self) final (ap (λ (l : List Saved). map as_saved l) next)
          (subst (λ (z : ℤ). IsRegister e cfa n (offset z) a) same c.saved.ensures) c.set.ensures c.content_of.ensures over);
    }
