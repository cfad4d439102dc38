use Rattle.std.proofs.Common.{◌≡◌, List, ℕ, map, Bool, true, false, refl, sym, ap, ◌∙◌, subst}
use Rattle.std.specs.List.{insert}
use Rattle.std.specs.Prelude.{cond, not}
use Rattle.std.specs.Result.{is_ok}
use Rattle.dw_process.specs.declared.loaded_module.LoadedModule.{LoadedModule}
use Rattle.dw_process.specs.ModuleMaps.{AreInOrder, IsPlaceFor, first_of}
use Rattle.dw_process.proofs.Placing.{map-insert, order_of_more}
use Rattle.dw_process.proofs.module_map.ModuleMap.insert.Goals as goal

kept : {X : Type 0} (xs ys : X) (b : Bool) → b ≡ true → cond b xs ys ≡ xs
kept xs ys true is = refl
kept xs ys false is = cc

pub invariant_of-self-2 : goal.invariant_of-self-2
invariant_of-self-2 c =
    let firsts = c.self.inside.firsts.items in
    let modules = c.self.inside.modules.items in
    let place = c.args.place in
    let m = c.args.added in
    let more_firsts : c.insert.new.self.items ≡ insert firsts place m.range.first = c.insert.ensures.items ∙ kept _ _ (is_ok c.insert.result) (c.is_err.ensures.negation ∙ ap not c.if-is_err.false) in
    let more : c.insert-2.new.self.items ≡ insert modules place m = c.insert-2.ensures.items ∙ kept _ _ (is_ok c.insert-2.result) (c.is_err-2.ensures.negation ∙ ap not c.if-is_err-2.false) in
    let here : IsPlaceFor m.range modules place = subst (λ (l : List LoadedModule). IsPlaceFor m.range l place) (sym c.self.view_is) c.requires.place in (
      more_firsts ∙ ap (λ (l : List ℕ). insert l place m.range.first) c.self.invariant.0 ∙ sym (map-insert modules place m)
          ∙ ap (λ (l : List LoadedModule). map first_of l) (sym more),
      subst AreInOrder (sym more) (order_of_more modules place m c.requires.proper here c.self.invariant.1),
    )
