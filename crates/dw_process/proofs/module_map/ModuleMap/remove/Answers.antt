use Rattle.std.proofs.Common.{◌≡◌, ◌<◌, List, ℕ, length, map, sym, ap, ◌∙◌, subst}
use Rattle.std.specs.List.{remove}
use Rattle.dw_process.specs.declared.loaded_module.LoadedModule.{LoadedModule}
use Rattle.dw_process.specs.ModuleMaps.{AreInOrder, first_of}
use Rattle.dw_process.proofs.Placing.{map-remove, order_of_less}
use Rattle.dw_process.proofs.module_map.ModuleMap.remove.Goals as goal

pub invariant_of-self : goal.invariant_of-self
invariant_of-self c =
    let modules = c.self.inside.modules.items in
    let place = c.args.place in
    let less_firsts : c.remove.new.self.items ≡ remove c.self.inside.firsts.items place = c.remove.ensures.items in
    let less : c.remove-2.new.self.items ≡ remove modules place = c.remove-2.ensures.items in
    let within : place < length modules = subst (λ (l : List LoadedModule). place < length l) (sym c.self.view_is) c.requires in (
      less_firsts ∙ ap (λ (l : List ℕ). remove l place) c.self.invariant.0 ∙ sym (map-remove modules place)
          ∙ ap (λ (l : List LoadedModule). map first_of l) (sym less),
      subst AreInOrder (sym less) (order_of_less modules place within c.self.invariant.1),
    )
