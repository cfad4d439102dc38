use Rattle.std.proofs.Common.{◌≡◌, ℕ, ◌-◌, List, map, refl, sym, subst, ◌∙◌, arith}
use Rattle.std.specs.List.Sorted.{IsNonDecreasingBy}
use Rattle.dw_process.specs.declared.loaded_module.LoadedModule.{LoadedModule}
use Rattle.dw_process.specs.ModuleMaps.{IsPlaceFor, IsStartCount, IsTaken, first_of}
use Rattle.dw_process.proofs.Placing.{firsts_rise, place_after, place_of_none, starts_by}
use Rattle.dw_process.proofs.module_map.ModuleMap.place_for.Goals as goal

pub count_up_to-place-requires : goal.count_up_to-place-requires
count_up_to-place-requires c =
    let firsts : c.as_slice.result.now ≡ map first_of c.self.inside.modules.items = c.as_slice.ensures.value ∙ c.self.invariant.0 in
    subst (IsNonDecreasingBy (λ x. x)) (sym firsts) (firsts_rise c.self.inside.modules.items c.self.invariant.1)

pub returns-then-before-range-clause-taken : goal.returns-then-before-range-clause-taken
returns-then-before-range-clause-taken c =
    let modules = c.self.inside.modules.items in
    let count = c.count_up_to-place.result in
    let firsts : c.as_slice.result.now ≡ map first_of modules = c.as_slice.ensures.value ∙ c.self.invariant.0 in
    let counted = subst (λ (l : List ℕ). IsStartCount l c.args.range.last count) firsts c.count_up_to-place.ensures in
    let m = c.index-before.result.now in
    let low = starts_by modules c.self.invariant.1 c.args.range.last count counted m (omega arith) (sym c.index-before.ensures) in
    subst (λ (l : List LoadedModule). IsTaken c.args.range l m.id) c.self.view_is
    (m, (count - 1, low.0, sym c.index-before.ensures), refl, (low.1, omega arith))

pub returns-else-before-range-clause-free : goal.returns-else-before-range-clause-free
returns-else-before-range-clause-free c =
    let modules = c.self.inside.modules.items in
    let count = c.count_up_to-place.result in
    let firsts : c.as_slice.result.now ≡ map first_of modules = c.as_slice.ensures.value ∙ c.self.invariant.0 in
    let counted = subst (λ (l : List ℕ). IsStartCount l c.args.range.last count) firsts c.count_up_to-place.ensures in
    subst (λ (l : List LoadedModule). IsPlaceFor c.args.range l count) c.self.view_is
    (place_after modules c.self.invariant.1 c.args.range count counted c.index-before.result.now (omega arith) (sym c.index-before.ensures) (omega arith))

pub returns-else-place-gt0-clause-free : goal.returns-else-place-gt0-clause-free
returns-else-place-gt0-clause-free c =
    let modules = c.self.inside.modules.items in
    let count = c.count_up_to-place.result in
    let firsts : c.as_slice.result.now ≡ map first_of modules = c.as_slice.ensures.value ∙ c.self.invariant.0 in
    let counted = subst (λ (l : List ℕ). IsStartCount l c.args.range.last count) firsts c.count_up_to-place.ensures in
    subst (λ (l : List LoadedModule). IsPlaceFor c.args.range l count) c.self.view_is
    (place_of_none modules c.self.invariant.1 c.args.range count counted (omega arith))
