use Rattle.std.proofs.Common.{◌≡◌, ℕ, List, map, sym, subst, ap, ◌∙◌, arith}
use Rattle.std.specs.List.Sorted.{IsNonDecreasingBy}
use Rattle.dw_process.specs.declared.loaded_module.LoadedModule.{LoadedModule}
use Rattle.dw_process.specs.ModuleMaps.{IsStartCount, first_of, module_at}
use Rattle.dw_process.proofs.Placing.{firsts_rise, none_up_to, not_the_last, the_last}
use Rattle.dw_process.proofs.module_map.ModuleMap.at_near.Goals as goal

pub count_up_to-after-requires : goal.count_up_to-after-requires
count_up_to-after-requires c =
    let firsts : c.as_slice.result.now ≡ map first_of c.self.inside.modules.items = c.as_slice.ensures.value ∙ c.self.invariant.0 in
    subst (IsNonDecreasingBy (λ x. x)) (sym firsts) (firsts_rise c.self.inside.modules.items c.self.invariant.1)

pub returns-then-after-eq0 : goal.returns-then-after-eq0
returns-then-after-eq0 c =
    let modules = c.self.inside.modules.items in
    let firsts : c.as_slice.result.now ≡ map first_of modules = c.as_slice.ensures.value ∙ c.self.invariant.0 in
    let counted = subst (λ (l : List ℕ). IsStartCount l c.args.address c.count_up_to-after.result) firsts c.count_up_to-after.ensures in
    sym (none_up_to modules c.self.invariant.1 c.args.address c.count_up_to-after.result counted c.if-after-eq0.true)
    ∙ ap (λ (l : List LoadedModule). module_at l c.args.address) c.self.view_is

pub returns-then-address-module : goal.returns-then-address-module
returns-then-address-module c =
    let modules = c.self.inside.modules.items in
    let firsts : c.as_slice.result.now ≡ map first_of modules = c.as_slice.ensures.value ∙ c.self.invariant.0 in
    let counted = subst (λ (l : List ℕ). IsStartCount l c.args.address c.count_up_to-after.result) firsts c.count_up_to-after.ensures in
    sym (the_last modules c.self.invariant.1 c.args.address c.count_up_to-after.result counted c.index-module.result.now (omega arith)
    (sym c.index-module.ensures) (omega arith))
    ∙ ap (λ (l : List LoadedModule). module_at l c.args.address) c.self.view_is

pub returns : goal.returns
returns c =
    let modules = c.self.inside.modules.items in
    let firsts : c.as_slice.result.now ≡ map first_of modules = c.as_slice.ensures.value ∙ c.self.invariant.0 in
    let counted = subst (λ (l : List ℕ). IsStartCount l c.args.address c.count_up_to-after.result) firsts c.count_up_to-after.ensures in
    sym (not_the_last modules c.self.invariant.1 c.args.address c.count_up_to-after.result counted c.index-module.result.now (omega arith)
    (sym c.index-module.ensures) (omega arith))
    ∙ ap (λ (l : List LoadedModule). module_at l c.args.address) c.self.view_is
