use Rattle.std.proofs.Common.{List, sym, ap, ◌∙◌, arith}
use Rattle.dw_process.specs.declared.loaded_module.LoadedModule.{LoadedModule}
use Rattle.dw_process.specs.ModuleMaps.{module_at}
use Rattle.dw_process.proofs.Placing.{the_one, is_inside}
use Rattle.dw_process.proofs.module_map.ModuleMap.at_guess.Goals as goal

pub returns-then-address-near : goal.returns-then-address-near
returns-then-address-near c =
    let modules = c.self.inside.modules.items in
    let near = c.index-near.result.now in
    sym (the_one modules c.self.invariant.1 c.args.address near (c.args.guess, omega arith, sym c.index-near.ensures)
    (is_inside near.range c.args.address (omega arith) (omega arith)))
    ∙ ap (λ (l : List LoadedModule). module_at l c.args.address) c.self.view_is
