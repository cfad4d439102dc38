use Rattle.std.proofs.Common.{◌∙◌, ap}
use Rattle.dw_process.specs.declared.loaded_module.LoadedModule.{LoadedModule}
use Rattle.dw_process.specs.Processes.{ProcessState}
use Rattle.dw_process.proofs.Finding.{its_fallback, its_target}
use Rattle.dw_process.proofs.process.Process.module_near.Goals as goal

pub new-requires-clause-rows : goal.new-requires-clause-rows
new-requires-clause-rows c =
    let p : ProcessState = record { target = c.self.inside.target; next_id = c.self.inside.next_id; modules = c.self.inside.modules } in
    its_target p c.self.invariant c.args.address c.in-Some.module.now c.in-Some.ensures

pub new-requires-clause-fallback : goal.new-requires-clause-fallback
new-requires-clause-fallback c =
    let p : ProcessState = record { target = c.self.inside.target; next_id = c.self.inside.next_id; modules = c.self.inside.modules } in
    its_fallback p c.self.invariant c.args.address c.in-Some.module.now c.in-Some.ensures

pub returns-in-Some-clause-target : goal.returns-in-Some-clause-target
returns-in-Some-clause-target c =
    let p : ProcessState = record { target = c.self.inside.target; next_id = c.self.inside.next_id; modules = c.self.inside.modules } in
    ap (λ (m : LoadedModule). m.rows.target) c.new.ensures ∙ its_target p c.self.invariant c.args.address c.in-Some.module.now c.in-Some.ensures
    ∙ ap (λ (p : ProcessState). p.target) c.self.view_is
