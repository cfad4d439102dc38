use Rattle.std.proofs.Common.{◌≡◌, arith, subst}
use Rattle.dw_bytes.specs.declared.target.Target.{Target}
use Rattle.dwcheck_c.specs.LoadedModules.{IsRefusedBy}
use Rattle.dwcheck_c.proofs.processes.add_to.Goals as goal

pub returns-in-Err-clause-why : goal.returns-in-Err-clause-why
returns-in-Err-clause-why c =
    let m = c.args.module.now in
    let p = c.args.process.now in
    let same : p.target ≡ c.args.target = grind (arith, c.if-ne.false, c.ne.ensures) in
    (same, subst (λ (target : Target). IsRefusedBy c.args.kind m target p.modules c.in-Err.why) same c.in-Err.ensures.refused)
