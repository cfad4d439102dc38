use Rattle.std.proofs.Common.{subst}
use Rattle.dw_process.specs.Processes.{ProcessState}
use Rattle.dw_process.specs.Refusals.{IsRefusedWith}
use Rattle.dw_process.proofs.process.Process.add_compiled.Goals as goal

pub returns-in-Err-clause-refused : goal.returns-in-Err-clause-refused
returns-in-Err-clause-refused c =
    subst (λ (p : ProcessState). IsRefusedWith c.args.compiled.frame c.args.load_address c.args.range c.args.compiled.room p.modules c.in-Err.why)
    c.self.view_is c.in-Err.ensures.refused
