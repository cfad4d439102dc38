use Rattle.dw_process.proofs.ready_module.prepare_compiled.Goals as goal

pub returns-in-Err-clause-refused : goal.returns-in-Err-clause-refused
returns-in-Err-clause-refused c = c.in-Err.ensures.refused c.args.compiled.room
