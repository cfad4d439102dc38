use Rattle.std.proofs.Common.{◌≡◌, take}
use Rattle.dw_unwind.specs.Modules.{unborrowed}
use Rattle.dw_check.proofs.process.lent_modules.Given as goal

abbrev pub invariant-loop-module : goal.invariant-loop-module
invariant-loop-module l = unborrowed l.lent.items ≡ take l.module-index l.modules
