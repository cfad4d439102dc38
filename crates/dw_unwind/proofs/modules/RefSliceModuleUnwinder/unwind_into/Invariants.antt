use Rattle.std.proofs.Common.{Option, drop}
use Rattle.dw_rules.specs.AbiViews.{roles_of}
use Rattle.dw_unwind.specs.Caller.{Caller}
use Rattle.dw_unwind.specs.Modules.{over_modules_of_rows}
use Rattle.dw_unwind.proofs.modules.RefSliceModuleUnwinder.unwind_into.Given as goal

-- what the remaining modules give at the address (a caller, or none) is what all modules give
abbrev pub invariant-loop-module : goal.invariant-loop-module
invariant-loop-module g l =
    (caller : Option Caller)
    → over_modules_of_rows g.T.UnwindRows.target_of g.T.UnwindRows.finds (roles_of l.abi) (g.M.Memory.bytes l.memory)
    (drop l.module-index l.module-items) (g.R.Registers.contents l.registers) l.fn.address caller
    → over_modules_of_rows g.T.UnwindRows.target_of g.T.UnwindRows.finds (roles_of l.abi) (g.M.Memory.bytes l.memory) l.fn.self.now
    (g.R.Registers.contents l.registers) l.fn.address caller
