use Rattle.std.proofs.Common.{ℕ, List, Some, subst}
use Rattle.dw_bytes.specs.declared.target.Target.{Target}
use Rattle.dw_rules.specs.AbiViews.{roles_of}
use Rattle.dw_rules.specs.Rules.{Rule}
use Rattle.dw_unwind.specs.Caller.{AreRegisters, Caller, IsCaller, machine}
use Rattle.dw_unwind.specs.CallerViews.{answer_in}
use Rattle.dw_unwind.proofs.Callers.{by_rules}
use Rattle.dw_unwind.proofs.CallersFit.{row_caller_fits}
use Rattle.dw_unwind.proofs.unwinding.unwind_into.Given as given
use Rattle.dw_unwind.proofs.unwinding.unwind_into.Goals.{After-drop-slot-2}
use Rattle.dw_unwind.proofs.unwinding.unwind_into.Goals as goal

-- the result is the caller that the rules of the found row give
made : (g : given.Over) (c : After-drop-slot-2 g)
    → IsCaller (machine (g.T.UnwindRows.target_of c.args.rows.now) (g.R.Registers.contents c.args.registers.now)
    (g.M.Memory.bytes c.args.memory.now)) (roles_of c.args.abi.now) c.in-Some.number c.in-Some.row (record {
      cfa = answer_in c.cfa-cfa.result;
      registers = (g.L.RegisterList.registers c.registers_into.new.registers);
      return_address = answer_in c.return_address.result;
    })
made g c =
    let known = g.R.Registers.contents c.args.registers.now in
    let memory = g.M.Memory.bytes c.args.memory.now in
    let abi = roles_of c.args.abi.now in
    let caller : Caller = record {
      cfa = answer_in c.cfa-cfa.result;
      registers = (g.L.RegisterList.registers c.registers_into.new.registers);
      return_address = answer_in c.return_address.result;
    } in
    subst (λ (t : Target). IsCaller (machine t known memory) abi c.in-Some.number c.in-Some.row caller) c.rows_target.ensures
    (by_rules (machine c.rows_target.result known memory) abi c.in-Some.number c.in-Some.row _ _ _ _ _ c.cfa.ensures.cfa c.cfa-cfa.ensures
    c.rules_with.ensures.rules c.registers_into.ensures c.return_address.ensures)

pub returns-clause-unwinds : goal.returns-clause-unwinds
returns-clause-unwinds g c = (Some (c.in-Some.row, c.in-Some.number), c.in-Some.ensures.found, made g c)

pub returns-clause-fits : goal.returns-clause-fits
returns-clause-fits g c =
    row_caller_fits c.rules_under_abis.ensures.each c.numbers_of_evaluations_fit.ensures
    (g.T.UnwindRows.target_of c.args.rows.now) (g.R.Registers.contents c.args.registers.now) (g.M.Memory.bytes c.args.memory.now)
    (roles_of c.args.abi.now) c.in-Some.number c.in-Some.row _ c.in-Some.ensures.under (made g c)

pub return_address-requires : goal.return_address-requires
return_address-requires g c =
    subst (λ (rules : List (ℕ × Rule)). AreRegisters
    (machine c.rows_target.result (g.R.Registers.contents c.args.registers.now) (g.M.Memory.bytes c.args.memory.now))
    (answer_in c.cfa-cfa.result) rules (g.L.RegisterList.registers c.registers_into.new.registers)) c.rules_with.ensures.rules c.registers_into.ensures
