use Rattle.std.proofs.Common.{◌≡◌, ◌++◌, map}
use Rattle.dw_rules.specs.Views.{numbered_rule_of}
use Rattle.dw_unwind.specs.Caller.{AreRegisters}
use Rattle.dw_unwind.specs.CallerViews.{answer_in, machine_in}
use Rattle.dw_unwind.proofs.rule_answers.Present.registers_into.Given as goal

abbrev pub invariant-loop-number : goal.invariant-loop-number
invariant-loop-number g l = record {
  whole : map numbered_rule_of l.yielded ++ l.number-iterator ≡ l.fn.rules;
  found : AreRegisters (machine_in g.R.Registers.contents g.M.Memory.bytes l.self) (answer_in l.cfa) (map numbered_rule_of l.yielded)
      (g.L.RegisterList.registers l.registers);
}
