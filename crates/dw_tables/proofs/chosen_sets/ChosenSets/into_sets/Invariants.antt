use Rattle.std.specs.Prelude.{◌≡◌, map}
use Rattle.std.proofs.Common.{take}
use Rattle.dw_tables.specs.CompiledTable.{set_numbered}
use Rattle.dw_tables.proofs.chosen_sets.ChosenSets.into_sets.Given as goal

abbrev pub invariant-loop-number : goal.invariant-loop-number
invariant-loop-number l = l.chosen ≡ map (set_numbered l.sets) (take l.number-index l.fn.self.numbers.items)
