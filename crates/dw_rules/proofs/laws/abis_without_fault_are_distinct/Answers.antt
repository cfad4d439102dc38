use Rattle.dw_rules.proofs.AbiFaults.{no-fault-is, twice-is}
use Rattle.dw_rules.proofs.laws.abis_without_fault_are_distinct.Goals as goal

pub returns : goal.returns
returns c = record { good = no-fault-is; twice = twice-is }
