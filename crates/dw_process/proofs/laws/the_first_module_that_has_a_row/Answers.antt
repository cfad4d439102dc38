use Rattle.dw_process.proofs.FirstOnes.{agree, unwinds_same}
use Rattle.dw_process.proofs.laws.the_first_module_that_has_a_row.Goals as goal

pub returns : goal.returns
returns c = record {
  rows = λ p address order has. agree p.modules address order has;
  unwindings = λ p abi memory registers address caller are has. unwinds_same p abi memory registers address caller are has;
}
