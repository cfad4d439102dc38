use Rattle.dw_process.proofs.Finding.{its_unwindings}
use Rattle.dw_process.proofs.laws.the_module_of_the_address_unwinds.Goals as goal

pub returns : goal.returns
returns c = λ p m abi memory registers address caller is target. its_unwindings p m abi memory registers address caller is target
