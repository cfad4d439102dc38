use Rattle.dw_process.proofs.Placing.{the_one}
use Rattle.dw_process.proofs.laws.one_module_has_the_address.Goals as goal

pub returns : goal.returns
returns c = λ modules address m order among inside. the_one modules order address m among inside
