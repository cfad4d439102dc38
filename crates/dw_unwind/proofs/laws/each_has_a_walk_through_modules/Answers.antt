use Rattle.dw_unwind.specs.Modules.{over_sections}
use Rattle.dw_unwind.proofs.OneWalk.{some_walk}
use Rattle.dw_unwind.proofs.laws.each_has_a_walk_through_modules.Goals as goal

pub returns : goal.returns
returns c = λ sections abi memory first limit checked.
    some_walk (over_sections abi memory sections) (λ registers at.
    c.each_address_has_an_unwinding_through_modules.ensures sections abi memory registers at checked) first limit
