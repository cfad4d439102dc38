use Rattle.dw_unwind.specs.Modules.{over_sections}
use Rattle.dw_unwind.proofs.OneWalk.{one_walk}
use Rattle.dw_unwind.proofs.laws.one_walk_through_modules.Goals as goal

pub returns : goal.returns
returns c = λ sections abi memory first limit xs ys a b checked.
    one_walk (over_sections abi memory sections) (λ registers at c0 d0.
    c.one_caller_through_modules.ensures sections abi memory registers at c0 d0 checked) first limit xs ys a b
