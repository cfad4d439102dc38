use Rattle.dw_unwind.specs.Caller.{machine}
use Rattle.dw_unwind.specs.Walks.{over_section}
use Rattle.dw_unwind.proofs.OneWalk.{one_walk}
use Rattle.dw_unwind.proofs.laws.one_walk.Goals as goal

pub returns : goal.returns
returns c = λ frame abi memory first limit xs ys a b checked.
    one_walk (over_section frame abi memory) (λ registers at c0 d0.
    c.one_caller.ensures (machine frame.target registers memory) abi frame at c0 d0 checked) first limit xs ys a b
