use Rattle.dw_unwind.specs.Caller.{machine}
use Rattle.dw_unwind.specs.Walks.{over_section}
use Rattle.dw_unwind.proofs.OneWalk.{some_walk}
use Rattle.dw_unwind.proofs.laws.each_has_a_walk.Goals as goal

pub returns : goal.returns
returns c = λ frame abi memory first limit checked.
    some_walk (over_section frame abi memory) (λ registers at.
    c.each_address_has_an_unwinding.ensures (machine frame.target registers memory) abi frame at checked)
    first limit
