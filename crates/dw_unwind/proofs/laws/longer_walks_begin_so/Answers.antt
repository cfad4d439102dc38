use Rattle.std.proofs.Common.{take}
use Rattle.dw_unwind.specs.Walks.{over_section}
use Rattle.dw_unwind.proofs.OneWalk.{cut_walk}
use Rattle.dw_unwind.proofs.laws.longer_walks_begin_so.Goals as goal

pub returns : goal.returns
returns c = λ frame abi memory first m n xs ys a b checked short long le.
    let cut = cut_walk (over_section frame abi memory) first m n ys b long le in
    (c.one_walk.ensures frame abi memory first m xs (take m ys) a cut.0 checked short cut.1).0
