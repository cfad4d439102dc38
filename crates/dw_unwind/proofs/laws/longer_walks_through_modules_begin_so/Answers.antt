use Rattle.std.proofs.Common.{take}
use Rattle.dw_unwind.specs.Modules.{over_sections}
use Rattle.dw_unwind.proofs.OneWalk.{cut_walk}
use Rattle.dw_unwind.proofs.laws.longer_walks_through_modules_begin_so.Goals as goal

pub returns : goal.returns
returns c = λ sections abi memory first m n xs ys a b checked short long le.
    let cut = cut_walk (over_sections abi memory sections) first m n ys b long le in
    (c.one_walk_through_modules.ensures sections abi memory first m xs (take m ys) a cut.0 checked short cut.1).0
