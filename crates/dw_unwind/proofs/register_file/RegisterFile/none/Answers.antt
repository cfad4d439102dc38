use Rattle.std.proofs.Common.{replicate}
use Rattle.dw_unwind.proofs.Contents.{nothing-known}
use Rattle.dw_unwind.proofs.register_file.RegisterFile.none.Goals as goal

pub returns : goal.returns
returns c = λ r. nothing-known (replicate 96 0) 96 r
