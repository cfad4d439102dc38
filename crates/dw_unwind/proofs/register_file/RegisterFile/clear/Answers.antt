use Rattle.dw_unwind.proofs.Contents.{nothing-known}
use Rattle.dw_unwind.proofs.register_file.RegisterFile.clear.Goals as goal

pub returns : goal.returns
returns c = λ r. nothing-known c.self.inside.contents 96 r
