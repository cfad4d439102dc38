use Rattle.std.proofs.Common.{◌≡◌, None, arith, subst}
use Rattle.dw_unwind.specs.Contents.{File, contents_in}
use Rattle.dw_unwind.proofs.Contents.{nothing-past}
use Rattle.dw_unwind.proofs.register_file.RegisterFile.ends.Goals as goal

pub returns : goal.returns
returns c = λ r le.
    subst (λ (f : File). contents_in f r ≡ None) c.self.view_is
    (nothing-past c.self.inside.contents c.self.inside.known r (omega (arith, c.self.invariant, le)))
