use Rattle.dw_unwind.proofs.InPlace.{ArePickedTo}
use Rattle.dw_unwind.proofs.register_file.keep_marked.Given as goal

abbrev pub invariant-loop-place : goal.invariant-loop-place
invariant-loop-place l = ArePickedTo l.marks l.initial.flags l.flags l.place
