use Rattle.std.proofs.Common.{◌≡◌, drop, map}
use Rattle.dw_unwind.specs.CallerViews.{found_in}
use Rattle.dw_unwind.specs.Walks.{contents_of}
use Rattle.dw_unwind.proofs.frame_registers.content_among.Given as goal

abbrev pub invariant-loop-register : goal.invariant-loop-register
invariant-loop-register l =
    contents_of (map found_in l.found) l.number ≡ contents_of (map found_in (drop l.register-index l.found)) l.number
