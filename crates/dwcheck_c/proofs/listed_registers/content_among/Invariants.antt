use Rattle.std.proofs.Common.{◌≡◌, drop}
use Rattle.dw_unwind.specs.Walks.{contents_of}
use Rattle.dwcheck_c.proofs.listed_registers.content_among.Given as goal

abbrev pub invariant-loop-index : goal.invariant-loop-index
invariant-loop-index l = contents_of l.list l.number ≡ contents_of (drop l.index l.list) l.number
