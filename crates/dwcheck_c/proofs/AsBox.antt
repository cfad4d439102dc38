-- The types that the proofs in held/ are about: `Box<Process>`, and the types `Parts` and `Held`,
-- into which such a box is converted and which own the same memory.
use mir.Syntax.{impl, tnil, dnil}
use mathlib.Core.List.{[]}
use denote.Signature.{Slot, plain}
use Rattle.std_alloc.proofs.BoxSteps.Form.{Bx}
use Rattle.std_heap.specs.contracts.Global as Heap
use Rattle.std_heap.specs.contracts.GlobalAllocator.TheImpl.{ghosts, dict}
use Rattle.std_heap.proofs.Global.TheLaws as heap
use Rattle.dw_process.proofs.process.Process.TheLaws as process
use Rattle.dwcheck_c.specs.Held.{the_process}
use Rattle.dwcheck_c.specs.contracts.modules_pointer.parts.Parts as Parts
use Rattle.dwcheck_c.specs.contracts.modules_pointer.Held as Held

abbrev pub E : Bx
E = record { row = the_process; laws = process.the_row_laws; al = record { row = Heap.the_row; laws = heap.the_row_laws; g = ghosts; d = dict; drops = impl [] tnil dnil } }

abbrev pub FromParts : Slot 0
FromParts = plain (λ _. Parts.the_row the_process Heap.the_row ghosts)

abbrev pub FromHeld : Slot 0
FromHeld = plain (λ _. Held.the_row)
