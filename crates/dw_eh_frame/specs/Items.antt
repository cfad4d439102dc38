-- Reading a section on after a record that can't be read: the length of each record says where the
-- next one begins. Only a length that can't be read ends the section.
use Rattle.std.specs.Prelude.{ℕ, Bool, List, Result, Ok, Err}
use Rattle.dw_bytes.specs.declared.target.Target.{Target}
use Rattle.dw_bytes.specs.declared.fault.Fault.{Fault}
use Rattle.dw_bytes.specs.Reading.{ReadPosition, ◌>>=◌, section_from}
use Rattle.dw_bytes.specs.Bodies.{framed_at}
use Rattle.dw_bytes.specs.Sequence.{sequence_of}
use Rattle.dw_eh_frame.specs.declared.pointer.Bases.{Bases}
use Rattle.dw_eh_frame.specs.declared.record.EhRecord as declared
use Rattle.dw_eh_frame.specs.Records.{EhRecord, eh_body_at}
use Rattle.dw_eh_frame.specs.Views.{eh_record_of}

-- the offset of a record, and the record, or the fault for which its body can't be read
abbrev pub Item : Type 0
Item = ℕ × Result EhRecord Fault

unfoldable pub item_at : Bool → Bases → List ℕ → ReadPosition → Result (Item × ReadPosition) Fault
item_at is_aarch64 bases section r = do
  framed ← framed_at r
  Ok ((r.position, eh_body_at is_aarch64 bases section r.position framed.0.0 framed.0.1), framed.1)

-- what is read of a section from an offset on, up to its end or the first length that can't be read
unfoldable pub items_from : Bool → Bases → Target → List ℕ → ℕ → List (Result Item Fault)
items_from is_aarch64 bases target section at = sequence_of (item_at is_aarch64 bases section) (section_from target section at)

abbrev pub items_of : Bool → Bases → Target → List ℕ → List (Result Item Fault)
items_of is_aarch64 bases target section = items_from is_aarch64 bases target section 0

-- what a record that the code reads, or its fault, stands for
abbrev pub read_of : Result declared.EhRecord Fault → Result EhRecord Fault
read_of (Ok x) = Ok (eh_record_of x)
read_of (Err fault) = Err fault

-- the item at an offset
abbrev pub item_with : ℕ → Result declared.EhRecord Fault → Item
item_with at read = (at, read_of read)
