-- The bytes that a source has left, if they are known, and how far it has been read.
use Rattle.std.specs.Prelude.{ℕ, ◌==◌, if◌then◌else◌, List, Option, Result, Ok, Err}
use Rattle.std.specs.Io.KnownBytes.{Consumes, IsAtEnd}
use Rattle.dw_check.specs.declared.sink.Stopped.{Stopped}
use Rattle.dw_check.specs.declared.source.Reads.{Reads}
use Rattle.dw_check.specs.declared.source.Reading.{Reading}
use Rattle.dw_check.specs.declared.source.Reading.TheVariants.{Open, Ended, Failed}
use Rattle.dw_check.specs.declared.source.LoadFault.{LoadFault}
use Rattle.dw_check.specs.declared.source.LoadFault.TheVariants.{Read, Memory}

-- If the bytes of a source are known: it had exactly `bytes` left before (`old`), and has no bytes
-- left now (`new`).
abbrev pub GivesAll : Option (List ℕ) → Option (List ℕ) → List ℕ → Type 0
GivesAll old new bytes = Consumes old new bytes × IsAtEnd new

-- If the bytes of a source are known: it gave a beginning, perhaps empty, of the bytes that it had
-- left before (`old`), and has the rest left now (`new`).
abbrev pub GivesFront : Option (List ℕ) → Option (List ℕ) → Type 0
GivesFront old new = (front : List ℕ) × Consumes old new front

-- The state of a source after a read, by the read's result: the read failed, or returned 0 bytes
-- and the source has ended, or the source is still open.
abbrev pub reading_after : Result ℕ Stopped → Reading
reading_after (Err _) = Failed
reading_after (Ok n) = if n == 0 then Ended else Open

-- the state of a source after `load`, by its result
abbrev pub reading_after_load : {A : Type 0} → Result A LoadFault → Reading
reading_after_load (Ok _) = Ended
reading_after_load (Err Read) = Failed
reading_after_load (Err Memory) = Open

-- the reader that a source reads from
abbrev pub reader_of : {R : Type 0} → Reads R → R
reader_of r = r.inner

-- how far a `Reads` source has been read
abbrev pub reading_of : {R : Type 0} → Reads R → Reading
reading_of r = r.reading
