-- What a call that writes a text has written, by its result.
use Rattle.std.specs.Prelude.{◌≡◌, ℕ, Bool, true, false, List, [], Option, Result, Ok, Err}
use Rattle.std.specs.Io.KnownBytes.{Appends}
use Rattle.dw_check.specs.SinkBytes.{AppendsFront}
use Rattle.dw_check.specs.declared.stop.ReportFault.{ReportFault}
use Rattle.dw_check.specs.declared.stop.ReportFault.TheVariants.{Memory, Write}
use Rattle.dw_check.specs.declared.writer.Writer.{Writer}

-- Both writers have the same sink, and show addresses in the same size.
abbrev pub IsSame : {S : Type 0} → Writer S → Writer S → Type 0
IsSame old new = (new.sink.ghost_name ≡ old.sink.ghost_name) × (new.size ≡ old.size)

-- A call wrote all of the text if it succeeded, and a beginning of the text if it failed.
abbrev pub Writes : Option (List ℕ) → Option (List ℕ) → Result (Unit {0}) ReportFault → List ℕ → Type 0
Writes old new (Ok _) text = Appends old new text
Writes old new (Err _) text = AppendsFront old new text

-- For a text that is sent only when it is complete: a call wrote all of the text if it succeeded,
-- nothing if memory ran out, and a beginning of the text if the sink stopped.
abbrev pub WritesWhole : Option (List ℕ) → Option (List ℕ) → Result (Unit {0}) ReportFault → List ℕ → Type 0
WritesWhole old new (Ok _) text = Appends old new text
WritesWhole old new (Err Memory) text = Appends old new []
WritesWhole old new (Err Write) text = AppendsFront old new text

-- whether a call with this result left the sink stopped
abbrev pub is_write : Result (Unit {0}) ReportFault → Bool
is_write (Ok _) = false
is_write (Err Memory) = false
is_write (Err Write) = true
