-- The bytes that a sink has accepted, if they are known.
use Rattle.std.specs.Prelude.{◌≡◌, ℕ, ◌==◌, ◌&&◌, not, Bool, true, List, ◌++◌, Option, Result, Ok, Err}
use Rattle.std.specs.Io.KnownBytes.{Appends}
use Rattle.dw_check.specs.declared.sink.Stopped.{Stopped}
use Rattle.dw_check.specs.declared.sink.Through.{Through}

-- a beginning of the text, perhaps all of it, is added to the bytes that the sink is known to have
-- accepted
abbrev pub AppendsFront : Option (List ℕ) → Option (List ℕ) → List ℕ → Type 0
AppendsFront old new text = (front : List ℕ) × (rest : List ℕ) × (front ++ rest ≡ text) × Appends old new front

-- Whether a write of `len` bytes stops the sink, by the result of the write. It does if the write
-- failed, or accepted nothing although there were bytes.
abbrev pub stops : Result ℕ Stopped → ℕ → Bool
stops (Err _) len = true
stops (Ok n) len = n == 0 && not (len == 0)

-- the writer that a sink passes its bytes to
abbrev pub writer_of : {W : Type 0} → Through W → W
writer_of t = t.inner

-- whether a sink has stopped: its writer failed, or accepted nothing although there were bytes
abbrev pub has_failed : {W : Type 0} → Through W → Bool
has_failed t = t.has_failed
