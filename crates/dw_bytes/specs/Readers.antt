-- What a call that reads returns, and where it leaves the cursor after a fault.
use Rattle.std.specs.Prelude.{◌≡◌, ◌≤◌, ◌+◌, ℕ, length, Result, Ok, Err}
use Rattle.dw_bytes.specs.declared.fault.Fault.{Fault}
use Rattle.dw_bytes.specs.Reading.{ReadPosition}

-- A call with a cursor at `old` gave the result that `read` gives there, its value converted by
-- `view`. After a value, the cursor is at `new`, where `read` ends. After a fault, the cursor may
-- be anywhere.
abbrev pub ParsesBy : {X Y : Type 0} → (X → Y) → (ReadPosition → Result (Y × ReadPosition) Fault) → ReadPosition → Result X Fault
    → ReadPosition → Type 0
ParsesBy view read old (Ok v) new = read old ≡ Ok (view v, new)
ParsesBy view read old (Err fault) new = read old ≡ Err fault

-- if the result is a fault, its offset is at most the offset of the end of the bytes at r
abbrev pub IsRefusedWithin : {X : Type 0} → ReadPosition → Result X Fault → Type 0
IsRefusedWithin r (Ok x) = Unit {0}
IsRefusedWithin r (Err fault) = fault.at ≤ r.position + length r.rest

-- A call that was passed the offset `at` gave the result that `read` gives there, its value
-- converted by `view`. With a value, the call also gave the offset where `read` ends. `from` turns
-- an offset into a position to read at.
abbrev pub ReadsFrom : {X Y : Type 0} → (X → Y) → (ReadPosition → Result (Y × ReadPosition) Fault) → (ℕ → ReadPosition) → ℕ
    → Result (X × ℕ) Fault → Type 0
ReadsFrom view read from at (Ok found) = read (from at) ≡ Ok (view found.0, from found.1)
ReadsFrom view read from at (Err fault) = read (from at) ≡ Err fault
