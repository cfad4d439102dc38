-- A look-up of an address by the search table and then in place, and when it gives what a check of
-- the whole section gives.
use Rattle.std.specs.Prelude.{◌≡◌, ◌<◌, ℕ, ◌+◌, ◌-◌, ◌^◌, nat_lt, if◌then◌else◌, List, length, Contains, Option, Some, None, option_and_then}
use Rattle.std.specs.Prelude.{Result, Ok}
use Rattle.dw_bytes.specs.declared.fault.Fault.{Fault}
use Rattle.dw_frame.specs.Records.{Fde}
use Rattle.dw_rules.specs.Rules.{Row}
use Rattle.dw_rows.specs.Section.{Covers}
use Rattle.dw_eh_frame.specs.Pointers.{wrapped}
use Rattle.dw_eh_frame.specs.Records.{EhFde}
use Rattle.dw_in_place.specs.SearchTables.{Table, IsEntryFor, IsInOrder, record_in}
use Rattle.dw_in_place.specs.InPlace.{SectionInPlace, found_at, row_of_fde}

-- how far the record that an entry names is after the address `start`, at which `.eh_frame` begins
abbrev pub record_offset : Table → ℕ → ℕ → ℕ
record_offset t start k = wrapped t.target (record_in t k + (2 ^ 64 - start))

-- What a look-up of the address a gives once a search has found an entry: what is read at the
-- offset that the entry names. None without an entry, or if the offset is past the section's end.
abbrev pub fde_by_entry : SectionInPlace → Table → ℕ → Option ℕ → Result (Option EhFde) Fault
fde_by_entry s t a None = Ok None
fde_by_entry s t a (Some k) =
    if nat_lt (record_offset t s.bases.section k) (length s.bytes) then found_at s (record_offset t s.bases.section k) a else Ok None

-- the row of the FDE that was found
abbrev pub row_by : SectionInPlace → ℕ → Option EhFde → Option Row
row_by s a found = option_and_then (λ e. row_of_fde s.target s.bytes e a) found

-- a look-up by an entry has no fault, and gives this row, or none
pub record GivesRow (s : SectionInPlace) (t : Table) (a : ℕ) (entry : Option ℕ) (row : Option Row) : Type 0 where
  pub found : Option EhFde
  pub is : fde_by_entry s t a entry ≡ Ok found
  pub row_is : row_by s a found ≡ row

-- an entry names the FDE's record, and is that of each address that the FDE covers
pub record LeadsTo (t : Table) (start : ℕ) (f : Fde) : Type 0 where
  pub entry : ℕ
  pub named : record_offset t start entry ≡ f.offset
  pub each : (a : ℕ) → Covers f a → IsEntryFor t a entry

-- The table is in order, leads to each of these FDEs that covers addresses, and names no other
-- records, and so no exact copies.
pub record LeadsToAll (t : Table) (start : ℕ) (fdes : List Fde) : Type 0 where
  pub in_order : IsInOrder t
  pub each : (f : Fde) → Contains fdes f → 0 < f.address_range → LeadsTo t start f
  pub only : (k : ℕ) → k < t.count → (f : Fde) × Contains fdes f × (record_offset t start k ≡ f.offset)
