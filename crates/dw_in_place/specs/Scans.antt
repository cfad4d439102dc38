-- Going through the records of a section, to the first FDE that covers an address: what is done
-- without a table that leads there.
use Rattle.std.specs.Prelude.{◌≡◌, ℕ, ◌++◌, List, [], ◌∷◌, Contains, map, Option, Some, None, Result, Ok, Err}
use Rattle.dw_bytes.specs.declared.fault.Fault.{Fault}
use Rattle.dw_bytes.specs.Reading.{section_from}
use Rattle.dw_rows.specs.Section.{Covers}
use Rattle.dw_eh_frame.specs.Records.{EhFde, EhRecord, eh_cie, eh_fde, eh_nothing, eh_record_at, eh_records_from, eh_records_of}
use Rattle.dw_in_place.specs.InPlace.{SectionInPlace, found_at}

-- the record isn't an FDE that covers the address a
abbrev pub PassesBy : ℕ → EhRecord → Type 0
PassesBy a (eh_fde e) = ¬ Covers e.fde a
PassesBy a (eh_cie e) = Unit {0}
PassesBy a (eh_nothing at) = Unit {0}

-- The records before the offset `at` can be read, and none of them is an FDE that covers the address.
pub record ComesTo (s : SectionInPlace) (a at : ℕ) : Type 0 where
  pub before : List EhRecord
  pub read : eh_records_of s.is_aarch64 s.bases s.target s.bytes ≡ map Ok before ++ eh_records_from s.is_aarch64 s.bases s.target s.bytes at
  pub none : (x : EhRecord) → Contains before x → PassesBy a x

-- the first FDE that covers the address is at the offset `at`
pub record IsFirstAt (s : SectionInPlace) (a at : ℕ) : Type 0 where
  pub comes : ComesTo s a at
  pub fde : EhFde
  pub next : ℕ
  pub read : eh_record_at s.is_aarch64 s.bases s.bytes (section_from s.target s.bytes at) ≡ Ok (eh_fde fde, section_from s.target s.bytes next)
  pub covers : Covers fde.fde a

-- what comes after the records that were gone through: nothing, or the first fault of reading
abbrev pub EndsAt : SectionInPlace → ℕ → Option Fault → ℕ → Type 0
EndsAt s a None at = ComesTo s a at × (eh_records_from s.is_aarch64 s.bases s.target s.bytes at ≡ [])
EndsAt s a (Some fault) at = ComesTo s a at × (eh_records_from s.is_aarch64 s.bases s.target s.bytes at ≡ Err fault ∷ [])

-- Where the first FDE is that covers the address; none if all records can be read and none does; or the
-- first fault of reading, if no FDE before it does.
abbrev pub Scans : SectionInPlace → ℕ → Result (Option ℕ) Fault → Type 0
Scans s a (Ok (Some at)) = IsFirstAt s a at
Scans s a (Ok None) = (at : ℕ) × EndsAt s a None at
Scans s a (Err fault) = (at : ℕ) × EndsAt s a (Some fault) at

-- What a look-up of the address gives, given where the first FDE is that covers it: what is read
-- there.
abbrev pub fde_by_place : SectionInPlace → ℕ → Result (Option ℕ) Fault → Result (Option EhFde) Fault
fde_by_place s a (Ok (Some at)) = found_at s at a
fde_by_place s a (Ok None) = Ok None
fde_by_place s a (Err fault) = Err fault
