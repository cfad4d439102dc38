-- Exact copies of FDEs. If several objects have the same function, a linker may keep one of the
-- functions and all their FDEs. These are one FDE here: the first.
use Rattle.std.specs.Prelude.{◌≡◌, ◌<◌, Contains, ℕ, ◌==◌, ◌&&◌, nat_lt, Bool, false, if◌then◌else◌, List, [], ◌∷◌, ◌++◌, Option, Some, None, find}
use Rattle.std.specs.Str.{bytes_eq}
use Rattle.dw_bytes.specs.declared.target.Target.{Target}
use Rattle.dw_bytes.specs.Answers.{values_in}
use Rattle.dw_frame.specs.Records.{Fde, Record, cie_record, fde_record}
use Rattle.dw_eh_frame.specs.declared.pointer.Bases.{Bases}
use Rattle.dw_eh_frame.specs.Records.{all_in_dwarf, eh_records_of}

-- the FDE f is a copy of g: it has the same CIE, as many addresses, and a program of the same bytes
abbrev pub repeats : Fde → Fde → Bool
repeats g f = (g.address_range == f.address_range) && (g.cie_pointer == f.cie_pointer) && bytes_eq g.program.rest f.program.rest

-- whether the FDE covers addresses, and the address a is the first of them
abbrev pub covers_from : ℕ → Fde → Bool
covers_from a f = nat_lt 0 f.address_range && (f.initial_location == a)

abbrev pub repeats_one : Option Fde → Fde → Bool
repeats_one None f = false
repeats_one (Some g) f = repeats g f

-- The FDE f, which comes after the FDEs `before`, is an exact copy. It covers addresses. It is a copy
-- of the first of those FDEs that begin at the same address and cover addresses.
abbrev pub is_copy : List Fde → Fde → Bool
is_copy before f = nat_lt 0 f.address_range && repeats_one (find (covers_from f.initial_location) before) f

-- records without exact copies, where the FDEs `before` are those that were kept before
abbrev pub distinct_after : List Fde → List Record → List Record
distinct_after before [] = []
distinct_after before (cie_record c ∷ records) = cie_record c ∷ distinct_after before records
distinct_after before (fde_record f ∷ records) =
    if is_copy before f then distinct_after before records else fde_record f ∷ distinct_after (before ++ f ∷ []) records

-- FDEs without exact copies, where the FDEs `before` are those that were kept before
abbrev pub without_copies : List Fde → List Fde → List Fde
without_copies before [] = []
without_copies before (f ∷ fdes) =
    if is_copy before f then without_copies before fdes else f ∷ without_copies (before ++ f ∷ []) fdes

abbrev pub distinct : List Record → List Record
distinct records = distinct_after [] records

-- no two FDEs among the records cover the same addresses
abbrev pub AreDistinct : List Record → Type 0
AreDistinct records = (g f : Fde) → Contains records (fde_record g) → Contains records (fde_record f) → 0 < f.address_range
    → g.address_range ≡ f.address_range → g.initial_location ≡ f.initial_location → g ≡ f

-- the records that are read of a section, as DWARF has them, without exact copies
abbrev pub eh_frame_records : Bool → Bases → Target → List ℕ → List Record
eh_frame_records is_aarch64 bases target section = distinct (all_in_dwarf (values_in (eh_records_of is_aarch64 bases target section)))

-- The FDE g says what f says: it covers the same addresses, and has the same CIE and a program of the
-- same bytes.
pub record SaysTheSame (g f : Fde) : Type 0 where
  pub initial_location : g.initial_location ≡ f.initial_location
  pub address_range : g.address_range ≡ f.address_range
  pub cie_pointer : g.cie_pointer ≡ f.cie_pointer
  pub bytes : g.program.rest ≡ f.program.rest
