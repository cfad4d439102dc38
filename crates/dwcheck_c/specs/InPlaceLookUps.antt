-- Look-ups in place: what C passes for one, and what it gets (LSB Core, section 10.6).
use Rattle.std.specs.Prelude.{◌≡◌, ℕ, ◌^◌, ◌<◌, ◌≤◌, ◌⊎◌, ◌==◌, ◌||◌, if◌then◌else◌, Bool, true, false, List, [], ◌∷◌, length, IsSome, Option, Some, None, Result, Ok, Err}
use Rattle.dw_bytes.specs.Answers.{memory}
use Rattle.dw_bytes.specs.declared.fault.Fault.{Fault}
use Rattle.dw_bytes.specs.declared.fault.FaultKind.TheVariants.{Memory}
use Rattle.dw_bytes.specs.declared.target.Target.{Target}
use Rattle.dw_rules.specs.Abi.{Abi}
use Rattle.dw_rules.specs.Rules.{Row}
use Rattle.dw_unwind.specs.MissingPlaces.{LacksPlace}
use Rattle.dw_unwind.specs.Modules.{as_linked}
use Rattle.dw_eh_frame.specs.Records.{EhFde}
use Rattle.dw_compact_rows.specs.CompactRuns.{row_of_compact}
use Rattle.dw_eh_frame.specs.Views.{eh_fde_of}
use Rattle.dw_in_place.specs.declared.compact.CompactAnswer.{CompactAnswer}
use Rattle.dw_in_place.specs.declared.compact.CompactAnswer.TheVariants as answers
use Rattle.dw_in_place.specs.InPlace.{SectionInPlace, lying, row_of_fde}
use Rattle.dw_in_place.specs.LookUps.{fde_by_entry}
use Rattle.dw_in_place.specs.Scans.{Scans, fde_by_place}
use Rattle.dw_in_place.specs.SearchTables.{Finds, Table, table_in}
use Rattle.dw_signed_rows.specs.SignedRows.{is_signed_in}
use Rattle.dw_c_types.specs.ProcessWalks.{Unwinding, through_held}
use Rattle.dw_c_types.specs.Rows.{IsRowOf}
use Rattle.dw_c_types.specs.Targets.{target_by}
use Rattle.dw_c_types.specs.declared.answer.CFrame.{CFrame}
use Rattle.dw_c_types.specs.declared.row.CRow.{CRow}
use Rattle.dw_c_types.specs.declared.row.CRule.{CRule}
use Rattle.dw_c_types.specs.declared.status.TheConstants.{BAD_KIND, BAD_TARGET, NO_ROOM, NO_TABLE, REFUSED, TOO_LONG}
use Rattle.dwcheck_c.specs.LoadedModules.{eh_section_in}
use Rattle.dwcheck_c.specs.WalkCursors.{IsStepBy, looked_up_by, registers_in, through_rows}
use Rattle.dwcheck_c.specs.declared.cursor.CCursor.{CCursor}
use Rattle.dwcheck_c.specs.declared.in_place.CHeader.{CHeader}
use Rattle.dwcheck_c.specs.declared.in_place.NoAnswer.{NoAnswer}
use Rattle.dwcheck_c.specs.declared.in_place.NoAnswer.TheVariants.{BadKind, BadTarget, NoTable, Refused, TooLong}
use Rattle.dwcheck_c.specs.declared.module.CModule.{CModule}

-- ---- what C passes

-- whether the programs of a section are for aarch64, by C's number for an `.eh_frame` section; None
-- for any other number
abbrev pub is_aarch64_by : ℕ → Option Bool
is_aarch64_by n = if n == 1 || n == 5 then Some false else if n == 2 || n == 6 then Some true else None

-- the section that C gives
abbrev pub section_in : Bool → Target → CModule → SectionInPlace
section_in is_aarch64 target m = lying is_aarch64 (eh_section_in is_aarch64 m).bases target m.frame.now

-- The table of a header that C gives. An empty header is none: then there is no table.
abbrev pub IsTableBy : Target → ℕ → List ℕ → Option Table → Type 0
IsTableBy target address [] table = table ≡ None
IsTableBy target address (byte ∷ bytes) table = (table ≡ table_in target address (byte ∷ bytes)) × IsSome table

-- C gives the section `s`, of fewer than 2^32 bytes, and a header with the search table `table`, or no
-- header.
pub record AreInPlace (m : CModule) (h : CHeader) (s : SectionInPlace) (table : Option Table) : Type 0 where
  pub short : length m.frame.now < 2 ^ 32
  pub target : Target
  pub target_is : target_by m.order m.address_size ≡ Some target
  pub is_aarch64 : Bool
  pub kind_is : is_aarch64_by m.kind ≡ Some is_aarch64
  pub section : s ≡ section_in is_aarch64 target m
  pub table_is : IsTableBy target h.address h.bytes.now table

-- something can be looked up with what C passes
abbrev pub IsUsable : CModule → CHeader → Type 0
IsUsable m h = (s : SectionInPlace) × (table : Option Table) × AreInPlace m h s table

-- There is a header, but no table: it isn't as linkers write it.
pub record LacksTable (m : CModule) (h : CHeader) : Type 0 where
  pub target : Target
  pub target_is : target_by m.order m.address_size ≡ Some target
  pub given : 0 < length h.bytes.now
  pub none : table_in target h.address h.bytes.now ≡ None

-- the section is one of `.eh_frame` of fewer than 2^32 bytes
abbrev pub IsShortEhFrame : CModule → Type 0
IsShortEhFrame m = (length m.frame.now < 2 ^ 32) × IsSome (is_aarch64_by m.kind)

-- The status that says why nothing can be looked up with what C passes: the first reason, in the order
-- of these lines.
abbrev pub IsUnusable : CModule → CHeader → ℕ → Type 0
IsUnusable m h status = ((status ≡ TOO_LONG) × (2 ^ 32 ≤ length m.frame.now))
    ⊎ ((status ≡ BAD_KIND) × (length m.frame.now < 2 ^ 32) × (is_aarch64_by m.kind ≡ None))
    ⊎ ((status ≡ BAD_TARGET) × IsShortEhFrame m × (target_by m.order m.address_size ≡ None))
    ⊎ ((status ≡ NO_TABLE) × IsShortEhFrame m × LacksTable m h)

-- ---- what is looked up

-- What a look-up of an address gives: what is read where the table leads, or, without a table, where
-- the first FDE is that covers the address.
abbrev pub LooksUp : SectionInPlace → Option Table → ℕ → Result (Option EhFde) Fault → Type 0
LooksUp s (Some t) a found = (entry : Option ℕ) × Finds t a entry × (fde_by_entry s t a entry ≡ found)
LooksUp s None a found = (place : Result (Option ℕ) Fault) × Scans s a place × (fde_by_place s a place ≡ found)

-- What a look-up of an address as loaded finds: an FDE that covers it, or none, or the first fault.
pub record IsLookedUp (m : CModule) (h : CHeader) (address : ℕ) (found : Result (Option EhFde) Fault) : Type 0 where
  pub section : SectionInPlace
  pub table : Option Table
  pub are : AreInPlace m h section table
  pub is : LooksUp section table (as_linked section.target m.load_address address) found

-- why a look-up of an address has no answer; `memory` says that there was no room for expressions
abbrev pub IsNoRow : CModule → CHeader → ℕ → NoAnswer → Type 0
IsNoRow m h address TooLong = 2 ^ 32 ≤ length m.frame.now
IsNoRow m h address BadKind = (length m.frame.now < 2 ^ 32) × (is_aarch64_by m.kind ≡ None)
IsNoRow m h address BadTarget = IsShortEhFrame m × (target_by m.order m.address_size ≡ None)
IsNoRow m h address NoTable = IsShortEhFrame m × LacksTable m h
IsNoRow m h address (Refused fault) = ((fault ≡ memory) × IsUsable m h) ⊎ IsLookedUp m h address (Err fault)

-- the status that C gets for this reason
abbrev pub Says : NoAnswer → ℕ → Type 0
Says TooLong result = result ≡ TOO_LONG
Says BadKind result = result ≡ BAD_KIND
Says BadTarget result = result ≡ BAD_TARGET
Says NoTable result = result ≡ NO_TABLE
Says (Refused fault) result = (result ≡ REFUSED) ⊎ ((result ≡ NO_ROOM) × (fault.kind ≡ Memory))

-- a look-up of an address finds an FDE, and this is its row
pub record HasRow (m : CModule) (h : CHeader) (address : ℕ) (target : Target) (e : EhFde) (row : Row) : Type 0 where
  pub section : SectionInPlace
  pub table : Option Table
  pub are : AreInPlace m h section table
  pub target_is : section.target ≡ target
  pub is : LooksUp section table (as_linked section.target m.load_address address) (Ok (Some e))
  pub row_is : row_of_fde section.target section.bytes e (as_linked section.target m.load_address address) ≡ Some row

-- what a look-up of a compact row says: this FDE has it, or there is none; or nothing is said
abbrev pub IsLookedUpCompactly : CModule → CHeader → ℕ → Target → CompactAnswer → Type 0
IsLookedUpCompactly m h address target (answers.Row row fde) = HasRow m h address target (eh_fde_of fde) (row_of_compact row)
IsLookedUpCompactly m h address target answers.Nothing = IsLookedUp m h address (Ok None)
IsLookedUpCompactly m h address target answers.Unsure = Unit {0}

-- ---- what C gets

-- C gets the row of an address, as that of a module without an id, and whether its frames are those
-- of signals.
pub record IsRowGiven (m : CModule) (h : CHeader) (address : ℕ) (row : CRow) (old new : List CRule) (is_signal : ℕ) : Type 0 where
  pub target : Target
  pub fde : EhFde
  pub found : Row
  pub has : HasRow m h address target fde found
  pub shown : IsRowOf (record {
    id = 0;
    cookie = m.cookie;
    load_address = m.load_address;
    target = target;
    row = found;
    return_register = fde.cie.cie.return_address_register;
  }) row old new
  pub signal : is_signal ≡ (if fde.cie.augmentation.is_signal then 1 else 0)

-- C is told whether the return address is signed in the row of an address.
pub record IsSignedGiven (m : CModule) (h : CHeader) (address is_signed : ℕ) : Type 0 where
  pub target : Target
  pub fde : EhFde
  pub found : Row
  pub has : HasRow m h address target fde found
  pub flag : is_signed ≡ (if is_signed_in fde.cie.cie fde.fde (as_linked target m.load_address address) then 1 else 0)

-- ---- steps

-- unwinding by a row of an FDE that was looked up for an address as linked
abbrev pub through_fde : Target → EhFde → Row → ℕ → Abi → (ℕ → Option ℕ) → ℕ → Unwinding
through_fde target e row linked = through_rows target (λ _ found. found ≡ Some (row, e.cie.cie.return_address_register))
    (λ _. e.cie.augmentation.is_signal) (λ _. is_signed_in e.cie.cie e.fde linked)

-- A step by the FDE that covers the address.
pub record IsStepByFde (m : CModule) (h : CHeader) (address : ℕ) (abi : Abi) (memory : ℕ → Option ℕ) (bits : ℕ) (old new : CCursor)
    (frame : CFrame) : Type 0 where
  pub target : Target
  pub fde : EhFde
  pub row : Row
  pub has : HasRow m h address target fde row
  pub step : IsStepBy (through_fde target fde row (as_linked target m.load_address address) abi memory bits) old new frame

-- A cursor takes a step by a look-up in place: by the FDE that covers the address that is looked up
-- for its frame; or, if there is none, its walk ends, as in a closed process. If there is no address
-- to look up, the walk ends too.
abbrev pub IsStepAt : CModule → CHeader → Option ℕ → Abi → (ℕ → Option ℕ) → ℕ → CCursor → CCursor → CFrame → Type 0
IsStepAt m h None abi memory bits old new frame = IsStepBy (through_held abi memory bits None) old new frame
IsStepAt m h (Some a) abi memory bits old new frame = IsStepByFde m h a abi memory bits old new frame
    ⊎ (IsLookedUp m h a (Ok None) × IsStepBy (through_held abi memory bits None) old new frame)

abbrev pub IsStepIn : CModule → CHeader → Abi → (ℕ → Option ℕ) → ℕ → CCursor → CCursor → CFrame → Type 0
IsStepIn m h abi memory bits old new frame = IsStepAt m h (looked_up_by old.stage old.address) abi memory bits old new frame

-- the frame that the cursor is at has a caller by its row, one of whose registers has a content but no
-- place in a cursor
pub record LacksPlaceIn (m : CModule) (h : CHeader) (address : ℕ) (abi : Abi) (memory : ℕ → Option ℕ) (c : CCursor) : Type 0 where
  pub target : Target
  pub fde : EhFde
  pub row : Row
  pub has : HasRow m h address target fde row
  pub lacks : LacksPlace (through_fde target fde row (as_linked target m.load_address address) abi memory 0).callers
      (registers_in c) (Some address)
