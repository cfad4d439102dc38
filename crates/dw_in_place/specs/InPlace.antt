-- One FDE of an `.eh_frame` section with its CIE, read and checked without the rest of the section
-- (LSB Core, section 10.6.1).
use Rattle.std.specs.Prelude.{ℕ, nat_le, Bool, if◌then◌else◌, List, [], ◌∷◌, Option, Some, None, Result, Ok, Err}
use Rattle.std.specs.Option.{option_or}
use Rattle.dw_bytes.specs.declared.target.Target.{Target}
use Rattle.dw_bytes.specs.declared.fault.Fault.{Fault}
use Rattle.dw_bytes.specs.Reading.{◌>>=◌, section_from}
use Rattle.dw_rules.specs.Rules.{Row}
use Rattle.dw_rules.specs.ProgramFault.{cie_fault, fde_fault, end_of}
use Rattle.dw_rows.specs.Section.{FrameSection, frame_by, covers, row_of}
use Rattle.dw_eh_frame.specs.declared.pointer.Bases.{Bases}
use Rattle.dw_eh_frame.specs.Records.{EhFde, eh_record_at, lost}
use Rattle.dw_eh_rows.specs.Signals.{fde_in}

-- A section in place: whether its programs are for aarch64, where it is, how its numbers are
-- read, and its bytes.
pub record SectionInPlace : Type 0 where
  pub is_aarch64 : Bool
  pub bases : Bases
  pub target : Target
  pub bytes : List ℕ

abbrev pub lying : Bool → Bases → Target → List ℕ → SectionInPlace
lying is_aarch64 bases target section = record { is_aarch64 = is_aarch64; bases = bases; target = target; bytes = section }

-- ---- the first fault

-- whether the CIE ends where the FDE begins, or before it, as it does in an accepted section. The
-- LSB doesn't ask for this.
abbrev pub is_after_cie : EhFde → Bool
is_after_cie e = nat_le (end_of e.cie.cie.program) e.fde.offset

-- The first fault of an FDE that was read: its CIE isn't before it, or else that of its CIE's
-- program, or else that of its own program. Both programs are checked up to their ends.
abbrev pub fde_in_place_fault : EhFde → Option Fault
fde_in_place_fault e = if is_after_cie e then option_or (cie_fault e.cie.cie) (fde_fault e.cie.cie e.fde) else Some (lost e)

-- ---- the FDE at an offset, for an address

abbrev pub unless_fault : Option Fault → EhFde → Result (Option EhFde) Fault
unless_fault None e = Ok (Some e)
unless_fault (Some fault) e = Err fault

-- an FDE that covers the address a, or its fault; none if the record is no FDE or doesn't cover it
abbrev pub covering : ℕ → Option EhFde → Result (Option EhFde) Fault
covering a None = Ok None
covering a (Some e) = if covers a e.fde then unless_fault (fde_in_place_fault e) e else Ok None

-- What is read at an offset of a section, for an address: the first fault of the record there, in
-- reading it or in its programs; or the FDE, if it covers the address; or none. An FDE that doesn't
-- cover the address is only read.
unfoldable pub fde_at : Bool → Bases → Target → List ℕ → ℕ → ℕ → Result (Option EhFde) Fault
fde_at is_aarch64 bases target section at a =
    eh_record_at is_aarch64 bases section (section_from target section at) >>= λ found. covering a (fde_in found.0)

-- what is read at an offset of a section that lies somewhere
abbrev pub found_at : SectionInPlace → ℕ → ℕ → Result (Option EhFde) Fault
found_at s at a = fde_at s.is_aarch64 s.bases s.target s.bytes at a

-- ---- its row

-- the FDE and its CIE as a section that has no other records
abbrev pub alone : Target → List ℕ → EhFde → FrameSection
alone target section e = frame_by target section (e.cie.cie ∷ []) (e.fde ∷ [])

-- the row of the address a that the FDE has, if it covers a
abbrev pub row_of_fde : Target → List ℕ → EhFde → ℕ → Option Row
row_of_fde target section e a = row_of (alone target section e) a
