-- What C gets of a record of a frame section: the record that the section's own definitions give.
use Rattle.std.specs.Prelude.{◌≡◌, ℕ, ◌+◌, pos, Bool, true, false, if◌then◌else◌, List, ◌∷◌, drop, Result, Some, Ok, Err}
use Rattle.dw_bytes.specs.declared.fault.Fault.{Fault}
use Rattle.dw_bytes.specs.declared.target.Target.{Target}
use Rattle.dw_bytes.specs.Reading.{section_from}
use Rattle.dw_frame.specs.Records.{Cie, Fde, Record, cie_record, fde_record}
use Rattle.dw_frame.specs.Sections.{records_of}
use Rattle.dw_rules.specs.ProgramFault.{end_of}
use Rattle.dw_eh_frame.specs.Records.{EhRecord, eh_cie, eh_fde, eh_nothing, eh_record_at}
use Rattle.dw_process.specs.declared.eh_frame.EhSection.{EhSection}
use Rattle.dw_c_types.specs.Targets.{target_by}
use Rattle.dwcheck_c.specs.LoadedModules.{eh_section_in, kind_by}
use Rattle.dwcheck_c.specs.declared.module.CModule.{CModule}
use Rattle.dwcheck_c.specs.declared.module.SectionKind.{SectionKind}
use Rattle.dwcheck_c.specs.declared.module.SectionKind.TheVariants.{DebugFrame, EhFrame, EhFrameAarch64, EhFrameLeavingOut, EhFrameAarch64LeavingOut}
use Rattle.dwcheck_c.specs.declared.records.CRecord.{CRecord}
use Rattle.dwcheck_c.specs.declared.records.TheConstants.{RECORD_CIE, RECORD_FDE, RECORD_EMPTY}

-- ---- C's struct for a record

-- a record with nothing but its kind, where its program begins, whether its frames are those of
-- signals, and where it ends
abbrev pub begun : ℕ → ℕ → Bool → ℕ → CRecord
begun kind program is_signal next = record {
  next = next;
  program = program;
  cie = 0;
  start = 0;
  end = 0;
  code_alignment_factor = 0;
  data_alignment_factor = pos 0;
  kind = kind;
  version = 0;
  return_reg = 0;
  is_signal_frame = if is_signal then 1 else 0;
}

-- a CIE: its version, its factors and its return address register
abbrev pub cie_shown : Bool → Cie → ℕ → ℕ → CRecord
cie_shown is_signal c program next = record {
  next = next;
  program = program;
  cie = 0;
  start = 0;
  end = 0;
  code_alignment_factor = c.code_alignment_factor;
  data_alignment_factor = c.data_alignment_factor;
  kind = RECORD_CIE;
  version = c.version;
  return_reg = c.return_address_register;
  is_signal_frame = if is_signal then 1 else 0;
}

-- an FDE: its CIE, and the addresses that it covers
abbrev pub fde_shown : Bool → Fde → ℕ → ℕ → CRecord
fde_shown is_signal f program next = record {
  next = next;
  program = program;
  cie = f.cie_pointer;
  start = f.initial_location;
  end = f.initial_location + f.address_range;
  code_alignment_factor = 0;
  data_alignment_factor = pos 0;
  kind = RECORD_FDE;
  version = 0;
  return_reg = 0;
  is_signal_frame = if is_signal then 1 else 0;
}

-- A record of `.debug_frame` that was read as if the section began at the offset `at`. It ends
-- where its program ends, and no frame is a signal's.
abbrev pub record_shown : ℕ → Record → CRecord
record_shown at (cie_record c) = cie_shown false c (at + c.program.position) (at + end_of c.program)
record_shown at (fde_record f) = fde_shown false f (at + f.program.position) (at + end_of f.program)

-- a record of `.eh_frame` that ends at the offset `next`
abbrev pub eh_record_shown : EhRecord → ℕ → CRecord
eh_record_shown (eh_cie e) next = cie_shown e.augmentation.is_signal e.cie e.cie.program.position next
eh_record_shown (eh_fde e) next = fde_shown e.cie.augmentation.is_signal e.fde e.fde.program.position next
eh_record_shown (eh_nothing at) next = begun RECORD_EMPTY at false next

-- ---- the record at an offset

-- What is left of a `.debug_frame` section from the offset `at` on begins with a record, and `out`
-- is C's struct for it. Its CIE pointer counts from the section's first byte.
pub record IsRecord (section : List ℕ) (target : Target) (at : ℕ) (out : CRecord) : Type 0 where
  pub found : Record
  pub others : List (Result Record Fault)
  pub read : records_of target (drop at section) ≡ Ok found ∷ others
  pub shown : out ≡ record_shown at found

-- it doesn't: what is read there first is this fault, at an offset that counts from `at`
pub record IsNoRecord (section : List ℕ) (target : Target) (at : ℕ) (fault : Fault) : Type 0 where
  pub found : Fault
  pub others : List (Result Record Fault)
  pub read : records_of target (drop at section) ≡ Err found ∷ others
  pub moved : fault ≡ record { kind = found.kind; at = at + found.at }

-- a record of `.eh_frame` begins at the offset `at`, and `out` is C's struct for it
pub record IsEhRecord (s : EhSection) (target : Target) (at : ℕ) (out : CRecord) : Type 0 where
  pub found : EhRecord
  pub next : ℕ
  pub read : eh_record_at s.is_aarch64 s.bases s.bytes.now (section_from target s.bytes.now at) ≡ Ok (found, section_from target s.bytes.now next)
  pub shown : out ≡ eh_record_shown found next

-- why none can be read there
abbrev pub IsNoEhRecord : EhSection → Target → ℕ → Fault → Type 0
IsNoEhRecord s target at fault = eh_record_at s.is_aarch64 s.bases s.bytes.now (section_from target s.bytes.now at) ≡ Err fault

-- the same by the kind of a module's section
abbrev pub IsReadBy : SectionKind → CModule → Target → ℕ → CRecord → Type 0
IsReadBy DebugFrame m target at out = IsRecord m.frame.now target at out
IsReadBy EhFrame m target at out = IsEhRecord (eh_section_in false m) target at out
IsReadBy EhFrameAarch64 m target at out = IsEhRecord (eh_section_in true m) target at out
IsReadBy EhFrameLeavingOut m target at out = IsEhRecord (eh_section_in false m) target at out
IsReadBy EhFrameAarch64LeavingOut m target at out = IsEhRecord (eh_section_in true m) target at out

abbrev pub IsUnreadBy : SectionKind → CModule → Target → ℕ → Fault → Type 0
IsUnreadBy DebugFrame m target at fault = IsNoRecord m.frame.now target at fault
IsUnreadBy EhFrame m target at fault = IsNoEhRecord (eh_section_in false m) target at fault
IsUnreadBy EhFrameAarch64 m target at fault = IsNoEhRecord (eh_section_in true m) target at fault
IsUnreadBy EhFrameLeavingOut m target at fault = IsNoEhRecord (eh_section_in false m) target at fault
IsUnreadBy EhFrameAarch64LeavingOut m target at fault = IsNoEhRecord (eh_section_in true m) target at fault

-- the module's section has a record at the offset, and `out` is C's struct for it
pub record ShowsRecord (m : CModule) (at : ℕ) (out : CRecord) : Type 0 where
  pub target : Target
  pub target_is : target_by m.order m.address_size ≡ Some target
  pub kind : SectionKind
  pub kind_is : kind_by m.kind ≡ Some kind
  pub is : IsReadBy kind m target at out

-- no record can be read at the offset, and `fault` says why
pub record HasUnread (m : CModule) (at : ℕ) (fault : Fault) : Type 0 where
  pub target : Target
  pub target_is : target_by m.order m.address_size ≡ Some target
  pub kind : SectionKind
  pub kind_is : kind_by m.kind ≡ Some kind
  pub is : IsUnreadBy kind m target at fault
