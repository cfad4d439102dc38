-- A module whose rows come from an `.eh_frame` section: what adding it makes of a process, and why
-- it isn't added.
use Rattle.std.specs.Prelude.{◌≡◌, ◌⊎◌, ◌&&◌, ℕ, Bool, true, false, List, Option, Some, None}
use Rattle.dw_bytes.specs.Answers.{memory, values_in}
use Rattle.dw_bytes.specs.declared.fault.Fault.{Fault}
use Rattle.dw_bytes.specs.declared.target.Target.{Target}
use Rattle.dw_eh_rows.specs.KeptRecords.{kept_frame_of, kept_of, whole_fault}
use Rattle.dw_eh_rows.specs.Section.{eh_frame_of, eh_section_fault}
use Rattle.dw_eh_rows.specs.Signals.{signal_frames}
use Rattle.dw_eh_rows.specs.declared.signals.SignalRange.{SignalRange}
use Rattle.dw_eh_frame.specs.Records.{eh_records_of}
use Rattle.dw_rows.specs.Section.{FrameSection, IsChecked}
use Rattle.dw_signed_rows.specs.SignedRanges.{has_signed}
use Rattle.dw_signed_rows.specs.SignedSections.{is_signed_of}
use Rattle.dw_process.specs.Marks.{Marks}
use Rattle.dw_process.specs.Processes.{IsAddedWith, ProcessState}
use Rattle.dw_process.specs.Refusals.{IsRefusedWith}
use Rattle.dw_process.specs.declared.address_range.AddressRange.{AddressRange}
use Rattle.dw_process.specs.declared.eh_frame.EhSection.{EhSection}
use Rattle.dw_process.specs.declared.loaded_module.LoadedModule.{LoadedModule}
use Rattle.dw_process.specs.declared.refusal.Refusal.{Refusal}
use Rattle.dw_process.specs.declared.refusal.Refusal.TheVariants.{Section, Room, Range, Overlaps}

-- the first fault of a section
abbrev pub first_fault_of : EhSection → Target → Option Fault
first_fault_of s target = eh_section_fault s.is_aarch64 s.bases target s.bytes.now

-- `frame` is the section, with its CIEs and FDEs as they are read where they lie. It has no fault, so
-- it is checked: each address that one of its FDEs covers has exactly one row (law `exact_eh_rows`).
pub record IsFrameOf (s : EhSection) (target : Target) (frame : FrameSection) : Type 0 where
  pub accepted : first_fault_of s target ≡ None
  pub is : frame ≡ eh_frame_of s.is_aarch64 s.bases target s.bytes.now
  pub checked : IsChecked frame

-- the addresses of the section's signal frames
abbrev pub signals_of : EhSection → Target → List SignalRange
signals_of s target = signal_frames (values_in (eh_records_of s.is_aarch64 s.bases target s.bytes.now))

-- Whether the return address is signed in the row of an address as linked. Only programs for aarch64 say so.
abbrev pub is_signed_by : EhSection → FrameSection → ℕ → Bool
is_signed_by s frame a = s.is_aarch64 && is_signed_of frame a

-- A module with the rows of the section is added, with its signal frames, and with the addresses at which
-- return addresses are signed.
pub record IsEhAdded (s : EhSection) (load_address : ℕ) (given : Option AddressRange) (cookie room : ℕ) (old : ProcessState) (id : ℕ)
    (new : ProcessState) : Type 0 where
  pub frame : FrameSection
  pub is : IsFrameOf s old.target frame
  pub marks : Marks
  pub signals : marks.signals ≡ signals_of s old.target
  pub signed : (a : ℕ) → has_signed marks.signed a ≡ is_signed_by s frame a
  pub rows : IsAddedWith frame marks load_address given cookie room old id new

-- the fault is the first one of the section
abbrev pub IsEhFault : EhSection → Target → Fault → Type 0
IsEhFault s target fault = first_fault_of s target ≡ Some fault

-- the section has no fault, and `IsRefusedWith` says why its rows aren't added
pub record AreRowsRefused (s : EhSection) (target : Target) (load_address : ℕ) (given : Option AddressRange) (room : ℕ) (modules : List LoadedModule)
    (why : Refusal) : Type 0 where
  pub frame : FrameSection
  pub is : IsFrameOf s target frame
  pub refused : IsRefusedWith frame load_address given room modules why

-- `Section fault`: memory ran out, or `fault` is the fault of the section. In the other cases the
-- section has no fault.
abbrev pub IsEhRefused : EhSection → Target → ℕ → Option AddressRange → ℕ → List LoadedModule → Refusal → Type 0
IsEhRefused s target load_address given room modules (Section fault) = (fault ≡ memory) ⊎ IsEhFault s target fault
IsEhRefused s target load_address given room modules Room = AreRowsRefused s target load_address given room modules Room
IsEhRefused s target load_address given room modules Range = AreRowsRefused s target load_address given room modules Range
IsEhRefused s target load_address given room modules (Overlaps id) = AreRowsRefused s target load_address given room modules (Overlaps id)

-- ---- without bad records

-- the fault of a section as a whole
abbrev pub whole_fault_of : EhSection → Target → Option Fault
whole_fault_of s target = whole_fault s.is_aarch64 s.bases target s.bytes.now

-- `frame` is the section, with the CIEs and FDEs that are kept. It is checked: each address that one
-- of these FDEs covers has exactly one row.
pub record IsKeptFrameOf (s : EhSection) (target : Target) (frame : FrameSection) : Type 0 where
  pub accepted : whole_fault_of s target ≡ None
  pub is : frame ≡ kept_frame_of s.is_aarch64 s.bases target s.bytes.now
  pub checked : IsChecked frame

-- the addresses of the signal frames that are kept
abbrev pub kept_signals_of : EhSection → Target → List SignalRange
kept_signals_of s target = signal_frames (kept_of s.is_aarch64 s.bases target s.bytes.now).kept

-- A module with the rows and the marks of what is kept is added.
pub record IsAddedLeavingOut (s : EhSection) (load_address : ℕ) (given : Option AddressRange) (cookie room : ℕ) (old : ProcessState) (id : ℕ)
    (new : ProcessState) : Type 0 where
  pub frame : FrameSection
  pub is : IsKeptFrameOf s old.target frame
  pub marks : Marks
  pub signals : marks.signals ≡ kept_signals_of s old.target
  pub signed : (a : ℕ) → has_signed marks.signed a ≡ is_signed_by s frame a
  pub rows : IsAddedWith frame marks load_address given cookie room old id new

-- the fault is that of the section as a whole
abbrev pub IsWholeFault : EhSection → Target → Fault → Type 0
IsWholeFault s target fault = whole_fault_of s target ≡ Some fault

-- the section as a whole has no fault, and `IsRefusedWith` says why its rows aren't added
pub record AreKeptRowsRefused (s : EhSection) (target : Target) (load_address : ℕ) (given : Option AddressRange) (room : ℕ)
    (modules : List LoadedModule) (why : Refusal) : Type 0 where
  pub frame : FrameSection
  pub is : IsKeptFrameOf s target frame
  pub refused : IsRefusedWith frame load_address given room modules why

-- `Section fault`: memory ran out, or `fault` is that of the section as a whole. In the other cases it
-- has none.
abbrev pub IsRefusedLeavingOut : EhSection → Target → ℕ → Option AddressRange → ℕ → List LoadedModule → Refusal → Type 0
IsRefusedLeavingOut s target load_address given room modules (Section fault) = (fault ≡ memory) ⊎ IsWholeFault s target fault
IsRefusedLeavingOut s target load_address given room modules Room = AreKeptRowsRefused s target load_address given room modules Room
IsRefusedLeavingOut s target load_address given room modules Range = AreKeptRowsRefused s target load_address given room modules Range
IsRefusedLeavingOut s target load_address given room modules (Overlaps id) =
    AreKeptRowsRefused s target load_address given room modules (Overlaps id)

-- ---- `.eh_frame`, with all its records (`false`) or without bad ones (`true`)

-- the fault for which the section is refused
abbrev pub eh_fault_of : Bool → EhSection → Target → Option Fault
eh_fault_of false s target = first_fault_of s target
eh_fault_of true s target = whole_fault_of s target

-- `frame` is the section, or what is kept of it
abbrev pub IsEhFrameOf : Bool → EhSection → Target → FrameSection → Type 0
IsEhFrameOf false s target frame = IsFrameOf s target frame
IsEhFrameOf true s target frame = IsKeptFrameOf s target frame

-- the addresses of its signal frames
abbrev pub eh_signals_of : Bool → EhSection → Target → List SignalRange
eh_signals_of false s target = signals_of s target
eh_signals_of true s target = kept_signals_of s target

-- these are its signal frames, and the addresses at which it says that return addresses are signed
pub record AreMarksOf (leaves_out : Bool) (s : EhSection) (target : Target) (frame : FrameSection) (marks : Marks) : Type 0 where
  pub signals : marks.signals ≡ eh_signals_of leaves_out s target
  pub signed : (a : ℕ) → has_signed marks.signed a ≡ is_signed_by s frame a
