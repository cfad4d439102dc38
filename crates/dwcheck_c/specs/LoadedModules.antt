-- What C passes to add a module, what the call makes of it, and what C gets for a module.
use Rattle.std.specs.Prelude.{◌≡◌, ℕ, ◌==◌, if◌then◌else◌, Bool, true, false, List, Option, Some, None}
use Rattle.dw_bytes.specs.declared.fault.Fault.{Fault}
use Rattle.dw_bytes.specs.declared.target.Target.{Target}
use Rattle.dw_rows.specs.Section.{section_fault}
use Rattle.dw_process.specs.EhModules.{IsEhAdded, IsEhFault, IsEhRefused, IsAddedLeavingOut, IsWholeFault, IsRefusedLeavingOut}
use Rattle.dw_process.specs.declared.eh_frame.EhSection.{EhSection}
use Rattle.dw_process.specs.Processes.{IsAdded, ProcessState}
use Rattle.dw_process.specs.Refusals.{IsRefused}
use Rattle.dw_process.specs.declared.address_range.AddressRange.{AddressRange}
use Rattle.dw_process.specs.declared.loaded_module.LoadedModule.{LoadedModule}
use Rattle.dw_process.specs.declared.refusal.Refusal.{Refusal}
use Rattle.dw_c_types.specs.Targets.{target_by}
use Rattle.dwcheck_c.specs.Handles.{modules_of, opened_for}
use Rattle.dwcheck_c.specs.declared.module.CModule.{CModule}
use Rattle.dwcheck_c.specs.declared.module.SectionKind.{SectionKind}
use Rattle.dwcheck_c.specs.declared.module.SectionKind.TheVariants.{DebugFrame, EhFrame, EhFrameAarch64, EhFrameLeavingOut, EhFrameAarch64LeavingOut}
use Rattle.dwcheck_c.specs.declared.module.CLoaded.{CLoaded}

-- the range that C gives for a module; None if it gives none
abbrev pub range_in : CModule → Option AddressRange
range_in m = if m.has_range == 0 then None else Some (record { first = m.first; last = m.last })

-- ---- its section

-- What the section is, by C's number for it. 4 more than the number of an `.eh_frame` section says that
-- bad records are left out.
abbrev pub kind_by : ℕ → Option SectionKind
kind_by n =
    if n == 0 then Some DebugFrame
    else if n == 1 then Some EhFrame
    else if n == 2 then Some EhFrameAarch64
    else if n == 5 then Some EhFrameLeavingOut
    else if n == 6 then Some EhFrameAarch64LeavingOut
    else None

-- an address that C may give; 0 says that it gives none
abbrev pub known_by : ℕ → Option ℕ
known_by address = if address == 0 then None else Some address

-- the module's `.eh_frame` section
abbrev pub eh_section_in : Bool → CModule → EhSection
eh_section_in is_aarch64 m = record {
  bytes = m.frame;
  bases = record { section = m.section_address; text_start = known_by m.text_start; data_start = known_by m.data_start };
  is_aarch64 = is_aarch64;
}

-- a module with the section's rows is added to an open process
abbrev pub IsAddedBy : SectionKind → CModule → ProcessState → ℕ → ProcessState → Type 0
IsAddedBy DebugFrame m old id new = IsAdded m.frame.now m.load_address (range_in m) m.cookie m.room old id new
IsAddedBy EhFrame m old id new = IsEhAdded (eh_section_in false m) m.load_address (range_in m) m.cookie m.room old id new
IsAddedBy EhFrameAarch64 m old id new = IsEhAdded (eh_section_in true m) m.load_address (range_in m) m.cookie m.room old id new
IsAddedBy EhFrameLeavingOut m old id new = IsAddedLeavingOut (eh_section_in false m) m.load_address (range_in m) m.cookie m.room old id new
IsAddedBy EhFrameAarch64LeavingOut m old id new = IsAddedLeavingOut (eh_section_in true m) m.load_address (range_in m) m.cookie m.room old id new

-- why it isn't added
abbrev pub IsRefusedBy : SectionKind → CModule → Target → List LoadedModule → Refusal → Type 0
IsRefusedBy DebugFrame m target modules why = IsRefused target m.frame.now m.load_address (range_in m) m.room modules why
IsRefusedBy EhFrame m target modules why = IsEhRefused (eh_section_in false m) target m.load_address (range_in m) m.room modules why
IsRefusedBy EhFrameAarch64 m target modules why = IsEhRefused (eh_section_in true m) target m.load_address (range_in m) m.room modules why
IsRefusedBy EhFrameLeavingOut m target modules why = IsRefusedLeavingOut (eh_section_in false m) target m.load_address (range_in m) m.room modules why
IsRefusedBy EhFrameAarch64LeavingOut m target modules why = IsRefusedLeavingOut (eh_section_in true m) target m.load_address (range_in m) m.room modules why

-- the first fault of the section, or of the section as a whole
abbrev pub IsFaultBy : SectionKind → CModule → Target → Fault → Type 0
IsFaultBy DebugFrame m target fault = section_fault target m.frame.now ≡ Some fault
IsFaultBy EhFrame m target fault = IsEhFault (eh_section_in false m) target fault
IsFaultBy EhFrameAarch64 m target fault = IsEhFault (eh_section_in true m) target fault
IsFaultBy EhFrameLeavingOut m target fault = IsWholeFault (eh_section_in false m) target fault
IsFaultBy EhFrameAarch64LeavingOut m target fault = IsWholeFault (eh_section_in true m) target fault

-- ---- added or not

-- A module of this target may be added: C's numbers stand for the target, and a process that is
-- open already has it.
pub record IsTargetFor (m : CModule) (held : Option ProcessState) (target : Target) : Type 0 where
  pub by_numbers : target_by m.order m.address_size ≡ Some target
  pub of_process : (opened_for target held).target ≡ target

-- The module is added with the id `id`; a closed process was opened first.
pub record IsModuleAdded (m : CModule) (old : Option ProcessState) (id : ℕ) (new : Option ProcessState) : Type 0 where
  pub target : Target
  pub target_is : IsTargetFor m old target
  pub kind : SectionKind
  pub kind_is : kind_by m.kind ≡ Some kind
  pub process : ProcessState
  pub opened : new ≡ Some process
  pub added : IsAddedBy kind m (opened_for target old) id process

-- the module may not be added, because of `why`
pub record IsModuleRefused (m : CModule) (old : Option ProcessState) (why : Refusal) : Type 0 where
  pub target : Target
  pub target_is : IsTargetFor m old target
  pub kind : SectionKind
  pub kind_is : kind_by m.kind ≡ Some kind
  pub refused : IsRefusedBy kind m target (modules_of old) why

-- the module's section has this fault
pub record HasFault (m : CModule) (old : Option ProcessState) (fault : Fault) : Type 0 where
  pub target : Target
  pub target_is : IsTargetFor m old target
  pub kind : SectionKind
  pub kind_is : kind_by m.kind ≡ Some kind
  pub fault_is : IsFaultBy kind m target fault

-- ---- what C gets

-- C's struct for a module of a process
abbrev pub loaded_of : LoadedModule → CLoaded
loaded_of m = record { id = m.id; cookie = m.cookie; load_address = m.load_address; first = m.range.first; last = m.range.last }
