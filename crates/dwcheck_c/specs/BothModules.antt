-- What C passes to add a module with both frame sections, what the call makes of it, and why the
-- module isn't added.
use Rattle.std.specs.Prelude.{◌≡◌, ◌≢◌, ℕ, ◌==◌, if◌then◌else◌, Bool, true, false, Option, Some, None}
use Rattle.dw_bytes.specs.declared.target.Target.{Target}
use Rattle.dw_process.specs.BothSections.{AreBothAdded, AreBothRefused}
use Rattle.dw_process.specs.Processes.{ProcessState}
use Rattle.dw_process.specs.declared.both_sections.BothSections.{BothSections}
use Rattle.dw_process.specs.declared.both_sections.TableRooms.{TableRooms}
use Rattle.dw_process.specs.declared.refusal.BothRefusal.{BothRefusal}
use Rattle.dwcheck_c.specs.Handles.{modules_of, opened_for}
use Rattle.dwcheck_c.specs.LoadedModules.{IsTargetFor, eh_section_in, range_in}
use Rattle.dwcheck_c.specs.declared.both_sections.BothNotAdded.{BothNotAdded}
use Rattle.dwcheck_c.specs.declared.both_sections.BothNotAdded.TheVariants.{BadTarget, Refused}
use Rattle.dwcheck_c.specs.declared.module.CModule.{CModule}

-- the two sections, where it is known of `.eh_frame` whether it is for aarch64, and whether bad
-- records are left out
abbrev pub sections_in : Bool → Bool → CModule → CModule → BothSections
sections_in is_aarch64 leaves_out m e = record { debug_frame = m.frame; eh_frame = eh_section_in is_aarch64 e; leaves_out = leaves_out }

-- the same by C's number for `.eh_frame`; None if it is no number of that section
abbrev pub eh_sections_by : ℕ → CModule → CModule → Option BothSections
eh_sections_by n m e =
    if n == 1 then Some (sections_in false false m e)
    else if n == 2 then Some (sections_in true false m e)
    else if n == 5 then Some (sections_in false true m e)
    else if n == 6 then Some (sections_in true true m e)
    else None

-- the two sections, by C's numbers for both; None if one is no number of its section
abbrev pub sections_by : CModule → CModule → Option BothSections
sections_by m e = if m.kind == 0 then eh_sections_by e.kind m e else None

-- how many bytes each table may store
abbrev pub rooms_in : CModule → CModule → TableRooms
rooms_in m e = record { debug_frame = m.room; eh_frame = e.room }

-- ---- added or not

-- the module is added with the id `id`; a closed process was opened first
pub record AreSectionsAdded (m e : CModule) (old : Option ProcessState) (id : ℕ) (new : Option ProcessState) : Type 0 where
  pub target : Target
  pub target_is : IsTargetFor m old target
  pub sections : BothSections
  pub sections_are : sections_by m e ≡ Some sections
  pub process : ProcessState
  pub opened : new ≡ Some process
  pub added : AreBothAdded sections m.load_address (range_in m) m.cookie (rooms_in m e) (opened_for target old) id process

-- the module may not be added, because of `why`
pub record AreSectionsRefused (m e : CModule) (old : Option ProcessState) (why : BothRefusal) : Type 0 where
  pub target : Target
  pub target_is : IsTargetFor m old target
  pub sections : BothSections
  pub sections_are : sections_by m e ≡ Some sections
  pub refused : AreBothRefused sections target m.load_address (range_in m) (rooms_in m e) (modules_of old) why

-- a module of this target isn't added to an open process: its target is another one, or it is
-- refused
abbrev pub AreNotAddedTo : ProcessState → CModule → CModule → BothSections → Target → BothNotAdded → Type 0
AreNotAddedTo p m e sections target BadTarget = p.target ≢ target
AreNotAddedTo p m e sections target (Refused why) =
    (p.target ≡ target) × AreBothRefused sections target m.load_address (range_in m) (rooms_in m e) p.modules why

-- a module isn't added: its target isn't one, or isn't that of the process, or it is refused
abbrev pub AreNotAdded : CModule → CModule → Option ProcessState → BothNotAdded → Type 0
AreNotAdded m e held BadTarget = (target : Target) → ¬ IsTargetFor m held target
AreNotAdded m e held (Refused why) = AreSectionsRefused m e held why
