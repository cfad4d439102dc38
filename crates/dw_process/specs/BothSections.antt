-- A module with both sections, `.debug_frame` and `.eh_frame`: what adding it makes of a process, and
-- why it isn't added. The row of an address is that of `.debug_frame`, or if that covers the address
-- by no FDE, that of `.eh_frame` (`linked_row`).
use Rattle.std.specs.Prelude.{◌≡◌, ◌⊎◌, ◌<◌, ℕ, List, Option, Some, None}
use Rattle.dw_bytes.specs.declared.target.Target.{Target}
use Rattle.dw_rows.specs.Section.{FrameSection, frame_of, section_fault}
use Rattle.dw_tables.specs.UnwindTables.{IsTableOf, RowTable, table_bytes}
use Rattle.dw_process.specs.EhModules.{AreMarksOf, IsEhFrameOf, eh_fault_of}
use Rattle.dw_process.specs.Marks.{Marks}
use Rattle.dw_process.specs.ModuleMaps.{IsFree, IsPlaceFor, IsTaken}
use Rattle.dw_process.specs.Processes.{IsInserted, IsStored, ProcessState}
use Rattle.dw_process.specs.Ranges.{HaveNoRange, IsRangeForBoth}
use Rattle.dw_process.specs.declared.address_range.AddressRange.{AddressRange}
use Rattle.dw_process.specs.declared.both_sections.BothSections.{BothSections}
use Rattle.dw_process.specs.declared.both_sections.TableRooms.{TableRooms}
use Rattle.dw_process.specs.declared.loaded_module.LoadedModule.{LoadedModule}
use Rattle.dw_process.specs.declared.ready_module.ReadyModule.{ReadyModule}
use Rattle.dw_process.specs.declared.refusal.BothRefusal.{BothRefusal}
use Rattle.dw_process.specs.declared.refusal.BothRefusal.TheVariants.{DebugFrame, EhFrame, Memory, Room, Range, Overlaps}

-- ---- the rows of two checked sections

-- The first table has the rows of `.debug_frame`, and the second those of `.eh_frame`. Each stores at
-- most as many bytes as it may (`IsStored`).
pub record AreStored (debug_frame eh_frame : FrameSection) (rooms : TableRooms) (rows : RowTable) (fallback : Option RowTable) : Type 0 where
  pub first : IsStored debug_frame rooms.debug_frame rows
  pub second : RowTable
  pub second_is : fallback ≡ Some second
  pub stored : IsStored eh_frame rooms.eh_frame second

-- the module's tables are those of these two sections
pub record AreTablesOf (debug_frame eh_frame : FrameSection) (m : LoadedModule) : Type 0 where
  pub first : IsTableOf debug_frame m.rows
  pub second : RowTable
  pub second_is : m.fallback ≡ Some second
  pub stored : IsTableOf eh_frame second

-- The tables are made. The module has a range and may be inserted at its place among the modules.
pub record AreReady (debug_frame eh_frame : FrameSection) (load_address : ℕ) (given : Option AddressRange) (rooms : TableRooms)
    (modules : List LoadedModule) (ready : ReadyModule) : Type 0 where
  pub tables : AreStored debug_frame eh_frame rooms ready.rows ready.fallback
  pub range : IsRangeForBoth debug_frame eh_frame load_address given ready.range
  pub place : IsPlaceFor ready.range modules ready.place

-- A module with the two tables is added (`IsInserted`).
pub record AreAddedWith (debug_frame eh_frame : FrameSection) (marks : Marks) (load_address : ℕ) (given : Option AddressRange) (cookie : ℕ)
    (rooms : TableRooms) (old : ProcessState) (id : ℕ) (new : ProcessState) : Type 0 where
  pub added : LoadedModule
  pub tables : AreStored debug_frame eh_frame rooms added.rows added.fallback
  pub range : IsRangeForBoth debug_frame eh_frame load_address given added.range
  pub inserted : IsInserted added marks load_address cookie old id new

-- Why a module with the rows of two checked sections isn't added. `Range`: it has no range.
-- `Overlaps id`: its range shares an address with the range of the module with that id. `Room`: it has
-- a range that no module has an address of, and one of the tables may need more bytes than it may
-- store. `Memory`: memory ran out.
abbrev pub AreRefusedWith : FrameSection → FrameSection → ℕ → Option AddressRange → TableRooms → List LoadedModule → BothRefusal → Type 0
AreRefusedWith debug_frame eh_frame load_address given rooms modules (DebugFrame fault) = ⊥
AreRefusedWith debug_frame eh_frame load_address given rooms modules (EhFrame fault) = ⊥
AreRefusedWith debug_frame eh_frame load_address given rooms modules Memory = Unit {0}
AreRefusedWith debug_frame eh_frame load_address given rooms modules Room =
    ((rooms.debug_frame < table_bytes debug_frame) ⊎ (rooms.eh_frame < table_bytes eh_frame))
    × (range : AddressRange) × IsRangeForBoth debug_frame eh_frame load_address given range × IsFree range modules
AreRefusedWith debug_frame eh_frame load_address given rooms modules Range = HaveNoRange debug_frame eh_frame load_address given
AreRefusedWith debug_frame eh_frame load_address given rooms modules (Overlaps id) =
    (range : AddressRange) × IsRangeForBoth debug_frame eh_frame load_address given range × IsTaken range modules id

-- ---- both sections

-- Neither section has a fault for which it is refused. A module with the rows of both is added, and
-- with the marks of `.eh_frame`.
pub record AreBothAdded (s : BothSections) (load_address : ℕ) (given : Option AddressRange) (cookie : ℕ) (rooms : TableRooms)
    (old : ProcessState) (id : ℕ) (new : ProcessState) : Type 0 where
  pub accepted : section_fault old.target s.debug_frame.now ≡ None
  pub frame : FrameSection
  pub is : IsEhFrameOf s.leaves_out s.eh_frame old.target frame
  pub marks : Marks
  pub marks_are : AreMarksOf s.leaves_out s.eh_frame old.target frame marks
  pub rows : AreAddedWith (frame_of old.target s.debug_frame.now) frame marks load_address given cookie rooms old id new

-- neither section has a fault for which it is refused, and `AreRefusedWith` says why their rows aren't added
pub record AreBothRowsRefused (s : BothSections) (target : Target) (load_address : ℕ) (given : Option AddressRange) (rooms : TableRooms)
    (modules : List LoadedModule) (why : BothRefusal) : Type 0 where
  pub accepted : section_fault target s.debug_frame.now ≡ None
  pub frame : FrameSection
  pub is : IsEhFrameOf s.leaves_out s.eh_frame target frame
  pub refused : AreRefusedWith (frame_of target s.debug_frame.now) frame load_address given rooms modules why

-- `DebugFrame fault`: `fault` is the first fault of `.debug_frame`. `EhFrame fault`: `.debug_frame` has
-- no fault, and `fault` is that of `.eh_frame`. `Memory`: memory ran out. In the other cases neither
-- section has a fault.
abbrev pub AreBothRefused : BothSections → Target → ℕ → Option AddressRange → TableRooms → List LoadedModule → BothRefusal → Type 0
AreBothRefused s target load_address given rooms modules (DebugFrame fault) = section_fault target s.debug_frame.now ≡ Some fault
AreBothRefused s target load_address given rooms modules (EhFrame fault) =
    (section_fault target s.debug_frame.now ≡ None) × (eh_fault_of s.leaves_out s.eh_frame target ≡ Some fault)
AreBothRefused s target load_address given rooms modules Memory = Unit {0}
AreBothRefused s target load_address given rooms modules Room = AreBothRowsRefused s target load_address given rooms modules Room
AreBothRefused s target load_address given rooms modules Range = AreBothRowsRefused s target load_address given rooms modules Range
AreBothRefused s target load_address given rooms modules (Overlaps id) =
    AreBothRowsRefused s target load_address given rooms modules (Overlaps id)
