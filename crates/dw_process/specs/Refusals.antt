-- What the code's `Refusal` means: why a module isn't added to a process.
use Rattle.std.specs.Prelude.{◌≡◌, ◌⊎◌, ℕ, ◌<◌, List, Option, Some, None}
use Rattle.dw_bytes.specs.declared.target.Target.{Target}
use Rattle.dw_bytes.specs.Answers.{memory}
use Rattle.dw_rows.specs.Section.{FrameSection, frame_of, section_fault}
use Rattle.dw_tables.specs.UnwindTables.{table_bytes}
use Rattle.dw_process.specs.ModuleMaps.{IsFree, IsTaken}
use Rattle.dw_process.specs.Ranges.{HasNoRange, IsRangeFor}
use Rattle.dw_process.specs.declared.address_range.AddressRange.{AddressRange}
use Rattle.dw_process.specs.declared.loaded_module.LoadedModule.{LoadedModule}
use Rattle.dw_process.specs.declared.refusal.Refusal.{Refusal}
use Rattle.dw_process.specs.declared.refusal.Refusal.TheVariants.{Section, Room, Range, Overlaps}

-- Why a module with the rows of a checked section isn't added. `Section`: memory ran out. `Range`:
-- the module has no range. `Overlaps id`: its range shares an address with the range of the module
-- with that id. `Room`: it has a range that no module has an address of, and the compiled table may
-- need more than `room` bytes.
abbrev pub IsRefusedWith : FrameSection → ℕ → Option AddressRange → ℕ → List LoadedModule → Refusal → Type 0
IsRefusedWith frame load_address given room modules (Section fault) = fault ≡ memory
IsRefusedWith frame load_address given room modules Room =
    (room < table_bytes frame) × (range : AddressRange) × IsRangeFor frame load_address given range × IsFree range modules
IsRefusedWith frame load_address given room modules Range = HasNoRange frame load_address given
IsRefusedWith frame load_address given room modules (Overlaps id) =
    (range : AddressRange) × IsRangeFor frame load_address given range × IsTaken range modules id

-- `Section fault`: memory ran out, or `fault` is the first fault of the section. In the other cases
-- the section has no fault, and `IsRefusedWith` says why its rows aren't added.
abbrev pub IsRefused : Target → List ℕ → ℕ → Option AddressRange → ℕ → List LoadedModule → Refusal → Type 0
IsRefused target section load_address given room modules (Section fault) = (fault ≡ memory) ⊎ (section_fault target section ≡ Some fault)
IsRefused target section load_address given room modules Room =
    (section_fault target section ≡ None) × IsRefusedWith (frame_of target section) load_address given room modules Room
IsRefused target section load_address given room modules Range =
    (section_fault target section ≡ None) × IsRefusedWith (frame_of target section) load_address given room modules Range
IsRefused target section load_address given room modules (Overlaps id) =
    (section_fault target section ≡ None) × IsRefusedWith (frame_of target section) load_address given room modules (Overlaps id)
