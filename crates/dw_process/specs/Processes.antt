-- The modules of a process: how adding and removing changes them, and which row an address as
-- loaded (in the running process) has.
use Rattle.std.specs.Prelude.{◌≡◌, ◌≢◌, ℕ, ◌*◌, ◌==◌, ◌≤◌, ◌<◌, ◌+◌, ◌&&◌, if◌then◌else◌, Bool, false, List, [], ◌∷◌, All, AllPairs, length, true, Contains, IfSome, Option, None, Some}
use Rattle.std.specs.List.{insert, sum_by}
use Rattle.std.specs.Option.{option_and_then, option_map, option_or}
use Rattle.dw_bytes.specs.declared.target.Target.{Target}
use Rattle.dw_eh_rows.specs.Signals.{is_signal_at}
use Rattle.dw_rules.specs.Rules.{Row}
use Rattle.dw_rows.specs.Section.{FrameSection, frame_of, section_fault}
use Rattle.dw_tables.specs.UnwindTables.{IsTableOf, RowTable, expression_bytes, row_at}
use Rattle.dw_rows.specs.RowLookups.{IsRowUnder}
use Rattle.dw_signed_rows.specs.SignedRanges.{has_signed}
use Rattle.dw_unwind.specs.Modules.{as_linked}
use Rattle.dw_process.specs.Marks.{Marks, no_marks}
use Rattle.dw_process.specs.ModuleMaps.{AreInOrder, IsPlaceFor, is_in, module_at}
use Rattle.dw_process.specs.Ranges.{IsRangeFor}
use Rattle.dw_process.specs.declared.address_range.AddressRange.{AddressRange}
use Rattle.dw_process.specs.declared.found_row.FoundRow.{FoundRow}
use Rattle.dw_process.specs.declared.loaded_module.LoadedModule.{LoadedModule}
use Rattle.dw_process.specs.declared.ready_module.ReadyModule.{ReadyModule}

-- A process: the target of its modules, the id that the next module gets, and its modules in order
-- of address.
pub record ProcessState : Type 0 where
  pub target : Target
  pub next_id : ℕ
  pub modules : List LoadedModule

-- a process without modules; ids count up from 1
abbrev pub no_modules : Target → ProcessState
no_modules target = record { target = target; next_id = 1; modules = [] }

-- no two modules have the same id
abbrev pub AreDistinct : List LoadedModule → Type 0
AreDistinct modules = AllPairs (λ m n. m.id ≢ n.id) modules

-- what holds of the modules of a process
pub record AreModulesOf (target : Target) (next_id : ℕ) (modules : List LoadedModule) : Type 0 where
  pub order : AreInOrder modules
  pub distinct : AreDistinct modules
  pub given : All (λ m. m.id < next_id) modules
  pub targets : All (λ m. m.rows.target ≡ target) modules
  pub fallback_targets : All (λ m. IfSome m.fallback (λ table. table.target ≡ target)) modules

-- ---- added and removed

-- The table has the rows of a section, and what it stores is at most `room` bytes. They are counted
-- as at least 16 for each row, and as 24 and its length for each of the section's expressions.
pub record IsStored (frame : FrameSection) (room : ℕ) (table : RowTable) : Type 0 where
  pub is : IsTableOf frame table
  pub counted : 16 * length table.rows + sum_by expression_bytes frame.expressions ≤ table.bytes
  pub stored : table.bytes ≤ room

-- A table is made of the rows of a checked section, as `IsStored` says. The module has a range and
-- may be inserted at its place among the modules.
pub record IsReady (frame : FrameSection) (load_address : ℕ) (given : Option AddressRange) (room : ℕ) (modules : List LoadedModule)
    (ready : ReadyModule) : Type 0 where
  pub table : IsStored frame room ready.rows
  pub alone : ready.fallback ≡ None
  pub range : IsRangeFor frame load_address given ready.range
  pub place : IsPlaceFor ready.range modules ready.place

-- a module that was ready, with its id and the rest
abbrev pub module_of : ReadyModule → Marks → ℕ → ℕ → ℕ → LoadedModule
module_of ready marks load_address cookie id = record {
  id = id;
  cookie = cookie;
  load_address = load_address;
  range = ready.range;
  rows = ready.rows;
  fallback = ready.fallback;
  marks = marks;
}

-- The module is added, at some place, to the modules, which are in order of address. It has the id
-- `id`, which is counted up, and these marks.
pub record IsInserted (added : LoadedModule) (marks : Marks) (load_address cookie : ℕ) (old : ProcessState) (id : ℕ) (new : ProcessState) : Type 0 where
  pub marks_are : added.marks ≡ marks
  pub load_address_is : added.load_address ≡ load_address
  pub cookie_is : added.cookie ≡ cookie
  pub id_is : added.id ≡ id
  pub place : ℕ
  pub place_is : place ≤ length old.modules
  pub modules : new.modules ≡ insert old.modules place added
  pub order : AreInOrder new.modules
  pub id_new : id ≡ old.next_id
  pub next : new.next_id ≡ old.next_id + 1
  pub target : new.target ≡ old.target

-- A module with a table of the rows of a checked section, and with no other table, is added
-- (`IsInserted`). What the table stores is at most `room` bytes (`IsStored`).
pub record IsAddedWith (frame : FrameSection) (marks : Marks) (load_address : ℕ) (given : Option AddressRange) (cookie room : ℕ)
    (old : ProcessState) (id : ℕ) (new : ProcessState) : Type 0 where
  pub added : LoadedModule
  pub table : IsStored frame room added.rows
  pub alone : added.fallback ≡ None
  pub range : IsRangeFor frame load_address given added.range
  pub inserted : IsInserted added marks load_address cookie old id new

-- The section has no fault, and a module with its rows is added.
pub record IsAdded (section : List ℕ) (load_address : ℕ) (given : Option AddressRange) (cookie room : ℕ) (old : ProcessState) (id : ℕ)
    (new : ProcessState) : Type 0 where
  pub accepted : section_fault old.target section ≡ None
  pub rows : IsAddedWith (frame_of old.target section) no_marks load_address given cookie room old id new

-- the modules without the one with this id
abbrev pub without : ℕ → List LoadedModule → List LoadedModule
without id [] = []
without id (m ∷ modules) = if m.id == id then modules else m ∷ without id modules

-- the process without the module with this id
abbrev pub removed : ℕ → ProcessState → ProcessState
removed id p = record { target = p.target; next_id = p.next_id; modules = without id p.modules }

-- ---- rows

-- the row of an address as linked, with its return address register, in the second table of a
-- module; None if it has only one table
abbrev pub fallback_row : Option RowTable → ℕ → Option (Row × ℕ)
fallback_row fallback address = option_and_then (λ table. row_at table address) fallback

-- the row of an address as linked: that of the module's table, or if that has none, that of its
-- second table
abbrev pub linked_row : LoadedModule → ℕ → Option (Row × ℕ)
linked_row m address = option_or (row_at m.rows address) (fallback_row m.fallback address)

-- the row that a module has for an address as loaded, with its return address register: the row of
-- the address as linked
abbrev pub row_of_module : LoadedModule → ℕ → Option (Row × ℕ)
row_of_module m address = linked_row m (as_linked m.rows.target m.load_address address)

-- the row of an address as loaded, from the module whose range contains the address
abbrev pub row_in : ProcessState → ℕ → Option (Row × ℕ)
row_in p address = option_and_then (λ m. row_of_module m address) (module_at p.modules address)

-- Whether the marks of a module say something of an address, by its second table and the row that
-- its first table has there. The marks are those of the module's only section, or if it has two, of
-- the second, `.eh_frame`: they say nothing where the row is that of the first.
abbrev pub have_marks : Option RowTable → Option (Row × ℕ) → Bool
have_marks None first = true
have_marks (Some fallback) None = true
have_marks (Some fallback) (Some first) = false

-- the same of an address as linked
abbrev pub has_marks_at : LoadedModule → ℕ → Bool
has_marks_at m address = have_marks m.fallback (row_at m.rows address)

-- whether an address as linked is one of a signal frame of the module
abbrev pub is_linked_signal : LoadedModule → ℕ → Bool
is_linked_signal m address = is_signal_at m.marks.signals address && has_marks_at m address

-- whether an address as loaded is one of a signal frame of the module whose range contains it
abbrev pub is_signal_in_module : Option LoadedModule → ℕ → Bool
is_signal_in_module None address = false
is_signal_in_module (Some m) address = is_linked_signal m (as_linked m.rows.target m.load_address address)

abbrev pub is_signal_in : ProcessState → ℕ → Bool
is_signal_in p address = is_signal_in_module (module_at p.modules address) address

-- whether the module signs the return address at an address as linked
abbrev pub is_linked_signed : LoadedModule → ℕ → Bool
is_linked_signed m address = has_signed m.marks.signed address && has_marks_at m address

-- whether the return address is signed at an address as loaded, by the module whose range contains it
abbrev pub is_signed_in_module : Option LoadedModule → ℕ → Bool
is_signed_in_module None address = false
is_signed_in_module (Some m) address = is_linked_signed m (as_linked m.rows.target m.load_address address)

abbrev pub is_signed_in : ProcessState → ℕ → Bool
is_signed_in p address = is_signed_in_module (module_at p.modules address) address

-- a row and its return address register, with what is known of their module, whose target is given
abbrev pub found_with : Target → LoadedModule → Row × ℕ → FoundRow
found_with target m found = record {
  id = m.id;
  cookie = m.cookie;
  load_address = m.load_address;
  target = target;
  row = found.0;
  return_register = found.1;
}

-- the same with what is known of the module
abbrev pub found_at : ProcessState → ℕ → Option FoundRow
found_at p address = option_and_then (λ m. option_map (found_with p.target m) (row_of_module m address)) (module_at p.modules address)

-- What was found for an address as loaded comes from the module of the process whose range contains
-- the address: it is that module's row, with its return address register, at the address as linked
-- in the module. `found` has the module's id, cookie, load address and target, and the row's
-- expressions have that target.
pub record IsFoundIn (p : ProcessState) (address : ℕ) (found : FoundRow) : Type 0 where
  pub its_module : LoadedModule
  pub among : Contains p.modules its_module
  pub inside : is_in its_module.range address ≡ true
  pub id : found.id ≡ its_module.id
  pub cookie : found.cookie ≡ its_module.cookie
  pub load_address : found.load_address ≡ its_module.load_address
  pub target : found.target ≡ its_module.rows.target
  pub row : row_of_module its_module address ≡ Some (found.row, found.return_register)
  pub under : IsRowUnder its_module.rows.target found.row
