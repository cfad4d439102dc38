-- The first module that has a row for an address, in a list of modules in any order and with no
-- ranges. If each module has rows only in its range, that is the module of the address.
use Rattle.std.specs.Prelude.{◌≡◌, ℕ, true, List, [], ◌∷◌, IfSome, Option, Some, None}
use Rattle.std.specs.Option.{option_or}
use Rattle.dw_rules.specs.Rules.{Row}
use Rattle.dw_tables.specs.UnwindTables.{RowTable}
use Rattle.dw_unwind.specs.declared.modules.Module.{Module}
use Rattle.dw_process.specs.ModuleMaps.{is_in}
use Rattle.dw_process.specs.Processes.{row_of_module}
use Rattle.dw_process.specs.declared.loaded_module.LoadedModule.{LoadedModule}

-- the row of an address from the first module that has one
abbrev pub first_row : List LoadedModule → ℕ → Option (Row × ℕ)
first_row [] address = None
first_row (m ∷ modules) address = option_or (row_of_module m address) (first_row modules address)

-- if the module has a row for the address, the address is in the module's range
abbrev pub HasRowInRange : ℕ → LoadedModule → Type 0
HasRowInRange address m = IfSome (row_of_module m address) (λ found. is_in m.range address ≡ true)

-- the second table of a module, if it has one, before those of other modules
abbrev pub with_fallback : Option RowTable → ℕ → List (Module RowTable) → List (Module RowTable)
with_fallback None load_address others = others
with_fallback (Some table) load_address others = record { rows = table; load_address = load_address } ∷ others

-- the tables of the modules without the modules' ranges, as `over_tables` takes them: a module's
-- second table comes after its first one
abbrev pub tables_of : List LoadedModule → List (Module RowTable)
tables_of [] = []
tables_of (m ∷ modules) = record { rows = m.rows; load_address = m.load_address } ∷ with_fallback m.fallback m.load_address (tables_of modules)
