-- Unwinding through the modules of a process: its executable and its libraries, each with its own
-- rows and load address. The addresses in a module's rows are as linked: the linker chose them. The
-- addresses on the stack are as loaded: they are addresses in the running process.
use Rattle.std.specs.Prelude.{◌≡◌, ℕ, ◌≤◌, ◌^◌, pos, ◌-ℤ◌, List, [], ◌∷◌, map, All, Option, Some, None}
use Rattle.std.specs.Borrow.{Bor}
use Rattle.dw_bytes.specs.declared.target.Target.{Target}
use Rattle.dw_eval.specs.Numbers.{wrap, width_of}
use Rattle.dw_rules.specs.Abi.{Abi}
use Rattle.dw_rules.specs.Rules.{Row}
use Rattle.dw_rows.specs.Section.{FrameSection}
use Rattle.dw_tables.specs.UnwindTables.{RowTable, IsTableOf}
use Rattle.dw_unwind.specs.Caller.{Caller}
use Rattle.dw_unwind.specs.Walks.{CallerRelation, over_rows, over_section, over_table}
use Rattle.dw_unwind.specs.declared.modules.Module.{Module}

-- the address as linked for an address in the running process: the load address is subtracted,
-- modulo 2^w (w is the size of an address in bits)
abbrev pub as_linked : Target → ℕ → ℕ → ℕ
as_linked target load_address address = wrap (width_of target.address_size) (pos address -ℤ pos load_address)

-- `caller` is the caller that one module gives (the first argument); if that module gives none,
-- `Others` says what `caller` is
abbrev pub OrElse : Option Caller → (Option Caller → Type 0) → Option Caller → Type 0
OrElse (Some found) Others caller = caller ≡ Some found
OrElse None Others caller = Others caller

-- The caller that a list of modules gives at an address. It comes from the first module that gives
-- a caller (`over`) at the address as linked in that module. If no module gives a caller, it is
-- none.
abbrev pub over_modules : {T : Type 0} → (T → Target) → (T → CallerRelation) → List (Module T) → CallerRelation
over_modules target_of over [] registers address caller = caller ≡ None
over_modules target_of over (m ∷ modules) registers address caller = (own : Option Caller)
    × over m.rows registers (as_linked (target_of m.rows) m.load_address address) own
    × OrElse own (over_modules target_of over modules registers address) caller

-- ---- modules with rows from a look-up, with checked sections, with tables

-- unwinding through modules, where `finds` says which row a module has at an address, with its
-- return address register
abbrev pub over_modules_of_rows : {T : Type 0} → (T → Target) → (T → ℕ → Option (Row × ℕ) → Type 0) → Abi → (ℕ → Option ℕ)
    → List (Module T) → CallerRelation
over_modules_of_rows target_of finds abi memory =
    over_modules target_of (λ rows. over_rows (target_of rows) (finds rows) abi memory)

-- unwinding through modules with checked sections
abbrev pub over_sections : Abi → (ℕ → Option ℕ) → List (Module FrameSection) → CallerRelation
over_sections abi memory = over_modules (λ (s : FrameSection). s.target) (λ s. over_section s abi memory)

-- unwinding through modules with tables of rows
abbrev pub over_tables : Abi → (ℕ → Option ℕ) → List (Module RowTable) → CallerRelation
over_tables abi memory = over_modules (λ (t : RowTable). t.target) (λ t. over_table t abi memory)

-- the same modules with the rows themselves instead of borrows of the rows
abbrev pub unborrowed : {T : Type 0} → List (Module (Bor T)) → List (Module T)
unborrowed modules = map (λ m. record { rows = m.rows.now; load_address = m.load_address }) modules

-- a list of one module that is loaded where it is linked, so its load address is 0
abbrev pub where_linked : {T : Type 0} → T → List (Module T)
where_linked rows = record { rows = rows; load_address = 0 } ∷ []

-- The two lists are equally long. The modules at the same index have the same load address, and
-- their rows are related by `Is`.
abbrev pub AreLike : {S T : Type 0} → (S → T → Type 0) → List (Module S) → List (Module T) → Type 0
AreLike Is [] [] = Unit {0}
AreLike Is (s ∷ modules) (t ∷ others) = (t.load_address ≡ s.load_address) × Is s.rows t.rows × AreLike Is modules others
AreLike Is _ _ = ⊥

-- For each section of the first list, the second has a compiled table at the same index, with the
-- same load address.
abbrev pub AreTablesOf : List (Module FrameSection) → List (Module RowTable) → Type 0
AreTablesOf = AreLike IsTableOf

-- `bound` is 2^w or more for each module, w being the size of the module's addresses in bits
abbrev pub AreBelow : {T : Type 0} → (T → Target) → List (Module T) → ℕ → Type 0
AreBelow target_of modules bound = All (λ m. 2 ^ width_of (target_of m.rows).address_size ≤ bound) modules
