-- What the code stores about a section: the offsets of its tables and lists, and where its
-- expressions are. No contract of a public call uses these definitions.
use Rattle.std.specs.Prelude.{◌≡◌, ◌<◌, ◌≤◌, ◌+◌, ◌^◌, length, take, drop, ℕ, Bool, List, [], ◌∷◌, ◌++◌, map, Contains, Result, Ok, Err}
use Rattle.std.specs.List.{AllByRecursion, AllZip}
use Rattle.dw_bytes.specs.declared.target.Target.{Target}
use Rattle.dw_loclists.specs.declared.stored_section.Contents.{Contents}
use Rattle.dw_loclists.specs.declared.stored_lists.StoredExpression.{StoredExpression}
use Rattle.dw_bytes.specs.declared.fault.Fault.{Fault}
use Rattle.dw_bytes.specs.Reading.{ReadPosition, section_from}
use Rattle.dw_loclists.specs.Entries.{Entry, is_end, is_default}
use Rattle.dw_loclists.specs.Lists.{Loclist, Table, lists_of, starts_of}
use Rattle.dw_loclists.specs.Locations.{expressions_of, expressions_in}
use Rattle.dw_stack.specs.declared.state.Kind.TheVariants.{Location}
use Rattle.dw_stack.specs.Expressions as stack
use Rattle.dw_stack.specs.Located.{LocatedExpression}
use Rattle.dw_loclists.specs.Reading.{ListSection, IsChecked, checked_entry_at, list_at, tables_in, located_in}
use Rattle.dw_loclists.specs.Views.{start_of}

-- ---- expressions

-- k is what the code stores about the expression x: its offset and length, its stack depth, and its
-- number of operations. x passed the check with this depth and this number.
pub record IsStoredOf (x : LocatedExpression) (k : StoredExpression) : Type 0 where
  pub offset_is : k.offset ≡ x.offset
  pub length_is : k.length ≡ length x.bytes
  pub checked : stack.IsChecked (record { kind = x.kind; target = x.target; bytes = x.bytes; depth = k.depth; count = k.count })

-- the second list has what the code stores about each expression in the first, in the same order
abbrev pub AreStoredOf : List LocatedExpression → List StoredExpression → Type 0
AreStoredOf = AllZip IsStoredOf

-- the stored expressions grew from `old` to `new`: what is stored about the expressions in `more`
-- was added at the end
abbrev pub KeepsMore : List LocatedExpression → List StoredExpression → List StoredExpression → Type 0
KeepsMore more old new = (xs : List LocatedExpression) → AreStoredOf xs old → AreStoredOf (xs ++ more) new

-- An entry was read from `old` on, up to `new`. It has no fault, and its expression, if it has one,
-- was added to the stored expressions. The flags tell whether the list already had a
-- default_location, whether the entry is an end_of_list, and whether it is a default_location.
pub record Passes (has_default ended default : Bool) (old new : ReadPosition) (before after : List StoredExpression) : Type 0 where
  pub entry : Entry
  pub read : checked_entry_at has_default old ≡ Ok (entry, new)
  pub end_is : is_end entry ≡ ended
  pub default_is : is_default entry ≡ default
  pub kept : KeepsMore (expressions_of (entry ∷ [])) before after

-- the expression x is among the stored ones
abbrev pub IsAmong : List StoredExpression → LocatedExpression → Type 0
IsAmong kept x = (k : StoredExpression) × Contains kept k × IsStoredOf x k

-- the expression that k is stored for, with its bytes taken from the section
abbrev pub lent_from : Target → List ℕ → StoredExpression → LocatedExpression
lent_from target section k = record { offset = k.offset; kind = Location; target = target; bytes = take k.length (drop k.offset section) }

abbrev pub all_lent_from : Target → List ℕ → List StoredExpression → List LocatedExpression
all_lent_from target section kept = map (lent_from target section) kept

-- all bytes of the stored expression k are inside the section, and k is what the code stores about
-- the expression with these bytes
pub record IsLendable (target : Target) (section : List ℕ) (k : StoredExpression) : Type 0 where
  pub inside : k.offset + k.length ≤ length section
  pub kept : IsStoredOf (lent_from target section k) k

pub record AreLendable (target : Target) (section : List ℕ) (kept : List StoredExpression) : Type 0 where
  pub each : AllByRecursion (IsLendable target section) kept
  pub short : length section < 2 ^ 32

-- ---- tables and lists

-- what is stored about tables and lists: the offset of each one's first byte in the section
pub record Kept : Type 0 where
  pub tables : List ℕ
  pub lists : List ℕ

abbrev pub stored_of : Contents → Kept
stored_of c = record { tables = c.tables.items; lists = map start_of c.lists.items }

abbrev pub nothing_stored : Kept
nothing_stored = record { tables = []; lists = [] }

-- k with the offsets of these lists added at the end
abbrev pub with_lists : Kept → List Loclist → Kept
with_lists k lists = record { tables = k.tables; lists = k.lists ++ starts_of lists }

-- k with the offset of a table and the offsets of its lists added at the end
abbrev pub with_table : Kept → Table → Kept
with_table k t = record { tables = k.tables ++ t.offset ∷ []; lists = k.lists ++ starts_of t.lists }

-- what is stored about a section that has exactly these tables
abbrev pub stored_from : List Table → Kept
stored_from tables = record { tables = map (λ (t : Table). t.offset) tables; lists = starts_of (lists_of tables) }

-- ---- tables, lists and expressions together

-- these lists and their expressions were added to what is stored
pub record KeepsLists (lists : List Loclist) (old new : Contents) : Type 0 where
  pub kept : stored_of new ≡ with_lists (stored_of old) lists
  pub expressions : KeepsMore (expressions_in lists) old.expressions.items new.expressions.items

-- this table, its lists and their expressions were added to what is stored
pub record KeepsTable (t : Table) (old new : Contents) : Type 0 where
  pub kept : stored_of new ≡ with_table (stored_of old) t
  pub expressions : KeepsMore (expressions_in t.lists) old.expressions.items new.expressions.items

-- c is what is stored about the section s, which passed the check: the offsets of all its tables
-- and lists, and all its expressions
pub record IsKept (s : ListSection) (c : Contents) : Type 0 where
  pub checked : IsChecked s
  pub kept : stored_of c ≡ stored_from (tables_in s)
  pub expressions : AreStoredOf (located_in s) c.expressions.items
  pub short : length s.section < 2 ^ 32

-- ---- one list by itself

-- the list that a read gave; one without entries if the read failed
abbrev pub list_found : ReadPosition → Result (Loclist × ReadPosition) Fault → Loclist
list_found r (Ok found) = found.0
list_found r (Err fault) = record { offset = r.position; entries = [] }

-- the list that is read from r on
abbrev pub list_from : ReadPosition → Loclist
list_from r = list_found r (list_at r)

-- the list at an offset of a section can be read, and `kept` is what is stored about its
-- expressions
pub record IsKeptList (target : Target) (section : List ℕ) (at : ℕ) (kept : List StoredExpression) : Type 0 where
  pub list : Loclist
  pub after : ReadPosition
  pub read : list_at (section_from target section at) ≡ Ok (list, after)
  pub expressions : AreStoredOf (expressions_of list.entries) kept
  pub inside : at ≤ length section
  pub short : length section < 2 ^ 32
