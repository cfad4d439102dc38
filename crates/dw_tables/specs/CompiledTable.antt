-- All rows of a section in order of address, as a compiled table stores them. No contract of a
-- public call uses this file.
use Rattle.std.specs.Prelude.{map, ◌≡◌, ℕ, ◌+◌, ◌-◌, ◌*◌, ◌<◌, ◌≤◌, List, [], ◌∷◌, ◌++◌, length, All, Contains, IfSome, Option, Some, None, find, slice_get, slice_index_or}
use Rattle.std.specs.List.{sum_by}
use Rattle.std.specs.Option.{option_map}
use Rattle.std.specs.List.Sorted.{IsNonDecreasingBy}
use Rattle.dw_bytes.specs.declared.fault.Fault.{Fault}
use Rattle.dw_frame.specs.Records.{Cie, Fde}
use Rattle.dw_stack.specs.Located.{LocatedExpression}
use Rattle.dw_tables.specs.declared.table_room.Unmade.{Unmade}
use Rattle.dw_tables.specs.declared.table_room.Unmade.TheVariants.{Memory, Room}
use Rattle.dw_tables.specs.declared.table_entries.EntrySpan.{EntrySpan}
use Rattle.dw_tables.specs.declared.table_entries.TableEntry.{TableEntry}
use Rattle.dw_rules.specs.Rules.{PlacedCfa, PlacedRow, Row}
use Rattle.dw_rules.specs.RuleSet.{StoredRules, LendsRules}
use Rattle.dw_rules.specs.RowsWithExpressions.{row_with_expressions, LendsCfa, LendsEach}
use Rattle.dw_rules.specs.ProgramState.{row_between}
use Rattle.dw_rows.specs.UnwindRows.{rows_of}
use Rattle.dw_rows.specs.AddressIndex.{IsIndexOf}
use Rattle.dw_rows.specs.Section.{FrameSection, IsChecked, IsReturnRegister, cie_in, program_fault, row_of}
use Rattle.dw_tables.specs.UnwindTables.{has}

-- each offset added to `base`
abbrev pub based : ℕ → List ℕ → List ℕ
based base offsets = map (λ o. base + o) offsets

-- table entries: each start with the rule set number at the same index
abbrev pub paired : List ℕ → List ℕ → List TableEntry
paired [] sets = []
paired (start ∷ starts) [] = []
paired (start ∷ starts) (set ∷ sets) = record { start = start; set = set } ∷ paired starts sets

-- The lists that the entries of a table are stored in: as many starts as rule set numbers, and at
-- most two counts more than starts. The counts tell a look-up where to begin.
pub record AreEntryLists (starts sets counts : List ℕ) : Type 0 where
  pub even : length starts ≡ length sets
  pub few : length counts ≤ length starts + 2

-- ---- rows by where they begin

-- a rule set, and the return address register of the rows that have the rule set
pub record StoredSet : Type 0 where
  pub rules : StoredRules
  pub register : ℕ

-- rule sets with their return address registers: each rule set with the register at the same index
abbrev pub zipped : List StoredRules → List ℕ → List StoredSet
zipped [] registers = []
zipped (k ∷ rules) [] = []
zipped (k ∷ rules) (r ∷ registers) = record { rules = k; register = r } ∷ zipped rules registers

-- an empty rule set: it has no CFA rule, so no row has it
abbrev pub no_rules : StoredRules
no_rules = record { cfa = None; rules = [] }

abbrev pub no_set : StoredSet
no_set = record { rules = no_rules; register = 0 }

-- the rule set with the number n, which is its index in `sets`
abbrev pub set_numbered : List StoredSet → ℕ → StoredSet
set_numbered sets n = slice_index_or sets n no_set

-- the row from `start` to `to` with the rules and the return address register of `k`, as a list of
-- one element; an empty list if there is no CFA rule
abbrev pub row_if : Option PlacedCfa → ℕ → ℕ → StoredSet → List (PlacedRow × ℕ)
row_if None start to k = []
row_if (Some c) start to k = (row_between start to k.rules, k.register) ∷ []

abbrev pub row_with : ℕ → ℕ → StoredSet → List (PlacedRow × ℕ)
row_with start to k = row_if k.rules.cfa start to k

abbrev pub row_from : List StoredSet → TableEntry → ℕ → List (PlacedRow × ℕ)
row_from sets e to = row_with e.start to (set_numbered sets e.set)

abbrev pub next_start : List TableEntry → ℕ → ℕ
next_start [] to = to
next_start (e ∷ rest) to = e.start

-- The rows of the entries, with their return address registers. Each row ends where the next entry
-- begins, and the last one ends at `to`. An entry whose rule set has no CFA rule gives no row.
abbrev pub rows_to : List StoredSet → List TableEntry → ℕ → List (PlacedRow × ℕ)
rows_to sets [] to = []
rows_to sets (e ∷ rest) to = row_from sets e (next_start rest to) ++ rows_to sets rest to

abbrev pub entry_start : TableEntry → ℕ
entry_start e = e.start

-- ---- the rows of FDEs one after another

-- rows, each paired with the return address register `r`
abbrev pub with_register : ℕ → PlacedRow → PlacedRow × ℕ
with_register r row = (row, r)

abbrev pub returning : ℕ → List PlacedRow → List (PlacedRow × ℕ)
returning r rows = map (with_register r) rows

-- the rows of an FDE, with the return address register of its CIE
abbrev pub returning_by_cie : Option Cie → Fde → List (PlacedRow × ℕ)
returning_by_cie None f = []
returning_by_cie (Some c) f = returning c.return_address_register (rows_of c f)

abbrev pub placed_rows : FrameSection → Fde → List (PlacedRow × ℕ)
placed_rows s f = returning_by_cie (cie_in s f) f

abbrev pub rows_of_each : FrameSection → List Fde → List (PlacedRow × ℕ)
rows_of_each s [] = []
rows_of_each s (f ∷ fdes) = placed_rows s f ++ rows_of_each s fdes

-- ---- rows, and the expressions that they name

-- each expression that the row refers to is among `es`, and has the kind that its rule needs
pub record LendsFound (es : List LocatedExpression) (found : PlacedRow × ℕ) : Type 0 where
  pub cfa : IfSome found.0.cfa (LendsCfa es)
  pub rules : LendsEach es found.0.rules

-- ---- a table that is being filled

abbrev pub LendsSet : List LocatedExpression → StoredSet → Type 0
LendsSet es k = LendsRules es k.rules

-- The entries are in order, and none begins above `last`. Each refers to a stored rule set, and the
-- expressions that the rule sets refer to are among `es`.
pub record IsTableUpTo (es : List LocatedExpression) (last : ℕ) (entries : List TableEntry) (sets : List StoredSet) : Type 0 where
  pub sorted : IsNonDecreasingBy entry_start entries
  pub below : (k : ℕ) (d : TableEntry) → k < length entries → (slice_index_or entries k d).start ≤ last
  pub within : (k : ℕ) (d : TableEntry) → k < length entries → (slice_index_or entries k d).set < length sets
  pub lends : All (LendsSet es) sets

-- The table's last row, if there is one, now ends at `end`, and no row of the table covers an
-- address from `end` on.
pub record IsClosedAt (end : ℕ) (old : List TableEntry) (old_sets : List StoredSet) (new : List TableEntry) (new_sets : List StoredSet)
    : Type 0 where
  pub table : (es : List LocatedExpression) → IsTableUpTo es end old old_sets → IsTableUpTo es end new new_sets
  pub rows : (es : List LocatedExpression) → IsTableUpTo es end old old_sets → (to : ℕ) → rows_to new_sets new to ≡ rows_to old_sets old end

-- The table's last row, if there is one, ends at `end`, and the table is ready for a row that
-- begins at `start`.
pub record IsBegunAt (end start : ℕ) (old : List TableEntry) (old_sets : List StoredSet) (new : List TableEntry) (new_sets : List StoredSet)
    : Type 0 where
  pub table : (es : List LocatedExpression) → IsTableUpTo es end old old_sets → end ≤ start → IsTableUpTo es start new new_sets
  pub rows : (es : List LocatedExpression) → IsTableUpTo es end old old_sets → rows_to new_sets new start ≡ rows_to old_sets old end

-- The rule set `k` has the number `n` in the new list. Either it has been in the old list already,
-- or it was added at the end.
pub record IsNumbered (old : List StoredSet) (k : StoredSet) (n : ℕ) (new : List StoredSet) : Type 0 where
  pub found : slice_get new n ≡ Some k
  pub inside : n < length new
  pub long : length old ≤ length new
  pub same : (m : ℕ) → m < length old → set_numbered new m ≡ set_numbered old m
  pub lends : (es : List LocatedExpression) → All (LendsSet es) old → LendsRules es k.rules → All (LendsSet es) new

-- one entry was added, which begins at `start` and has the rule set `k`
pub record IsPushed (old : List TableEntry) (old_sets : List StoredSet) (start : ℕ) (k : StoredSet) (new : List TableEntry)
    (new_sets : List StoredSet) : Type 0 where
  pub number : ℕ
  pub entries : new ≡ old ++ record { start = start; set = number } ∷ []
  pub numbered : IsNumbered old_sets k number new_sets

-- the FDE's rows were added after the old rows, which end at `last`
pub record IsFilled (s : FrameSection) (f : Fde) (last : ℕ) (old : List TableEntry) (old_sets : List StoredSet) (new : List TableEntry)
    (new_sets : List StoredSet) : Type 0 where
  pub table : IsTableUpTo s.expressions (f.initial_location + f.address_range) new new_sets
  pub rows : rows_to new_sets new (f.initial_location + f.address_range) ≡ rows_to old_sets old last ++ placed_rows s f

-- the rows are those of the FDEs that cover addresses, in order of address
pub record AreAllRows (s : FrameSection) (rows : List (PlacedRow × ℕ)) : Type 0 where
  pub index : List Fde
  pub ordered : IsIndexOf s.fdes index
  pub rows_are : rows ≡ rows_of_each s index
  pub lends : All (LendsFound s.expressions) rows

-- the FDE's program has a fault
abbrev pub IsFaulty : List Cie → Fde → Type 0
IsFaulty cies f = (fault : Fault) × (program_fault cies f ≡ Some fault)

-- the program of one of the section's FDEs has a fault
abbrev pub HasFaulty : FrameSection → Type 0
HasFaulty s = (f : Fde) × Contains s.fdes f × IsFaulty s.cies f

-- ---- the room that a table may take

-- The reason is a lack of memory, or it is a lack of room and `room` is less than `most`.
abbrev pub LacksRoom : Unmade → ℕ → ℕ → Type 0
LacksRoom Memory room most = Unit {0}
LacksRoom Room room most = room < most

-- how many bytes a rule set takes, and how many it takes together with an entry that has it
abbrev pub set_bytes : StoredRules → ℕ
set_bytes k = 64 + 16 * length k.rules

abbrev pub entry_bytes : StoredRules → ℕ
entry_bytes k = 80 + 16 * length k.rules

-- how many bytes rule sets take, and how many they take together with entries
abbrev pub sets_bytes : List StoredSet → ℕ
sets_bytes sets = sum_by (λ k. set_bytes k.rules) sets

abbrev pub stored_bytes : List TableEntry → List StoredSet → ℕ
stored_bytes entries sets = 16 * length entries + sets_bytes sets

-- ---- a finished table

-- rows with their return address registers, and how many bytes their entries and rule sets take
pub record StoredRows : Type 0 where
  pub rows : List (PlacedRow × ℕ)
  pub bytes : ℕ

-- exactly `count` entries begin at or below the address `a`
pub record IsEntryCount (entries : List TableEntry) (a count : ℕ) : Type 0 where
  pub bound : count ≤ length entries
  pub below : (k : ℕ) (d : TableEntry) → k < count → (slice_index_or entries k d).start ≤ a
  pub above : (k : ℕ) (d : TableEntry) → count ≤ k → k < length entries → a < (slice_index_or entries k d).start

-- exactly `count` starts are at or below the address `a`
pub record IsStartCount (starts : List ℕ) (a count : ℕ) : Type 0 where
  pub bound : count ≤ length starts
  pub below : (k d : ℕ) → k < count → slice_index_or starts k d ≤ a
  pub above : (k d : ℕ) → count ≤ k → k < length starts → a < slice_index_or starts k d

-- The address `a` is between two starts: the last one of the first `count` is at or below it, and
-- the next one is above it.
pub record IsBracketed (starts : List ℕ) (a count : ℕ) : Type 0 where
  pub some : 0 < count
  pub more : count < length starts
  pub low : (d : ℕ) → slice_index_or starts (count - 1) d ≤ a
  pub high : (d : ℕ) → a < slice_index_or starts count d

-- The address `a` is between two starts: `low`, which is the last one of the first `count`, is at
-- or below it, and `high`, which is the next one, is above it.
pub record AreAround (starts : List ℕ) (a count low high : ℕ) : Type 0 where
  pub some : 0 < count
  pub more : count < length starts
  pub low_is : (d : ℕ) → slice_index_or starts (count - 1) d ≡ low
  pub high_is : (d : ℕ) → slice_index_or starts count d ≡ high
  pub below : low ≤ a
  pub above : a < high

-- The span is that of the entry that has the address `a`: the last one that begins at or below it.
-- It isn't the last one of all, so the next one begins where the span ends.
pub record IsSpanOf (entries : List TableEntry) (a : ℕ) (span : EntrySpan) : Type 0 where
  pub count : ℕ
  pub counted : IsEntryCount entries a count
  pub some : 0 < count
  pub more : count < length entries
  pub entry : slice_get entries (count - 1) ≡ Some (record { start = span.start; set = span.set })
  pub next : option_map entry_start (slice_get entries count) ≡ Some span.end

-- entries in order, each of which refers to a stored rule set
pub record AreEntries (entries : List TableEntry) (sets : List StoredSet) : Type 0 where
  pub sorted : IsNonDecreasingBy entry_start entries
  pub within : (k : ℕ) (d : TableEntry) → k < length entries → (slice_index_or entries k d).set < length sets

-- ---- rows with their expressions

-- the row with its expressions in place of their offsets, and its return address register
abbrev pub found_with_expressions : List LocatedExpression → PlacedRow × ℕ → Row × ℕ
found_with_expressions es found = (row_with_expressions es found.0, found.1)

-- What was found at the address a is the section's row there, with the return address register of
-- the row's CIE. If nothing was found, the section has no row there.
abbrev pub IsPlacedAt : FrameSection → ℕ → Option (PlacedRow × ℕ) → Type 0
IsPlacedAt s a None = row_of s a ≡ None
IsPlacedAt s a (Some found) = (row_of s a ≡ Some (row_with_expressions s.expressions found.0)) × IsReturnRegister s a found.1

-- a look-up among `rows` finds the section's row at each address
pub record ArePlacedRows (s : FrameSection) (rows : List (PlacedRow × ℕ)) : Type 0 where
  pub checked : IsChecked s
  pub lends : All (LendsFound s.expressions) rows
  pub row : (a : ℕ) → IsPlacedAt s a (find (has a) rows)
