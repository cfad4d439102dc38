-- Facts about sections without a fault: which tables reading them gives, and that their lists and
-- expressions are in order of offset.
use Rattle.std.proofs.Common.{◌≡◌, ℕ, ◌+◌, ◌≤◌, List, [], ◌∷◌, ◌++◌, length, Option, Some, None, Result, Ok, Err, refl, ap, ◌∙◌}
use Rattle.dw_bytes.specs.declared.target.Target.{Target}
use Rattle.dw_bytes.specs.declared.fault.Fault.{Fault}
use Rattle.dw_bytes.specs.Answers.{values_in, fault_in}
use Rattle.dw_bytes.proofs.Sequences.{all-read}
use Rattle.dw_loclists.specs.Lists.{Table, AreTables, starts_of}
use Rattle.dw_loclists.specs.Bounds.{Ascends}
use Rattle.dw_bytes.specs.Reading.{section_from}
use Rattle.dw_loclists.specs.Reading.{table_at, tables_from, tables_of, lists_fault, ListSection, IsChecked, tables_in, lists_in}
use Rattle.dw_loclists.specs.Reading.{located_in}
use Rattle.dw_loclists.proofs.EachTable.{sections-are-tables, at-end, at-table}
use Rattle.dw_loclists.proofs.StoredLists.{nothing}
use Rattle.dw_loclists.proofs.Order.{tables-start, tables-rise, offsets-of}
use Rattle.dw_loclists.proofs.Search.{rise-ascends}

abbrev Items : Type 0
Items = List (Result Table Fault)

fault-past : (ts : List Table) (items : Items) → fault_in (all-read ts ++ items) ≡ fault_in items
fault-past [] items = refl
fault-past (t ∷ ts) items = fault-past ts items

values-all : (ts : List Table) → values_in (all-read ts) ≡ ts
values-all [] = refl
values-all (t ∷ ts) = ap (λ (xs : List Table). t ∷ xs) (values-all ts)

no-fault : (ts : List Table) → fault_in (all-read ts) ≡ None
no-fault [] = refl
no-fault (t ∷ ts) = no-fault ts

-- if reading a section gives the tables `ts` and then the tables from offset `at` on, and `at` is
-- at or past the section's end, `ts` are all tables of the section
pub all-tables : (target : Target) (section : List ℕ) (at : ℕ) (ts : List Table)
    → tables_of target section ≡ all-read ts ++ tables_from target section at → length section ≤ at → tables_of target section ≡ all-read ts
all-tables target section at ts is h = is ∙ (ap (λ (xs : Items). all-read ts ++ xs) (at-end target section at h) ∙ nothing (all-read ts))

pub tables-checked : (target : Target) (section : List ℕ) (ts : List Table) → tables_of target section ≡ all-read ts
    → lists_fault target section ≡ None
tables-checked target section ts is = ap (λ (xs : Items). fault_in xs) is ∙ no-fault ts

pub tables-are : (target : Target) (section : List ℕ) (ts : List Table) → tables_of target section ≡ all-read ts
    → values_in (tables_of target section) ≡ ts
tables-are target section ts is = ap (λ (xs : Items). values_in xs) is ∙ values-all ts

-- if reading a section gives the tables `ts` and then a fault, that fault is the section's first
pub tables-fault : (target : Target) (section : List ℕ) (ts : List Table) (items : Items) (f : Fault)
    → tables_of target section ≡ all-read ts ++ items → items ≡ Err f ∷ [] → lists_fault target section ≡ Some f
tables-fault target section ts items f is bad = ap (λ (xs : Items). fault_in xs) is
    ∙ (fault-past ts items ∙ ap (λ (xs : Items). fault_in xs) bad)

abbrev some : Fault → Option Fault
some f = Some f

-- if no item is a fault, the items are just tables that were read
whole : (items : Items) → fault_in items ≡ None → items ≡ all-read (values_in items)
whole [] h = refl
whole (Ok t ∷ items) h = ap (λ (xs : Items). Ok t ∷ xs) (whole items h)
whole (Err f ∷ items) h = absurd (let never : some f ≡ None = h in cc)

pub checked-tables : (s : ListSection) → IsChecked s → AreTables s.target 0 s.section (tables_in s)
checked-tables s checked = (sections-are-tables s.target s.section (tables_in s)).0 (whole (tables_of s.target s.section) checked)

pub lists-ascend : (s : ListSection) → IsChecked s → Ascends (λ n. n) (starts_of (lists_in s))
lists-ascend s checked = rise-ascends 0 (0 + length s.section) (starts_of (lists_in s))
    (tables-start s.target 0 s.section (tables_in s) (checked-tables s checked))

pub expressions-ascend : (s : ListSection) → IsChecked s → Ascends (λ n. n) (offsets-of (located_in s))
expressions-ascend s checked = rise-ascends (0 + 1) (0 + length s.section + 1) (offsets-of (located_in s))
    (tables-rise s.target 0 s.section (tables_in s) (checked-tables s checked))

map-append-read : (ts : List Table) (t : Table) (items : Items) → all-read ts ++ (Ok t ∷ items) ≡ all-read (ts ++ t ∷ []) ++ items
map-append-read [] t items = refl
map-append-read (u ∷ ts) t items = ap (λ (xs : Items). Ok u ∷ xs) (map-append-read ts t items)

-- if reading a section gives the tables `ts` and then the tables from offset `at` on, and the table
-- at `at` is t, reading gives `ts`, then t, and then the tables after t
pub one-more : (target : Target) (section : List ℕ) (at next : ℕ) (ts : List Table) (t : Table)
    → tables_of target section ≡ all-read ts ++ tables_from target section at
    → table_at (section_from target section at) ≡ Ok (t, section_from target section next)
    → tables_of target section ≡ all-read (ts ++ t ∷ []) ++ tables_from target section next
one-more target section at next ts t so_far is =
    so_far ∙ (ap (λ (xs : Items). all-read ts ++ xs) (at-table target section at next t is)
    ∙ map-append-read ts t (tables_from target section next))
