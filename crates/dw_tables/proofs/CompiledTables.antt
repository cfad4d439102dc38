-- Proofs that a compiled table gives the same rows as its section, and of the laws of tables.
use Rattle.std.proofs.Common.{◌≡◌, ℕ, zero, suc, ◌+◌, ◌-◌, ◌<◌, ◌≤◌, ◌==◌, Bool, true, false, cond, List, [], ◌∷◌, length, get_or, refl, sym, ap, ◌∙◌}
use Rattle.std.proofs.Common.{Option, Some, None, Contains, map, subst, arith, inl, inr}
use Rattle.std.proofs.lemmas.List.{length-append}
use Rattle.std.proofs.lemmas.List.Elements.{All-from_recursion, recursion_from_All}
use Rattle.std.proofs.lemmas.Option.{get_or_from_slice_get, slice_get-get_or}
use Rattle.std.specs.Prelude.{All, IfSome, find, slice_get}
use Rattle.std.specs.List.{AllByRecursion}
use Rattle.std.specs.Option.{option_map}
use Rattle.dw_bytes.specs.declared.target.Target.{Target}
use Rattle.dw_frame.specs.Records.{Cie, Fde}
use Rattle.dw_stack.specs.Located.{LocatedExpression}
use Rattle.dw_tables.specs.declared.table_entries.TableEntry.{TableEntry}
use Rattle.dw_rules.specs.Rules.{PlacedRule, PlacedCfa, PlacedRow, Row, default, undefined, same_value, offset, val_offset, register}
use Rattle.dw_rules.specs.Rules.{expression, val_expression, register_and_offset, cfa_expression}
use Rattle.dw_stack.specs.declared.state.Kind.{Kind}
use Rattle.dw_stack.specs.declared.state.Kind.TheVariants.{FrameCfa, FrameRegister}
use Rattle.dw_rules.specs.RowsWithExpressions.{or_nowhere, located_at, rule_with_expressions, cfa_with_expressions, rules_with_expressions, row_with_expressions, IsLent, LendsRule, LendsCfa}
use Rattle.dw_rules.specs.RowsWithExpressions.{LendsEntry, LendsEach}
use Rattle.dw_rules.specs.ProgramState.{row_between}
use Rattle.dw_rows.specs.UnwindRows.{has_address, rows_of}
use Rattle.dw_tables.specs.UnwindTables.{RowTable, has, row_at, IsTableOf}
use Rattle.dw_rows.specs.RowLookups.{IsFoundAt}
use Rattle.dw_rows.specs.RowLookups.{IsUnder, IsRuleUnder, IsCfaUnder, IsEntryUnder, IsRowUnder}
use Rattle.dw_rows.specs.Section.{FrameSection, Covers, IsCoverOf, IsChecked, rows_by_cie, row_of, cie_in}
use Rattle.dw_rows.specs.Section.{IsReturnRegister}
use Rattle.dw_tables.specs.CompiledTable.{StoredSet, no_set, set_numbered, row_if, row_from, next_start, entry_start, rows_to}
use Rattle.dw_tables.specs.CompiledTable.{LendsFound, found_with_expressions, IsPlacedAt}
use Rattle.dw_tables.specs.CompiledTable.{IsEntryCount, ArePlacedRows}
use Rattle.dw_rows.proofs.rows.Covering.{found-by, cover-rows, here}
use Rattle.dw_rows.proofs.rows.Lookups.{row-found, row-none}
use Rattle.dw_rows.proofs.rows.RowsWithExpressions.{find-with}
use Rattle.dw_rows.proofs.sections.FdesOfSections.{fde-good}
use Rattle.dw_rows.proofs.sections.CheckedSections.{checked-once, checked-fdes-sound}
use Rattle.dw_rows.proofs.rows.OneRow.{has-one-row}
use Rattle.dw_rows.proofs.expressions.GoodExpressions.{checked-expressions}
use Rattle.dw_frame.specs.Sections.{top_of}
use Rattle.dw_tables.proofs.TableRows.{placed-none, placed-row}
use Rattle.dw_tables.proofs.FilledTables.{covered-has, first-cover}

-- ---- more about the row that a section has at an address

-- if a section has a row at an address, one of its FDEs covers the address
pub row-covered : (s : FrameSection) (a : ℕ) (row : Row) → row_of s a ≡ Some row → (f : Fde) × Contains s.fdes f × Covers f a
row-covered s a row found = elim (first-cover a s.fdes) [
  | inl here ↦ here
  | inr none ↦ let wrong : None ≡ Some row = sym (row-none s a none) ∙ found in cc
]

-- if a checked section has no row at an address, no FDE covers the address
pub row-missing : (s : FrameSection) (a : ℕ) → IsChecked s → row_of s a ≡ None → (f : Fde) → Contains s.fdes f → Covers f a → ⊥
row-missing s a checked none f among covered =
    let one = has-one-row s a checked f among covered in
    let wrong : None ≡ Some one.row = sym none ∙ one.found in cc

-- a section's row at an address begins and ends at addresses that the target has
pub row-fits : (s : FrameSection) (a : ℕ) (row : Row) → IsChecked s → row_of s a ≡ Some row
    → (row.start ≤ top_of s.target) × (row.end ≤ top_of s.target)
row-fits s a row checked found =
    let here = row-covered s a row found in
    let f = here.0 in
    let among = here.1 in
    let covered = here.2 in
    let pointed = fde-good s checked f among in
    let c = pointed.0 in
    let none = pointed.3 in
    let is : rows_by_cie (cie_in s f) f ≡ rows_of c f = ap (λ o. rows_by_cie o f) pointed.1 in
    let has_row = covered-has s checked f among a covered in
    let placed : PlacedRow = has_row.1 in
    let only : IsCoverOf s.fdes a (Some f) = (among, covered, λ g g_in g_covers. checked-once s checked a g f g_in among g_covers covered) in
    let same : Some row ≡ Some (row_with_expressions s.expressions placed) =
    sym found ∙ row-found s a f (row_with_expressions s.expressions placed) only
    (find-with s.expressions a (rows_by_cie (cie_in s f) f) placed has_row.3) in
    let start : row.start ≡ placed.start = cc in
    let end : row.end ≡ placed.end = cc in
    let by = found-by (has_address a) f.initial_location (f.initial_location + f.address_range) (rows_of c f) placed (cover-rows c f none)
    (sym (ap (find (has_address a)) is) ∙ has_row.3) in
    let fits = (checked-fdes-sound s checked f among).range in
    (omega (arith, by.0), omega (arith, by.1))

-- ---- what looking up an address in a table gives

find-given : (es : List LocatedExpression) (a : ℕ) (rows : List (PlacedRow × ℕ))
    → find (has a) (map (found_with_expressions es) rows) ≡ option_map (found_with_expressions es) (find (has a) rows)
find-given es a [] = refl
find-given es a (x ∷ rows) = go (has a x) (find-given es a rows)
  where
    go : (b : Bool) → find (has a) (map (found_with_expressions es) rows) ≡ option_map (found_with_expressions es) (find (has a) rows)
        → cond b (Some (found_with_expressions es x)) (find (has a) (map (found_with_expressions es) rows))
        ≡ option_map (found_with_expressions es) (cond b (Some x) (find (has a) rows))
    go true next = refl
    go false next = next

-- looking up an address in a table gives the row that is found among the rows as stored, with
-- expressions in place of their offsets
pub table-finds : (t : RowTable) (target : Target) (es : List LocatedExpression) (rows : List (PlacedRow × ℕ)) (bytes a : ℕ)
    → record { target = target; rows = map (found_with_expressions es) rows; bytes = bytes } ≡ t
    → option_map (found_with_expressions es) (find (has a) rows) ≡ row_at t a
table-finds t target es rows bytes a is = sym (find-given es a rows) ∙ ap (λ (x : RowTable). row_at x a) is

found-at : (s : FrameSection) (a : ℕ) (o : Option (PlacedRow × ℕ)) → IsChecked s → IsPlacedAt s a o
    → IsFoundAt s a (option_map (found_with_expressions s.expressions) o)
found-at s a None checked h = row-missing s a checked h
found-at s a (Some x) checked h = h

-- the rows of a section, with the section's expressions in place of their offsets and with its
-- target, are a table of the section
pub table-of : (s : FrameSection) (target : Target) (es : List LocatedExpression) (rows : List (PlacedRow × ℕ)) (bytes : ℕ)
    → target ≡ s.target → es ≡ s.expressions → ArePlacedRows s rows
    → IsTableOf s (record { target = target; rows = map (found_with_expressions es) rows; bytes = bytes })
table-of s target es rows bytes same lent are = record {
  target = same;
  row = λ a. subst (IsFoundAt s a) (sym (find-given s.expressions a rows)
      ∙ ap (λ (l : List LocatedExpression). find (has a) (map (found_with_expressions l) rows)) (sym lent))
      (found-at s a (find (has a) rows) are.checked (are.row a));
}

-- if all rows in `rows` name only expressions among `es`, so does a row that is found in `rows`
pub found-lends : (es : List LocatedExpression) (a : ℕ) (rows : List (PlacedRow × ℕ)) (x : PlacedRow × ℕ) → All (LendsFound es) rows
    → find (has a) rows ≡ Some x → LendsFound es x
found-lends es a rows x all = go rows (recursion_from_All (LendsFound es) rows all)
  where
    go : (rows : List (PlacedRow × ℕ)) → AllByRecursion (LendsFound es) rows → find (has a) rows ≡ Some x → LendsFound es x
    go [] lends found = cc
    go (y ∷ rows) lends found = by (has a y) (go rows lends.1) found
      where
        by : (b : Bool) → (find (has a) rows ≡ Some x → LendsFound es x) → cond b (Some y) (find (has a) rows) ≡ Some x → LendsFound es x
        by true later e = let same : y ≡ x = cc in subst (LendsFound es) same lends.0
        by false later e = later e

-- ---- the entry that a look-up finds, and what the code reads from it

start-of : (entries : List TableEntry) (n x : ℕ) (d : TableEntry) → n < length entries
    → option_map entry_start (slice_get entries n) ≡ Some x → (get_or entries n d).start ≡ x
start-of entries n x d lt is =
    let found : Some (get_or entries n d).start ≡ Some x =
    ap (λ (o : Option TableEntry). option_map entry_start o) (sym (slice_get-get_or entries n d lt)) ∙ is in
    cc

pub row-read : (entries : List TableEntry) (sets : List StoredSet) (rows : List (PlacedRow × ℕ)) (a after end : ℕ) (entry : TableEntry)
    (k : StoredSet) (c : PlacedCfa) → rows_to sets entries 0 ≡ rows → IsEntryCount entries a after → 0 < after → after < length entries
    → slice_get entries (after - 1) ≡ Some entry → slice_get sets entry.set ≡ Some k
    → option_map entry_start (slice_get entries after) ≡ Some end → k.rules.cfa ≡ Some c
    → find (has a) rows ≡ Some (row_between entry.start end k.rules, k.register)
row-read entries sets rows a after end entry k c view count some lt at at_set at_end cfa =
    let d : TableEntry = record { start = 0; set = 0 } in
    let n = after - 1 in
    let next : after ≡ suc n = omega (arith, some) in
    let counted : IsEntryCount entries a (suc n) = subst (IsEntryCount entries a) next count in
    let is : get_or entries n d ≡ entry = get_or_from_slice_get entries n entry d at in
    let is_set : set_numbered sets (get_or entries n d).set ≡ k =
    ap (λ (e : TableEntry). set_numbered sets e.set) is ∙ get_or_from_slice_get sets entry.set k no_set at_set in
    let is_end : (get_or entries (suc n) d).start ≡ end =
    ap (λ (m : ℕ). (get_or entries m d).start) (sym next) ∙ start-of entries after end d lt at_end in
    let with : ℕ → ℕ → StoredSet → Option (PlacedRow × ℕ) = λ l m x. Some (row_between l m x.rules, x.register) in
    ap (λ (l : List (PlacedRow × ℕ)). find (has a) l) (sym view)
    ∙ placed-row entries sets a n d c counted (omega (arith, lt)) (ap (λ (x : StoredSet). x.rules.cfa) is_set ∙ cfa)
    ∙ ap (λ (x : StoredSet). with (get_or entries n d).start (get_or entries (suc n) d).start x) is_set
    ∙ ap (λ (e : TableEntry). with e.start (get_or entries (suc n) d).start k) is
    ∙ ap (λ (m : ℕ). with entry.start m k) is_end

pub none-read : (entries : List TableEntry) (sets : List StoredSet) (rows : List (PlacedRow × ℕ)) (a after : ℕ) (entry : TableEntry)
    (k : StoredSet) → rows_to sets entries 0 ≡ rows → IsEntryCount entries a after → 0 < after
    → slice_get entries (after - 1) ≡ Some entry → slice_get sets entry.set ≡ Some k → k.rules.cfa ≡ None
    → find (has a) rows ≡ None
none-read entries sets rows a after entry k view count some at at_set cfa =
    let d : TableEntry = record { start = 0; set = 0 } in
    let n = after - 1 in
    let next : after ≡ suc n = omega (arith, some) in
    let counted : IsEntryCount entries a (suc n) = subst (IsEntryCount entries a) next count in
    let is : get_or entries n d ≡ entry = get_or_from_slice_get entries n entry d at in
    let is_set : set_numbered sets (get_or entries n d).set ≡ k =
    ap (λ (e : TableEntry). set_numbered sets e.set) is ∙ get_or_from_slice_get sets entry.set k no_set at_set in
    ap (λ (l : List (PlacedRow × ℕ)). find (has a) l) (sym view)
    ∙ placed-none entries sets a n d counted (ap (λ (x : StoredSet). x.rules.cfa) is_set ∙ cfa)

-- ---- the expressions that a found row names

pub cfa-lent : (es : List LocatedExpression) (rows : List (PlacedRow × ℕ)) (a : ℕ) (x : PlacedRow × ℕ) (c : PlacedCfa)
    → All (LendsFound es) rows → find (has a) rows ≡ Some x → x.0.cfa ≡ Some c → LendsCfa es c
cfa-lent es rows a x c all found cfa = subst (λ (o : Option PlacedCfa). IfSome o (LendsCfa es)) cfa (found-lends es a rows x all found).cfa

pub rules-lent : (es : List LocatedExpression) (rows : List (PlacedRow × ℕ)) (a : ℕ) (x : PlacedRow × ℕ) → All (LendsFound es) rows
    → find (has a) rows ≡ Some x → LendsEach es x.0.rules
rules-lent es rows a x all found = (found-lends es a rows x all found).rules

-- ---- a row's expressions have the table's target

pub found-among : {X : Type 0} (p : X → Bool) (xs : List X) (x : X) → find p xs ≡ Some x → Contains xs x
found-among p [] x e = cc
found-among p (y ∷ xs) x e = go (λ later. found-among p xs x later) (p y) e
  where
    go : (find p xs ≡ Some x → Contains xs x) → (b : Bool) → cond b (Some y) (find p xs) ≡ Some x → Contains (y ∷ xs) x
    go next true is = let same : y ≡ x = cc in (zero, omega arith, same)
    go next false is = let rest = next is in (suc rest.0, omega (arith, rest.1), rest.2)

module _ (es : List LocatedExpression) (target : Target) (each : (e : LocatedExpression) → Contains es e → IsUnder target e) where
  lent-under : (kind : Kind) (at : ℕ) → IsLent es kind at → IsUnder target (located_at es at)
  lent-under kind at h =
      subst (IsUnder target) (sym (ap or_nowhere h.found)) (each h.lent (found-among (λ e. e.offset == at) es h.lent h.found))

  rule-under : (x : PlacedRule) → LendsRule es x → IsRuleUnder target (rule_with_expressions es x)
  rule-under (expression at) h = lent-under FrameRegister at h
  rule-under (val_expression at) h = lent-under FrameRegister at h
  rule-under default h = tt
  rule-under undefined h = tt
  rule-under same_value h = tt
  rule-under (offset n) h = tt
  rule-under (val_offset n) h = tt
  rule-under (register r) h = tt

  cfa-under : (x : Option PlacedCfa) → IfSome x (LendsCfa es) → IfSome (option_map (cfa_with_expressions es) x) (IsCfaUnder target)
  cfa-under None h = tt
  cfa-under (Some (cfa_expression at)) h = lent-under FrameCfa at h
  cfa-under (Some (register_and_offset r n)) h = tt

  rules-under : (rules : List (ℕ × PlacedRule)) → AllByRecursion (LendsEntry es) rules
      → AllByRecursion (IsEntryUnder target) (rules_with_expressions es rules)
  rules-under [] h = tt
  rules-under (x ∷ rules) h = (rule-under x.1 h.0, rules-under rules h.1)

  pub row-under : (x : PlacedRow × ℕ) → LendsFound es x → IsRowUnder target (row_with_expressions es x.0)
  row-under x h = record {
    cfa = cfa-under x.0.cfa h.cfa;
    rules = All-from_recursion (IsEntryUnder target) (rules_with_expressions es x.0.rules)
        (rules-under x.0.rules (recursion_from_All (LendsEntry es) x.0.rules h.rules));
  }

  pub finds-under : (rows : List (PlacedRow × ℕ)) (a : ℕ) → All (LendsFound es) rows
      → IfSome (option_map (found_with_expressions es) (find (has a) rows)) (λ found. IsRowUnder target found.0)
  finds-under rows a all = go (find (has a) rows) refl
    where
      go : (o : Option (PlacedRow × ℕ)) → find (has a) rows ≡ o
          → IfSome (option_map (found_with_expressions es) o) (λ found. IsRowUnder target found.0)
      go None is = tt
      go (Some x) is = row-under x (found-lends es a rows x all is)

pub all-under : (s : FrameSection) → IsChecked s → (e : LocatedExpression) → Contains s.expressions e → IsUnder s.target e
all-under s k e among = (checked-expressions s k e among).1

-- ---- laws of tables

pub tables-fit : (s : FrameSection) (t : RowTable) → IsChecked s → IsTableOf s t → (a : ℕ)
    → IfSome (row_at t a) (λ found. (found.0.start ≤ top_of s.target) × (found.0.end ≤ top_of s.target))
tables-fit s t checked is a = go (row_at t a) (is.row a)
  where
    go : (o : Option (Row × ℕ)) → IsFoundAt s a o
        → IfSome o (λ found. (found.0.start ≤ top_of s.target) × (found.0.end ≤ top_of s.target))
    go None h = tt
    go (Some x) h = row-fits s a x.0 checked h.0

one-register : (s : FrameSection) (a q r : ℕ) → IsReturnRegister s a q → IsReturnRegister s a r → q ≡ r
one-register s a q r one other =
    let f = one.0 in
    let g = other.0 in
    let same : f ≡ g = other.2.2 f one.2.0 one.2.1 in
    let cies : Some one.1 ≡ Some other.1 = sym one.3 ∙ ap (cie_in s) same ∙ other.3 in
    let cie : one.1 ≡ other.1 = cc in
    sym one.4 ∙ ap (λ (c : Cie). c.return_address_register) cie ∙ other.4

found-once : (s : FrameSection) (a : ℕ) (o p : Option (Row × ℕ)) → IsFoundAt s a o → IsFoundAt s a p → o ≡ p
found-once s a None None h k = refl
found-once s a None (Some x) h k = let c = k.1.2 in absurd (h k.1.0 c.0 c.1)
found-once s a (Some x) None h k = let c = h.1.2 in absurd (k h.1.0 c.0 c.1)
found-once s a (Some x) (Some y) h k =
    let rows : Some x.0 ≡ Some y.0 = sym h.0 ∙ k.0 in
    let row : x.0 ≡ y.0 = cc in
    let register : x.1 ≡ y.1 = one-register s a x.1 y.1 h.1 k.1 in
    ap (λ (r : Row). let o : Option (Row × ℕ) = Some (r, x.1) in o) row
    ∙ ap (λ (n : ℕ). let o : Option (Row × ℕ) = Some (y.0, n) in o) register

pub tables-same : (s : FrameSection) (t u : RowTable) → IsTableOf s t → IsTableOf s u → (a : ℕ) → row_at t a ≡ row_at u a
tables-same s t u one other a = found-once s a (row_at t a) (row_at u a) (one.row a) (other.row a)

-- ---- there are no more rows than entries

at-most-one : (o : Option PlacedCfa) (start to : ℕ) (k : StoredSet) → length (row_if o start to k) ≤ 1
at-most-one None start to k = omega arith
at-most-one (Some c) start to k = omega arith

pub rows-few : (sets : List StoredSet) (entries : List TableEntry) (to : ℕ) → length (rows_to sets entries to) ≤ length entries
rows-few sets [] to = omega arith
rows-few sets (e ∷ rest) to =
    let k = set_numbered sets e.set in
    let here = row_from sets e (next_start rest to) in
    omega (arith, length-append here (rows_to sets rest to), at-most-one k.rules.cfa e.start (next_start rest to) k, rows-few sets rest to)
