-- The table of all FDEs has the rows of the section, and the expressions that the rows name are
-- among the section's.
use Rattle.std.proofs.Common.{◌≡◌, ℕ, zero, suc, ◌+◌, ◌<◌, ◌≤◌, Bool, true, false, cond, List, [], ◌∷◌, ◌++◌, length, get_or, refl, sym, ap, ◌∙◌}
use Rattle.std.proofs.Common.{Option, Some, None, IsSome, Contains, take, subst, arith, append_assoc, inl, inr, ◌⊎◌}
use Rattle.std.proofs.lemmas.Bool.{cases_lt}
use Rattle.std.proofs.lemmas.Bool.Decides.{nat_tests}
use Rattle.std.proofs.lemmas.List.{append-nil, take_more, take_all, get_or_default}
use Rattle.std.proofs.lemmas.List.Elements.{All-from_recursion}
use Rattle.std.specs.Prelude.{All, find}
use Rattle.std.specs.List.{AllByRecursion}
use Rattle.std.specs.Option.{option_map}
use Rattle.dw_frame.specs.Records.{Cie, Fde}
use Rattle.dw_stack.specs.Located.{LocatedExpression}
use Rattle.dw_tables.specs.declared.table_entries.TableEntry.{TableEntry}
use Rattle.dw_rules.specs.Rules.{PlacedCfa, PlacedRow}
use Rattle.dw_rules.specs.RuleSet.{LendsRules}
use Rattle.dw_rules.specs.RowsWithExpressions.{row_with_expressions}
use Rattle.dw_rows.specs.UnwindRows.{has_address, rows_of}
use Rattle.dw_tables.specs.UnwindTables.{has}
use Rattle.dw_rows.specs.Section.{FrameSection, Covers, IsCoverOf, IsChecked, CoversOnce, rows_by_cie, covers, row_of, cie_in}
use Rattle.dw_rows.specs.Section.{IsReturnRegister}
use Rattle.dw_rows.specs.AddressIndex.{IsIndexOf}
use Rattle.dw_tables.specs.CompiledTable.{StoredSet, no_set, set_numbered, row_if, row_from, next_start, rows_to, placed_rows}
use Rattle.dw_tables.specs.CompiledTable.{rows_of_each, with_register, returning, returning_by_cie, LendsSet, LendsFound, IsPlacedAt}
use Rattle.dw_tables.specs.CompiledTable.{IsTableUpTo, IsClosedAt, IsFilled, AreAllRows, AreEntries, ArePlacedRows}
use Rattle.dw_rows.proofs.rows.Covering.{cover-rows, here, find-below, find-above, find-some}
use Rattle.dw_rows.proofs.rows.Lookups.{row-found, row-none}
use Rattle.dw_rows.proofs.rows.RowsWithExpressions.{find-with}
use Rattle.dw_rows.proofs.sections.FdesOfSections.{fde-good}
use Rattle.dw_rows.proofs.sections.CheckedSections.{checked-once}
use Rattle.dw_tables.proofs.TableRows.{filled, find-past, find-first}

-- ---- the rows of all FDEs

each-more : (s : FrameSection) (fdes : List Fde) (f : Fde) → rows_of_each s (fdes ++ f ∷ []) ≡ rows_of_each s fdes ++ placed_rows s f
each-more s [] f = append-nil (placed_rows s f)
each-more s (x ∷ fdes) f =
    ap (λ l. placed_rows s x ++ l) (each-more s fdes f) ∙ sym (append_assoc (placed_rows s x) (rows_of_each s fdes) (placed_rows s f))

-- finding the row of an address among rows that are all paired with register r is finding it among
-- the rows, and then pairing it with r
find-returning : (a r : ℕ) (rows : List PlacedRow)
    → find (has a) (returning r rows) ≡ option_map (with_register r) (find (has_address a) rows)
find-returning a r [] = refl
find-returning a r (x ∷ rows) = go (has_address a x) (find-returning a r rows)
  where
    go : (b : Bool) → find (has a) (returning r rows) ≡ option_map (with_register r) (find (has_address a) rows)
        → cond b (Some (x, r)) (find (has a) (returning r rows))
        ≡ option_map (with_register r) (cond b (Some x) (find (has_address a) rows))
    go true next = refl
    go false next = next

-- an FDE of a checked section has a CIE, and a row for each address that the FDE covers
pub covered-has : (s : FrameSection) → IsChecked s → (f : Fde) → Contains s.fdes f → (a : ℕ) → Covers f a
    → (c : Cie) × (row : PlacedRow) × (cie_in s f ≡ Some c) × (find (has_address a) (rows_by_cie (cie_in s f) f) ≡ Some row)
    × (find (has a) (placed_rows s f) ≡ Some (row, c.return_address_register))
covered-has s checked f among a covered =
    let pointed = fde-good s checked f among in
    let c = pointed.0 in
    let r = c.return_address_register in
    let none = pointed.3 in
    let is : rows_by_cie (cie_in s f) f ≡ rows_of c f = ap (λ o. rows_by_cie o f) pointed.1 in
    let is_returning : placed_rows s f ≡ returning r (rows_of c f) = ap (λ o. returning_by_cie o f) pointed.1 in
    let found = some-is (find (has_address a) (rows_of c f))
    (find-some a f.initial_location (f.initial_location + f.address_range) (rows_of c f) (cover-rows c f none) covered.0 covered.1) in (
      c,
      found.0,
      pointed.1,
      ap (find (has_address a)) is ∙ found.1,
      ap (find (has a)) is_returning
          ∙ find-returning a r (rows_of c f) ∙ ap (option_map (with_register r)) found.1,
    )
  where
    some-is : (o : Option PlacedRow) → IsSome o → (row : PlacedRow) × (o ≡ Some row)
    some-is None some = cc
    some-is (Some row) some = (row, refl)

-- an FDE of a checked section has no row for an address that the FDE doesn't cover
uncovered-none : (s : FrameSection) → IsChecked s → (f : Fde) → Contains s.fdes f → (a : ℕ) → (Covers f a → ⊥)
    → find (has a) (placed_rows s f) ≡ None
uncovered-none s checked f among a not_here =
    let pointed = fde-good s checked f among in
    let c = pointed.0 in
    let r = c.return_address_register in
    let none = pointed.3 in
    let is : placed_rows s f ≡ returning r (rows_of c f) = ap (λ o. returning_by_cie o f) pointed.1 in
    let cover = cover-rows c f none in
    let end = f.initial_location + f.address_range in
    let no_row : find (has_address a) (rows_of c f) ≡ None = elim (cases_lt a f.initial_location) [
      | inl low ↦ find-below a f.initial_location end (rows_of c f) cover low
      | inr le ↦ elim (cases_lt a end) [
        | inl high ↦ absurd (not_here (le, high))
        | inr above ↦ find-above a f.initial_location end (rows_of c f) cover above
      ]
    ] in
    ap (find (has a)) is ∙ find-returning a r (rows_of c f) ∙ ap (option_map (with_register r)) no_row

covers-then : (a : ℕ) (f : Fde) → covers a f ≡ true → Covers f a
covers-then a f e = grind (arith, nat_tests)

covers-so : (a : ℕ) (f : Fde) → Covers f a → covers a f ≡ true
covers-so a f here = grind (arith, nat_tests)

in-later : (x y : Fde) (xs : List Fde) → Contains xs y → Contains (x ∷ xs) y
in-later x y xs at = (suc at.0, omega (arith, at.1), at.2)

-- either one of the FDEs covers the address, or none does
pub first-cover : (a : ℕ) (fdes : List Fde) → ((f : Fde) × Contains fdes f × Covers f a) ⊎ ((f : Fde) → Contains fdes f → Covers f a → ⊥)
first-cover a [] = inr (λ f among. absurd (omega (arith, among.1)))
first-cover a (x ∷ fdes) = go (covers a x) refl (first-cover a fdes)
  where
    at-front : (f : Fde) → (x ≡ f → ⊥) → Contains (x ∷ fdes) f → Contains fdes f
    at-front f other (zero, few, here) = absurd (other here)
    at-front f other (suc k, few, here) = (k, omega (arith, few), here)

    go : (b : Bool) → covers a x ≡ b
        → ((f : Fde) × Contains fdes f × Covers f a) ⊎ ((f : Fde) → Contains fdes f → Covers f a → ⊥)
        → ((f : Fde) × Contains (x ∷ fdes) f × Covers f a) ⊎ ((f : Fde) → Contains (x ∷ fdes) f → Covers f a → ⊥)
    go true e rest = inl (x, (0, omega arith, refl), covers-then a x e)
    go false e (inl found) = inl (found.0, in-later x found.0 fdes found.1, found.2)
    go false e (inr none) = inr (λ f among covered. none f (at-front f
        (λ same. let wrong : true ≡ false = sym (covers-so a f covered) ∙ ap (covers a) (sym same) ∙ e in cc) among) covered)

none-in-each : (s : FrameSection) → IsChecked s → (a : ℕ) (fdes : List Fde) → ((f : Fde) → Contains fdes f → Contains s.fdes f)
    → ((f : Fde) → Contains fdes f → Covers f a → ⊥) → find (has a) (rows_of_each s fdes) ≡ None
none-in-each s checked a [] from none = refl
none-in-each s checked a (x ∷ fdes) from none =
    let x_in : Contains (x ∷ fdes) x = (0, omega arith, refl) in
    find-past (has a) (placed_rows s x) (rows_of_each s fdes)
    (uncovered-none s checked x (from x x_in) a (none x x_in))
    ∙ none-in-each s checked a fdes (λ f among. from f (in-later x f fdes among)) (λ f among. none f (in-later x f fdes among))

one-in-each : (s : FrameSection) → IsChecked s → (a : ℕ) (fdes : List Fde) (f : Fde) (row : PlacedRow × ℕ)
    → ((g : Fde) → Contains fdes g → Contains s.fdes g) → Contains fdes f → Covers f a
    → find (has a) (placed_rows s f) ≡ Some row → find (has a) (rows_of_each s fdes) ≡ Some row
one-in-each s checked a [] f row from among covered found = absurd (omega (arith, among.1))
one-in-each s checked a (x ∷ fdes) f row from among covered found = go (covers a x) refl among (one-in-each s checked a fdes f row)
  where
    x_in : Contains (x ∷ fdes) x
    x_in = (0, omega arith, refl)

    go : (b : Bool) → covers a x ≡ b → Contains (x ∷ fdes) f
        → (((g : Fde) → Contains fdes g → Contains s.fdes g) → Contains fdes f → Covers f a
        → find (has a) (placed_rows s f) ≡ Some row → find (has a) (rows_of_each s fdes) ≡ Some row)
        → find (has a) (placed_rows s x ++ rows_of_each s fdes) ≡ Some row
    go true e at next =
        let same : x ≡ f = checked-once s checked a x f (from x x_in) (from f among) (covers-then a x e) covered in
        find-first (has a) (placed_rows s x) (rows_of_each s fdes) row
        (ap (λ g. find (has a) (placed_rows s g)) same ∙ found)
    go false e (zero, few, here) next =
        let wrong : true ≡ false = sym (covers-so a f covered) ∙ ap (covers a) (sym here) ∙ e in cc
    go false e (suc k, few, here) next =
        find-past (has a) (placed_rows s x) (rows_of_each s fdes)
        (uncovered-none s checked x (from x x_in) a
        (λ c. let wrong : true ≡ false = sym (covers-so a x c) ∙ e in cc))
        ∙ next (λ g at. from g (in-later x g fdes at)) (k, omega (arith, few), here) covered found

-- looking up an address among the rows of all FDEs gives the section's row there, or nothing if the
-- section has none there
pub row-in-each : (s : FrameSection) (fdes : List Fde) → IsChecked s → IsIndexOf s.fdes fdes → (a : ℕ)
    → IsPlacedAt s a (find (has a) (rows_of_each s fdes))
row-in-each s fdes checked index a = elim (first-cover a fdes) [
  | inl found ↦
      let f = found.0 in
      let among = index.from f found.1 in
      let has_row = covered-has s checked f among a found.2 in
      let c = has_row.0 in
      let row = has_row.1 in
      let only : IsCoverOf s.fdes a (Some f) = (among, found.2, λ g g_in g_covers. checked-once s checked a g f g_in among g_covers found.2) in
      let is : row_of s a ≡ Some (row_with_expressions s.expressions row) =
      row-found s a f (row_with_expressions s.expressions row) only (find-with s.expressions a (rows_by_cie (cie_in s f) f) row has_row.3) in
      let returns : IsReturnRegister s a c.return_address_register = (f, c, only, has_row.2, refl) in
      subst (IsPlacedAt s a)
      (sym (one-in-each s checked a fdes f (row, c.return_address_register) index.from found.1 found.2 has_row.4)) (is, returns)
  | inr none ↦
      subst (IsPlacedAt s a) (sym (none-in-each s checked a fdes index.from none))
      (row-none s a (λ f among covered. none f (index.to f among (omega (arith, covered.0, covered.1))) covered))
]

-- ---- the expressions that rows name are the section's

each-append : {X : Type 0} (P : X → Type 0) (xs ys : List X) → AllByRecursion P xs → AllByRecursion P ys → AllByRecursion P (xs ++ ys)
each-append P [] ys a b = b
each-append P (x ∷ xs) ys a b = (a.0, each-append P xs ys a.1 b)

one-lends : (es : List LocatedExpression) (o : Option PlacedCfa) (start to : ℕ) (k : StoredSet) → k.rules.cfa ≡ o → LendsRules es k.rules
    → AllByRecursion (LendsFound es) (row_if o start to k)
one-lends es None start to k is lends = tt
one-lends es (Some c) start to k is lends = (record { cfa = lends.cfa; rules = lends.rules }, tt)

pub rows-lend : (es : List LocatedExpression) (sets : List StoredSet) → All (LendsSet es) sets → (entries : List TableEntry)
    → ((k : ℕ) (d : TableEntry) → k < length entries → (get_or entries k d).set < length sets) → (to : ℕ)
    → AllByRecursion (LendsFound es) (rows_to sets entries to)
rows-lend es sets lends [] within to = tt
rows-lend es sets lends (e ∷ rest) within to =
    let k = set_numbered sets e.set in
    each-append (LendsFound es) (row_from sets e (next_start rest to)) (rows_to sets rest to)
    (one-lends es k.rules.cfa e.start (next_start rest to) k refl (lends e.set no_set (within 0 e (omega arith))))
    (rows-lend es sets lends rest (λ k d lt. within (suc k) d (omega arith)) to)

-- ---- adding the rows of one FDE after another

contains-at : {X : Type 0} (xs : List X) (i : ℕ) (d : X) → i < length xs → Contains xs (get_or xs i d)
contains-at xs i d lt = (i, lt, get_or_default xs i (get_or xs i d) d lt)

-- of two FDEs in the address index, the one at the higher index begins at or after the end of the
-- other
index-apart : (fdes index : List Fde) → IsIndexOf fdes index → CoversOnce fdes → (i j : ℕ) (d f : Fde) → i < j → j < length index
    → get_or index i d ≡ f → f.initial_location + f.address_range ≤ (get_or index j d).initial_location
index-apart fdes index is once i j d f lt within at =
    let g = get_or index j d in
    let i_in : i < length index = omega arith in
    let f_in : Contains index f = subst (λ x. Contains index x) at (contains-at index i d i_in) in
    let g_in : Contains index g = contains-at index j d within in
    let low : f.initial_location ≤ g.initial_location =
    subst (λ x. x.initial_location ≤ g.initial_location) at (is.ordered.sorted i j d (omega arith) within) in
    elim (cases_lt g.initial_location (f.initial_location + f.address_range)) [
      | inl inside ↦
          let some : 0 < g.address_range = is.ordered.some g g_in in
          let same : f ≡ g = once g.initial_location f g (is.from f f_in) (is.from g g_in) (low, inside) (omega arith, omega arith) in
          let offsets : (get_or index i d).offset ≡ (get_or index j d).offset = ap (λ (x : Fde). x.offset) (at ∙ same) in
          absurd (omega (arith, is.ordered.distinct i j d i_in within offsets))
      | inr past ↦ past
    ]

-- The table has the rows of the first k FDEs in order of address. The rows end at `last`, and all
-- later FDEs begin at or after `last`.
pub record IsFillingAll (s : FrameSection) (index : List Fde) (k last : ℕ) (entries : List TableEntry) (sets : List StoredSet) : Type 0 where
  pub table : IsTableUpTo s.expressions last entries sets
  pub next : (j : ℕ) (d : Fde) → k ≤ j → j < length index → last ≤ (get_or index j d).initial_location
  pub rows : rows_to sets entries last ≡ rows_of_each s (take k index)

pub all-begin : (s : FrameSection) (index : List Fde) (entries : List TableEntry) (sets : List StoredSet) → entries ≡ [] → sets ≡ []
    → IsFillingAll s index 0 0 entries sets
all-begin s index entries sets none no_sets =
    subst (λ (l : List TableEntry). IsFillingAll s index 0 0 l sets) (sym none)
    (subst (λ (l : List StoredSet). IsFillingAll s index 0 0 [] l) (sym no_sets) (record {
      table = record {
        sorted = λ i j d le lt. absurd (omega arith);
        below = λ k d lt. absurd (omega arith);
        within = λ k d lt. absurd (omega arith);
        lends = λ k d lt. absurd (omega arith);
      };
      next = λ j d le lt. omega arith;
      rows = refl;
    }))

pub all-on : (s : FrameSection) (index : List Fde) (k last : ℕ) (f : Fde) (old new : List TableEntry) (old_sets new_sets : List StoredSet)
    → CoversOnce s.fdes → IsIndexOf s.fdes index → k < length index → get_or index k f ≡ f → IsFillingAll s index k last old old_sets
    → IsFilled s f last old old_sets new new_sets
    → IsFillingAll s index (k + 1) (f.initial_location + f.address_range) new new_sets
all-on s index k last f old new old_sets new_sets once is lt at h filled = record {
  table = filled.table;
  next = λ j d le within. index-apart s.fdes index is once k j d f (omega arith) within
      (get_or_default index k d f lt ∙ at);
  rows = filled.rows ∙ ap (λ l. l ++ placed_rows s f) h.rows ∙ sym (each-more s (take k index) f)
      ∙ ap (λ (l : List Fde). rows_of_each s l) (sym (take_more index k f lt ∙ ap (λ x. take k index ++ x ∷ []) at));
}

pub all-done : (s : FrameSection) (index : List Fde) (k last : ℕ) (entries new : List TableEntry) (sets new_sets : List StoredSet)
    → IsIndexOf s.fdes index → length index ≤ k → IsFillingAll s index k last entries sets
    → IsClosedAt last entries sets new new_sets → AreEntries new new_sets × AreAllRows s (rows_to new_sets new 0)
all-done s index k last entries new sets new_sets is all h closed =
    let t = closed.table s.expressions h.table in (
      record { sorted = t.sorted; within = t.within },
      record {
        index = index;
        ordered = is;
        rows_are = closed.rows s.expressions h.table 0 ∙ h.rows ∙ ap (λ (l : List Fde). rows_of_each s l) (take_all k index all);
        lends = All-from_recursion (LendsFound s.expressions) (rows_to new_sets new 0)
            (rows-lend s.expressions new_sets t.lends new t.within 0);
      },
    )

-- the rows of all FDEs of a checked section are those that look-ups have to find
pub all-placed : (s : FrameSection) (rows : List (PlacedRow × ℕ)) → AreAllRows s rows → IsChecked s → ArePlacedRows s rows
all-placed s rows all checked = record {
  checked = checked;
  lends = all.lends;
  row = λ a. subst (λ (l : List (PlacedRow × ℕ)). IsPlacedAt s a (find (has a) l)) (sym all.rows_are)
      (row-in-each s all.index checked all.ordered a);
}

-- the same of a section and of rows by other names
pub placed-as : (s t : FrameSection) (rows stored : List (PlacedRow × ℕ)) → t ≡ s → IsChecked s → AreAllRows t rows → stored ≡ rows
    → ArePlacedRows s stored
placed-as s t rows stored same checked all is =
    rw is (all-placed s rows (subst (λ (u : FrameSection). AreAllRows u rows) same all) checked)
