-- Each address that an FDE of a checked section covers has exactly one row, the one that DWARF 5
-- gives it (`HasOneRow`).
use Rattle.std.proofs.Common.{◌≡◌, ℕ, ◌+◌, ◌-◌, ◌<◌, ◌≤◌, Bool, true, false, cond, List, [], ◌∷◌, refl, sym, ap, ◌∙◌, subst, arith, map}
use Rattle.std.proofs.Common.{ltb, leb, Some, Contains}
use Rattle.std.proofs.lemmas.Bool.Decides.{nat_tests}
use Rattle.std.specs.Prelude.{◌&&◌, find, filter}
use Rattle.dw_frame.specs.Records.{Fde}
use Rattle.dw_rules.specs.Rules.{PlacedRow, Row, rule_in}
use Rattle.dw_rules.specs.Effects.{Effect}
use Rattle.dw_rules.specs.InForce.{Start}
use Rattle.dw_rules.specs.RowsWithExpressions.{row_with_expressions}
use Rattle.dw_rows.specs.UnwindRows.{rows_of, has_address}
use Rattle.dw_rows.specs.Clauses.{IsRowAt, IsRow, AreRowsFrom, start_in, program_in}
use Rattle.dw_rows.specs.Section.{FrameSection, Covers, IsCoverOf, IsChecked, rows_in, rows_by_cie}
use Rattle.dw_rows.specs.ExactRows.{HasOneRow}
use Rattle.dw_rules.proofs.Tables.{rule_list-table, rule_list-same}
use Rattle.dw_rows.proofs.sections.Parts.{pointed-in, good-past}
use Rattle.dw_rows.proofs.Faults.{at-found}
use Rattle.dw_rows.proofs.programs.Programs.{good-from-cie, good-from-fde}
use Rattle.dw_rows.proofs.rows.Covering.{cover-rows}
use Rattle.dw_rows.proofs.rows.RowsOf.{rows-of-good, one-row}
use Rattle.dw_rows.proofs.rows.Lookups.{row-found}
use Rattle.dw_rows.proofs.expressions.Lending.{lends-in, row-lends}
use Rattle.dw_rows.proofs.rows.RowsWithExpressions.{filter-with}
use Rattle.dw_rows.proofs.sections.CheckedSections.{checked-parts, checked-once}

-- ---- the only row that passes a test

-- `find` returns the only row that passes the test
found-alone : (p : Row → Bool) (rows : List Row) (row : Row) → filter p rows ≡ row ∷ [] → find p rows ≡ Some row
found-alone p [] row e = cc
found-alone p (x ∷ rows) row e = go (λ later. found-alone p rows row later) (p x) e
  where
    go : (filter p rows ≡ row ∷ [] → find p rows ≡ Some row) → (b : Bool) → cond b (x ∷ filter p rows) (filter p rows) ≡ row ∷ []
        → cond b (Some x) (find p rows) ≡ Some row
    go next true e = let same : x ≡ row = cc in ap Some same
    go next false e = next e

-- the only row that passes the test is a row of the program
row-alone : (s : Start) (program : List Effect) (p : PlacedRow → Bool) (from to : ℕ) (rows : List PlacedRow) (row : PlacedRow)
    → AreRowsFrom s program from rows to → filter p rows ≡ row ∷ [] → IsRow s program row × (p row ≡ true)
row-alone s program p from to [] row are e = cc
row-alone s program p from to (x ∷ rows) row are e = go (λ later. row-alone s program p x.end to rows row are.2 later) (p x) refl e
  where
    here : p x ≡ true → x ≡ row → IsRow s program row × (p row ≡ true)
    here passes same = subst (λ r. IsRow s program r × (p r ≡ true)) same (are.1, passes)

    go : (filter p rows ≡ row ∷ [] → IsRow s program row × (p row ≡ true)) → (b : Bool) → p x ≡ b
        → cond b (x ∷ filter p rows) (filter p rows) ≡ row ∷ [] → IsRow s program row × (p row ≡ true)
    go next true passes e = here passes cc
    go next false passes e = next e

has-both : (a : ℕ) (row : PlacedRow) → has_address a row ≡ true → (row.start ≤ a) × (a < row.end)
has-both a row e =
    let both : (leb row.start a && ltb a row.end) ≡ true = e in
    (grind (arith, nat_tests), grind (arith, nat_tests))

-- ---- two rows after the same instructions are equal

-- two rows after the same instructions begin and end at the same addresses
starts-by : (s : Start) (p : List Effect) (k : ℕ) (x y : PlacedRow) → IsRowAt s p k x → IsRowAt s p k y → y.start ≤ x.start
starts-by s p k x y r t =
    let here = (r.range x.start r.low (omega (arith, r.some, r.high))).0 ((omega arith), r.some) in
    ((t.range x.start r.low (omega (arith, r.some, r.high))).1 here).0

ends-by : (s : Start) (p : List Effect) (k : ℕ) (x y : PlacedRow) → IsRowAt s p k x → IsRowAt s p k y → x.end ≤ y.end
ends-by s p k x y r t =
    let low : s.location ≤ x.end - 1 = omega (arith, r.some, r.low) in
    let high : x.end - 1 < s.end = omega (arith, r.some, r.high) in
    let here = (r.range (x.end - 1) low high).0 (omega (arith, r.some), omega (arith, r.some)) in
    let there = ((t.range (x.end - 1) low high).1 here).1 in
    omega (arith, r.some)

same-rules : (s : Start) (p : List Effect) (k : ℕ) (x y : PlacedRow) → IsRowAt s p k x → IsRowAt s p k y → x.rules ≡ y.rules
same-rules s p k x y r t =
    sym (rule_list-table x.rules r.table)
    ∙ rule_list-same (rule_in x.rules) (rule_in y.rules) (λ q h. r.rules q h ∙ sym (t.rules q h))
    ∙ rule_list-table y.rules t.table

row-same : (s : Start) (p : List Effect) (k : ℕ) (x y : PlacedRow) → IsRowAt s p k x → IsRowAt s p k y → x ≡ y
row-same s p k x y r t =
    let start : x.start ≡ y.start = let a = starts-by s p k x y r t in let b = starts-by s p k y x t r in omega arith in
    let end : x.end ≡ y.end = let a = ends-by s p k x y r t in let b = ends-by s p k y x t r in omega arith in
    let cfa : x.cfa ≡ y.cfa = r.cfa ∙ sym t.cfa in
    let rules : x.rules ≡ y.rules = same-rules s p k x y r t in
    λ i. record { start = start i; end = end i; cfa = cfa i; rules = rules i }

-- ---- the law `exact_rows`

pub has-one-row : (s : FrameSection) (a : ℕ) → IsChecked s → (f : Fde) → Contains s.fdes f → Covers f a → HasOneRow s a
has-one-row s a checked f among covers =
    let parts = checked-parts s checked in
    let pointed = pointed-in s.cies s.fdes parts f among in
    let c = pointed.0 in
    let cie_found = at-found s.cies f.cie_pointer c pointed.1 in
    let none = good-past s.cies s.fdes parts f among c pointed.1 in
    let good = good-from-fde c f (good-from-cie c none.0) none.1 in
    let one = one-row a f.initial_location (f.initial_location + f.address_range) (rows_of c f) (cover-rows c f none.1) covers.0 covers.1 in
    let row = one.0 in
    let is = row-alone (start_in c f good) (program_in c f good) (has_address a) f.initial_location (f.initial_location + f.address_range)
    (rows_of c f) row
    (rows-of-good c f good) one.1 in
    let es = s.expressions in
    let rows : rows_in s f ≡ map (row_with_expressions es) (rows_of c f) = ap (λ o. map (row_with_expressions es) (rows_by_cie o f)) pointed.1 in
    let lends = lends-in s checked c f cie_found.0 among in
    let lent = row-lends es c f good row is.0.0 is.0.1 lends in
    let only : IsCoverOf s.fdes a (Some f) = (among, covers, λ g g_in g_covers. checked-once s checked a g f g_in among g_covers covers) in
    let alone : filter (has_address a) (rows_in s f) ≡ row_with_expressions es row ∷ [] =
    ap (filter (has_address a)) rows ∙ filter-with es a (rows_of c f) ∙ ap (map (row_with_expressions es)) one.1 in
    record {
      fde = f;
      covers = only;
      cie = c;
      among = cie_found.0;
      pointed = cie_found.1;
      good = good;
      row = row_with_expressions es row;
      one = alone;
      placed = row;
      given = refl;
      cfa_lent = lent.0;
      lent = lent.1;
      last = is.0.0;
      longest = (is.0.1.range a covers.0 covers.1).0 (has-both a row is.1);
      standard = is.0.1;
      only = λ other at. row-same (start_in c f good) (program_in c f good) is.0.0 other row at is.0.1;
      found = row-found s a f (row_with_expressions es row) only (found-alone (has_address a) (rows_in s f) (row_with_expressions es row) alone);
    }
