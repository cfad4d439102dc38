-- In an accepted section, the row of an FDE that is read with its CIE alone is the section's.
use Rattle.std.proofs.Common.{◌≡◌, ℕ, zero, suc, ◌+◌, Bool, true, false, cond, List, [], ◌∷◌, map, Option, Some, None, Contains, refl, sym, ap, subst, ◌∙◌, arith, inl, inr}
use Rattle.std.specs.Prelude.{◌==◌, IfSome, find, filter, option_map}
use Rattle.std.specs.List.{AllByRecursion}
use Rattle.std.proofs.lemmas.Bool.{eqb-true}
use Rattle.std.proofs.lemmas.List.Elements.{Contains-append_cases, recursion_from_All}
use Rattle.dw_bytes.specs.declared.target.Target.{Target}
use Rattle.dw_stack.specs.declared.state.Kind.{Kind}
use Rattle.dw_stack.specs.declared.state.Kind.TheVariants.{FrameCfa, FrameRegister}
use Rattle.dw_stack.specs.Located.{LocatedExpression}
use Rattle.dw_rules.specs.Effects.{Effect}
use Rattle.dw_rules.specs.Expressions.{expressions_of, expression_at, frame_expressions}
use Rattle.dw_rules.specs.InForce.{Start}
use Rattle.dw_rules.specs.Rules.{PlacedRule, PlacedCfa, PlacedRow, default, undefined, same_value, offset, val_offset, register}
use Rattle.dw_rules.specs.Rules.{expression, val_expression, register_and_offset, cfa_expression}
use Rattle.dw_rules.specs.RowsWithExpressions.{located_at, or_nowhere, rule_with_expressions, cfa_with_expressions, given_entry, row_with_expressions, rules_with_expressions}
use Rattle.dw_rules.specs.RowsWithExpressions.{IsLent, LendsRule, LendsCfa, LendsEntry, LendsEach}
use Rattle.dw_rows.specs.Clauses.{IsRow, AreRowsFrom, start_in, program_in}
use Rattle.dw_rows.specs.Section.{FrameSection, Covers, IsChecked, cie_at, frame_with, rows_by_cie, row_of}
use Rattle.dw_rows.specs.UnwindRows.{rows_of, has_address}
use Rattle.dw_rows.proofs.Faults.{at-found}
use Rattle.dw_rows.proofs.expressions.ExpressionsAmong.{of-frame-cie, of-frame-fde}
use Rattle.dw_rows.proofs.expressions.Lending.{one-at-offset, row-lends}
use Rattle.dw_rows.proofs.programs.Programs.{good-from-cie, good-from-fde}
use Rattle.dw_rows.proofs.rows.Covering.{cover-rows}
use Rattle.dw_rows.proofs.rows.Lookups.{row-found}
use Rattle.dw_rows.proofs.rows.RowsOf.{rows-of-good, one-row}
use Rattle.dw_rows.proofs.rows.RowsWithExpressions.{find-with}
use Rattle.dw_rows.proofs.sections.CheckedSections.{checked-parts, checked-once}
use Rattle.dw_rows.proofs.sections.Parts.{good-past}
use Rattle.dw_eh_frame.specs.Records.{EhFde}
use Rattle.dw_in_place.specs.InPlace.{alone, row_of_fde}
use Rattle.dw_in_place.proofs.OneFde.{alone-lends, alone-row, expressions-alone}

-- ---- searches in lists

-- what `find` returns is one of the elements, and passes the test
found-among : {X : Type 0} (p : X → Bool) (xs : List X) (x : X) → find p xs ≡ Some x → Contains xs x × (p x ≡ true)
found-among p [] x e = absurd cc
found-among p (y ∷ xs) x e = go (λ later. found-among p xs x later) (p y) refl e
  where
    go : (find p xs ≡ Some x → Contains xs x × (p x ≡ true)) → (b : Bool) → p y ≡ b → cond b (Some y) (find p xs) ≡ Some x
        → Contains (y ∷ xs) x × (p x ≡ true)
    go next true passes is = let same : y ≡ x = cc in ((zero, omega arith, same), ap p (sym same) ∙ passes)
    go next false passes is = let rest = next is in ((suc rest.0.0, omega (arith, rest.0.1), rest.0.2), rest.1)

find-only : {X : Type 0} (p : X → Bool) (xs : List X) (x : X) → Contains xs x → p x ≡ true → ((y : X) → Contains xs y → p y ≡ true → y ≡ x)
    → find p xs ≡ Some x
find-only p [] x (k, less, is) passes only = absurd (omega arith)
find-only p (y ∷ xs) x (zero, less, is) passes only = ap (λ b. cond b (Some y) (find p xs)) (ap p is ∙ passes) ∙ ap Some is
find-only p (y ∷ xs) x (suc k, less, is) passes only =
    go (find-only p xs x (k, omega arith, is) passes (λ z z_in. only z (suc z_in.0, omega (arith, z_in.1), z_in.2))) (p y) refl
  where
    go : find p xs ≡ Some x → (b : Bool) → p y ≡ b → cond b (Some y) (find p xs) ≡ Some x
    go next true e = ap Some (only y (zero, omega arith, refl) e)
    go next false e = next

-- the only element that passes is found
found-alone : (p : PlacedRow → Bool) (rows : List PlacedRow) (row : PlacedRow) → filter p rows ≡ row ∷ [] → find p rows ≡ Some row
found-alone p [] row e = absurd cc
found-alone p (x ∷ rows) row e = go (λ later. found-alone p rows row later) (p x) e
  where
    go : (filter p rows ≡ row ∷ [] → find p rows ≡ Some row) → (b : Bool) → cond b (x ∷ filter p rows) (filter p rows) ≡ row ∷ []
        → cond b (Some x) (find p rows) ≡ Some row
    go next true e = let same : x ≡ row = cc in ap Some same
    go next false e = next e

-- ---- expressions among fewer and more

-- `all` has all that `es` has, and at most one expression at an offset
record Widens (es all : List LocatedExpression) : Type 0 where
  among : (e : LocatedExpression) → Contains es e → Contains all e
  one : (d e : LocatedExpression) → Contains all d → Contains all e → d.offset ≡ e.offset → d ≡ e

same-located : (es all : List LocatedExpression) → Widens es all → (kind : Kind) (at : ℕ) → IsLent es kind at
    → located_at es at ≡ located_at all at
same-located es all wide kind at h =
    let it = found-among (λ (e : LocatedExpression). e.offset == at) es h.lent h.found in
    let is_at = eqb-true (h.lent).offset at it.1 in
    let there : expression_at all at ≡ Some h.lent =
    find-only (λ (e : LocatedExpression). e.offset == at) all h.lent (wide.among h.lent it.0) it.1
    (λ e e_in passes. wide.one e h.lent e_in (wide.among h.lent it.0) (eqb-true e.offset at passes ∙ sym is_at)) in
    ap or_nowhere (h.found ∙ sym there)

same-rule : (es all : List LocatedExpression) → Widens es all → (x : PlacedRule) → LendsRule es x
    → rule_with_expressions es x ≡ rule_with_expressions all x
same-rule es all wide (expression at) h = ap expression (same-located es all wide FrameRegister at h)
same-rule es all wide (val_expression at) h = ap val_expression (same-located es all wide FrameRegister at h)
same-rule es all wide default h = refl
same-rule es all wide undefined h = refl
same-rule es all wide same_value h = refl
same-rule es all wide (offset n) h = refl
same-rule es all wide (val_offset n) h = refl
same-rule es all wide (register r) h = refl

same-cfa : (es all : List LocatedExpression) → Widens es all → (x : Option PlacedCfa) → IfSome x (LendsCfa es)
    → option_map (cfa_with_expressions es) x ≡ option_map (cfa_with_expressions all) x
same-cfa es all wide None h = refl
same-cfa es all wide (Some (cfa_expression at)) h = ap (λ e. Some (cfa_expression e)) (same-located es all wide FrameCfa at h)
same-cfa es all wide (Some (register_and_offset r n)) h = refl

same-rules : (es all : List LocatedExpression) → Widens es all → (rules : List (ℕ × PlacedRule)) → AllByRecursion (LendsEntry es) rules
    → rules_with_expressions es rules ≡ rules_with_expressions all rules
same-rules es all wide [] h = refl
same-rules es all wide (x ∷ rules) h =
    let first = same-rule es all wide x.1 h.0 in
    let others = same-rules es all wide rules h.1 in
    ap (λ r. (x.0, r) ∷ rules_with_expressions es rules) first ∙ ap (λ l. given_entry all x ∷ l) others

same-row : (es all : List LocatedExpression) → Widens es all → (row : PlacedRow) → IfSome row.cfa (LendsCfa es) → LendsEach es row.rules
    → row_with_expressions es row ≡ row_with_expressions all row
same-row es all wide row cfa rules =
    let first = same-cfa es all wide row.cfa cfa in
    let others = same-rules es all wide row.rules (recursion_from_All (LendsEntry es) row.rules rules) in
    λ i. record { start = row.start; end = row.end; cfa = first i; rules = others i }

-- ---- the section's expressions

all-of : (s : FrameSection) → IsChecked s → (e : LocatedExpression) → Contains (frame_expressions s.cies s.fdes) e → Contains s.expressions e
all-of s k e among =
    let t = frame_with s.target s.section k.records in
    let there : Contains t.expressions e = subst (λ (u : FrameSection). Contains (frame_expressions u.cies u.fdes) e) k.whole among in
    subst (λ (u : FrameSection). Contains u.expressions e) (sym k.whole) there

widens : (s : FrameSection) → IsChecked s → (target : Target) (section : List ℕ) (e : EhFde) → Contains s.cies e.cie.cie → Contains s.fdes e.fde
    → Widens (alone target section e).expressions s.expressions
widens s k target section e c_in f_in = record {
  among = λ x x_in.
      let both = subst (λ (l : List LocatedExpression). Contains l x) (expressions-alone target section e) x_in in
      elim (Contains-append_cases (expressions_of e.cie.cie.program) (expressions_of e.fde.program) x both) [
        | inl own ↦ all-of s k x (of-frame-cie s.cies s.fdes e.cie.cie x c_in own)
        | inr own ↦ all-of s k x (of-frame-fde s.cies s.fdes e.fde x f_in own)
      ];
  one = one-at-offset s k;
}

-- ---- the row

one-of : (s : Start) (program : List Effect) (from to : ℕ) (rows : List PlacedRow) (row : PlacedRow) → AreRowsFrom s program from rows to
    → Contains rows row → IsRow s program row
one-of s program from to [] row are (i, lt, is) = absurd (omega arith)
one-of s program from to (x ∷ rows) row are (zero, lt, is) = subst (IsRow s program) is are.1
one-of s program from to (x ∷ rows) row are (suc i, lt, is) = one-of s program x.end to rows row are.2 (i, omega arith, is)

pub row-in-place : (s : FrameSection) → IsChecked s → (target : Target) (section : List ℕ) (e : EhFde) → IsChecked (alone target section e)
    → cie_at s.cies e.fde.cie_pointer ≡ Some e.cie.cie → Contains s.fdes e.fde → (a : ℕ) → Covers e.fde a
    → row_of_fde target section e a ≡ row_of s a
row-in-place s checked target section e alone_checked pointed among a covers =
    let c = e.cie.cie in
    let f = e.fde in
    let es = (alone target section e).expressions in
    let c_in = at-found s.cies f.cie_pointer c pointed in
    let none = good-past s.cies s.fdes (checked-parts s checked) f among c pointed in
    let good = good-from-fde c f (good-from-cie c none.0) none.1 in
    let one = one-row a f.initial_location (f.initial_location + f.address_range) (rows_of c f) (cover-rows c f none.1) covers.0 covers.1 in
    let found = found-alone (has_address a) (rows_of c f) one.0 one.1 in
    let is = one-of (start_in c f good) (program_in c f good) f.initial_location (f.initial_location + f.address_range)
    (rows_of c f) one.0 (rows-of-good c f good) (found-among (has_address a) (rows_of c f) one.0 found).0 in
    let lent = row-lends es c f good one.0 is.0 is.1 (alone-lends target section e alone_checked) in
    let here = alone-row target section e a (row_with_expressions es one.0) (sym c_in.1) covers
    (find-with es a (rows_of c f) one.0 found) in
    let there = row-found s a f (row_with_expressions s.expressions one.0)
    (among, covers, λ g g_in g_covers. checked-once s checked a g f g_in among g_covers covers)
    (ap (λ o. find (has_address a) (map (row_with_expressions s.expressions) (rows_by_cie o f))) pointed
    ∙ find-with s.expressions a (rows_of c f) one.0 found) in
    let same = same-row es s.expressions (widens s checked target section e c_in.0 among) one.0 lent.0 lent.1 in
    here ∙ (ap Some same ∙ sym there)
