-- The expressions in the rows of a checked section are good (`IsGoodExpression`), each for the kind
-- of expression that its rule needs.
use Rattle.std.proofs.Common.{◌≡◌, ℕ, zero, suc, ◌+◌, ◌==◌, Bool, true, false, cond, List, [], ◌∷◌, map, Option, Some, None, Contains}
use Rattle.std.proofs.Common.{refl, sym, ap, subst, arith}
use Rattle.std.specs.Prelude.{All, IfSome, find, option_and_then, option_map}
use Rattle.std.specs.List.{AllByRecursion}
use Rattle.std.proofs.lemmas.List.Elements.{All-from_recursion, recursion_from_All}
use Rattle.dw_frame.specs.Records.{Fde}
use Rattle.dw_stack.specs.declared.state.Kind.{Kind}
use Rattle.dw_stack.specs.declared.state.Kind.TheVariants.{FrameCfa, FrameRegister}
use Rattle.dw_rules.specs.Rules.{PlacedRule, PlacedCfa, PlacedRow, Row, default, undefined, same_value, offset, val_offset, register}
use Rattle.dw_rules.specs.Rules.{expression, val_expression, register_and_offset, cfa_expression}
use Rattle.dw_rules.specs.Effects.{Effect}
use Rattle.dw_rules.specs.InForce.{Start}
use Rattle.dw_rules.specs.RowsWithExpressions.{or_nowhere, located_at, rule_with_expressions, cfa_with_expressions, rules_with_expressions, row_with_expressions, IsLent, LendsRule, LendsCfa}
use Rattle.dw_rules.specs.RowsWithExpressions.{LendsEntry, LendsEach}
use Rattle.dw_rows.specs.GoodRows.{IsGoodAmong, IsGoodRule, IsGoodCfa, IsGoodEntry, HasGoodExpressions}
use Rattle.dw_rows.specs.UnwindRows.{rows_of, has_address}
use Rattle.dw_rows.specs.Clauses.{IsRow, AreRowsFrom, start_in, program_in}
use Rattle.dw_rows.specs.Section.{FrameSection, IsChecked, covers, rows_in, rows_by_cie, row_of}
use Rattle.dw_rules.proofs.Elements.{contained-map}
use Rattle.dw_rows.proofs.sections.Parts.{pointed-in, good-past}
use Rattle.dw_rows.proofs.Faults.{at-found}
use Rattle.dw_rows.proofs.programs.Programs.{good-from-cie, good-from-fde}
use Rattle.dw_rows.proofs.rows.RowsOf.{rows-of-good}
use Rattle.dw_rows.proofs.expressions.Lending.{lends-in, row-lends}
use Rattle.dw_rows.proofs.sections.CheckedSections.{checked-parts}
use Rattle.dw_rows.proofs.expressions.GoodExpressions.{checked-expressions}

-- what `find` returns is one of the elements
found-among : {X : Type 0} (p : X → Bool) (xs : List X) (x : X) → find p xs ≡ Some x → Contains xs x
found-among p [] x e = cc
found-among p (y ∷ xs) x e = go (λ later. found-among p xs x later) (p y) e
  where
    go : (find p xs ≡ Some x → Contains xs x) → (b : Bool) → cond b (Some y) (find p xs) ≡ Some x → Contains (y ∷ xs) x
    go next true is = let same : y ≡ x = cc in (zero, omega arith, same)
    go next false is = let rest = next is in (suc rest.0, omega (arith, rest.1), rest.2)

-- ---- each expression that a rule names is good

lent-good : (s : FrameSection) → IsChecked s → (kind : Kind) (at : ℕ) → IsLent s.expressions kind at
    → IsGoodAmong s.expressions kind (located_at s.expressions at)
lent-good s k kind at h =
    let among : Contains s.expressions h.lent = found-among (λ e. e.offset == at) s.expressions h.lent h.found in
    subst (IsGoodAmong s.expressions kind) (sym (ap or_nowhere h.found))
    (record { among = among; of_kind = h.of_kind; good = (checked-expressions s k h.lent among).0 })

rule-good : (s : FrameSection) → IsChecked s → (x : PlacedRule) → LendsRule s.expressions x
    → IsGoodRule s.expressions (rule_with_expressions s.expressions x)
rule-good s k (expression at) h = lent-good s k FrameRegister at h
rule-good s k (val_expression at) h = lent-good s k FrameRegister at h
rule-good s k default h = tt
rule-good s k undefined h = tt
rule-good s k same_value h = tt
rule-good s k (offset n) h = tt
rule-good s k (val_offset n) h = tt
rule-good s k (register r) h = tt

cfa-good : (s : FrameSection) → IsChecked s → (x : Option PlacedCfa) → IfSome x (LendsCfa s.expressions)
    → IfSome (option_map (cfa_with_expressions s.expressions) x) (IsGoodCfa s.expressions)
cfa-good s k None h = tt
cfa-good s k (Some (cfa_expression at)) h = lent-good s k FrameCfa at h
cfa-good s k (Some (register_and_offset r n)) h = tt

rules-by : (s : FrameSection) → IsChecked s → (rules : List (ℕ × PlacedRule)) → AllByRecursion (LendsEntry s.expressions) rules
    → AllByRecursion (IsGoodEntry s.expressions) (rules_with_expressions s.expressions rules)
rules-by s k [] h = tt
rules-by s k (x ∷ rules) h = (rule-good s k x.1 h.0, rules-by s k rules h.1)

rules-good : (s : FrameSection) → IsChecked s → (rules : List (ℕ × PlacedRule)) → LendsEach s.expressions rules
    → All (IsGoodEntry s.expressions) (rules_with_expressions s.expressions rules)
rules-good s k rules h =
    All-from_recursion (IsGoodEntry s.expressions) (rules_with_expressions s.expressions rules)
    (rules-by s k rules (recursion_from_All (LendsEntry s.expressions) rules h))

-- ---- the rows of programs

one-of : (s : Start) (program : List Effect) (from to : ℕ) (rows : List PlacedRow) (row : PlacedRow) → AreRowsFrom s program from rows to
    → Contains rows row → IsRow s program row
one-of s program from to [] row are (i, lt, is) = absurd (omega arith)
one-of s program from to (x ∷ rows) row are (zero, lt, is) = subst (IsRow s program) is are.1
one-of s program from to (x ∷ rows) row are (suc i, lt, is) = one-of s program x.end to rows row are.2 (i, omega arith, is)

-- in each row of an FDE all expressions are good (`HasGoodExpressions`)
pub row-good : (s : FrameSection) → IsChecked s → (f : Fde) → Contains s.fdes f → (row : Row) → Contains (rows_in s f) row
    → HasGoodExpressions s.expressions row
row-good s checked f among row inside =
    let parts = checked-parts s checked in
    let pointed = pointed-in s.cies s.fdes parts f among in
    let c = pointed.0 in
    let none = good-past s.cies s.fdes parts f among c pointed.1 in
    let good = good-from-fde c f (good-from-cie c none.0) none.1 in
    let es = s.expressions in
    let rows : rows_in s f ≡ map (row_with_expressions es) (rows_of c f) = ap (λ o. map (row_with_expressions es) (rows_by_cie o f)) pointed.1 in
    let placed = contained-map (row_with_expressions es) (rows_of c f) row (subst (λ l. Contains l row) rows inside) in
    let is = one-of (start_in c f good) (program_in c f good) f.initial_location (f.initial_location + f.address_range)
    (rows_of c f) placed.0
    (rows-of-good c f good) placed.1 in
    let lends = lends-in s checked c f (at-found s.cies f.cie_pointer c pointed.1).0 among in
    let lent = row-lends es c f good placed.0 is.0 is.1 lends in
    subst (HasGoodExpressions es) placed.2
    (record { cfa = cfa-good s checked (placed.0).cfa lent.0; rules = rules-good s checked (placed.0).rules lent.1 })

-- in the row of an address all expressions are good
pub found-good : (s : FrameSection) (a : ℕ) → IsChecked s → (row : Row) → row_of s a ≡ Some row → HasGoodExpressions s.expressions row
found-good s a checked row is = go (find (covers a) s.fdes) refl is
  where
    go : (o : Option Fde) → find (covers a) s.fdes ≡ o → option_and_then (λ f. find (has_address a) (rows_in s f)) o ≡ Some row
        → HasGoodExpressions s.expressions row
    go None by e = cc
    go (Some f) by e =
        row-good s checked f (found-among (covers a) s.fdes f by) row (found-among (has_address a) (rows_in s f) row e)
