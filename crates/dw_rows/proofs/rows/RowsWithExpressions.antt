-- Finding a row among rows with offsets, and then putting expressions in place of the offsets, is
-- finding it among rows with expressions.
use Rattle.std.proofs.Common.{◌≡◌, ℕ, List, [], ◌∷◌, map, Some, Bool, true, false, cond, refl}
use Rattle.std.proofs.Common.{ap}
use Rattle.std.specs.Prelude.{find, filter}
use Rattle.dw_stack.specs.Located.{LocatedExpression}
use Rattle.dw_rules.specs.Rules.{PlacedRow}
use Rattle.dw_rows.specs.UnwindRows.{has_address, Cover}
use Rattle.dw_rules.specs.RowsWithExpressions.{row_with_expressions}

pub find-with : (es : List LocatedExpression) (a : ℕ) (rows : List PlacedRow) (row : PlacedRow) → find (has_address a) rows ≡ Some row
    → find (has_address a) (map (row_with_expressions es) rows) ≡ Some (row_with_expressions es row)
find-with es a [] row e = cc
find-with es a (x ∷ rows) row e = go (λ later. find-with es a rows row later) (has_address a x) e
  where
    go : (find (has_address a) rows ≡ Some row → find (has_address a) (map (row_with_expressions es) rows) ≡ Some (row_with_expressions es row)) → (b : Bool)
        → cond b (Some x) (find (has_address a) rows) ≡ Some row
        → cond b (Some (row_with_expressions es x)) (find (has_address a) (map (row_with_expressions es) rows)) ≡ Some (row_with_expressions es row)
    go next true e = let same : x ≡ row = cc in ap (λ y. Some (row_with_expressions es y)) same
    go next false e = next e

pub filter-with : (es : List LocatedExpression) (a : ℕ) (rows : List PlacedRow)
    → filter (has_address a) (map (row_with_expressions es) rows) ≡ map (row_with_expressions es) (filter (has_address a) rows)
filter-with es a [] = refl
filter-with es a (x ∷ rows) = go (filter-with es a rows) (has_address a x)
  where
    go : filter (has_address a) (map (row_with_expressions es) rows) ≡ map (row_with_expressions es) (filter (has_address a) rows) → (b : Bool)
        → cond b (row_with_expressions es x ∷ filter (has_address a) (map (row_with_expressions es) rows)) (filter (has_address a) (map (row_with_expressions es) rows))
        ≡ map (row_with_expressions es) (cond b (x ∷ filter (has_address a) rows) (filter (has_address a) rows))
    go rest true = ap (λ l. row_with_expressions es x ∷ l) rest
    go rest false = rest

pub cover-with : (es : List LocatedExpression) (from : ℕ) (rows : List PlacedRow) (to : ℕ) → Cover from rows to
    → Cover from (map (row_with_expressions es) rows) to
cover-with es from [] to h = h
cover-with es from (x ∷ rows) to h = (h.0, h.1, cover-with es x.end rows to h.2)
