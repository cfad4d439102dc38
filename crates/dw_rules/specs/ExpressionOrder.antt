-- Checked expressions in order of the offsets of their first bytes.
use Rattle.std.specs.Prelude.{ℕ, ◌<◌, List, [], ◌∷◌}
use Rattle.std.specs.Coded.{×_prop, Unit-prop, le_prop}
use Rattle.std.specs.List.{AllByRecursion-prop}
use Rattle.dw_frame.specs.Bounds.{Ascends}
use Rattle.dw_stack.specs.declared.checked.CheckedExpression.{CheckedExpression}
use Rattle.dw_stack.specs.Located.{LocatedExpression, all_located}

abbrev pub expression_offset : LocatedExpression → ℕ
expression_offset e = e.offset

abbrev pub AreInOrder : List (ℕ × CheckedExpression) → Type 0
AreInOrder xs = Ascends expression_offset (all_located xs)

-- two proofs of `Ascends` are equal, and so are two proofs of `AreInOrder`
ascends-prop : (es : List LocatedExpression) → IsProp (Ascends expression_offset es)
ascends-prop [] = Unit-prop
ascends-prop (e ∷ es) = ×_prop (AllByRecursion-prop (λ g. e.offset < g.offset) (λ g. le_prop) es) (ascends-prop es)

pub in_order_prop : (xs : List (ℕ × CheckedExpression)) → IsProp (AreInOrder xs)
in_order_prop xs = ascends-prop (all_located xs)
