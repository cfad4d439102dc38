-- Rules of a row that only says where registers are saved, without the rule of the return address.
use Rattle.std.specs.Prelude.{◌≡◌, ◌⊎◌, ℕ, ℤ, List, [], ◌∷◌, ◌++◌, map}
use Rattle.dw_rules.specs.Rules.{offset, rule_in}
use Rattle.dw_rules.specs.SavedRules.{Saved, as_saved}
use Rattle.dw_stack.specs.Located.{LocatedExpression}

-- By the rules `rules`, the register `number` is saved at the CFA plus `n`; `left` are the rules
-- before that one, which is the last one, or all rules.
pub record IsLeftOf (rules : List Saved) (number : ℕ) (n : ℤ) (left : List Saved) : Type 0 where
  pub rule : rule_in {E = LocatedExpression} (map as_saved rules) number ≡ offset n
  pub others : (rules ≡ left ++ (number, n) ∷ []) ⊎ (rules ≡ left)
