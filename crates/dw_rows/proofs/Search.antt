-- Lists in ascending order of offset: a higher index has the higher offset.
use Rattle.std.proofs.Common.{◌≡◌, ℕ, ◌+◌, ◌<◌, List, length, get_or, ap}
use Rattle.std.proofs.Common.{arith, inl, inr, ◌⊎◌}
use Rattle.std.proofs.lemmas.Bool.{cases_lt}
use Rattle.dw_frame.specs.Bounds.{Ascends}
use Rattle.dw_rules.proofs.Search.{ascending-at}

-- a number that is less than i + 1 is less than i or equal to i
pub before_or_at : (k i : ℕ) → k < i + 1 → (k < i) ⊎ (k ≡ i)
before_or_at k i lt = elim (cases_lt k i) [ inl low ↦ inl low | inr le ↦ inr (omega arith) ]

-- of two elements, the one with the lower offset is at the lower index
pub ascending-place : {X : Type 0} (at : X → ℕ) (xs : List X) → Ascends at xs → (i j : ℕ) (d : X) → i < length xs → j < length xs
    → at (get_or xs i d) < at (get_or xs j d) → i < j
ascending-place at xs up i j d i_in j_in lt =
    grind (arith, ascending-at at xs up j i d, λ (same : i ≡ j). ap (λ k. at (get_or xs k d)) same)
