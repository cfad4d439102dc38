-- The first k instructions of a program, in reverse order (`prefix`).
use Rattle.std.proofs.Common.{◌≡◌, ℕ, ◌+◌, ◌<◌, ◌≤◌, List, [], ◌∷◌, length, reverse, take, get_or, ap, ◌∙◌, arith}
use Rattle.std.proofs.lemmas.List.{reverse-append, take_more, take_all}
use Rattle.std.proofs.lemmas.Grind.{common_steps}
use Rattle.dw_rules.specs.Effects.{Effect}
use Rattle.dw_rows.specs.GoodPrograms.{prefix}

pub prefix-suc : (p : List Effect) (k : ℕ) (d : Effect) → k < length p → prefix p (k + 1) ≡ get_or p k d ∷ prefix p k
prefix-suc p k d h = ap reverse (take_more p k d h) ∙ reverse-append (take k p) (get_or p k d ∷ [])

pub length-prefix : (p : List Effect) (k : ℕ) → k ≤ length p → length (prefix p k) ≡ k
length-prefix p k h = grind (arith, common_steps)

pub prefix-all : (p : List Effect) (k : ℕ) → length p ≤ k → prefix p k ≡ reverse p
prefix-all p k h = ap reverse (take_all k p h)
