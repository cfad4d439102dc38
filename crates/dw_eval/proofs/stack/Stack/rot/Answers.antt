use Rattle.std.proofs.Common.{◌≡◌, ◌≢◌, ◌-◌, ◌≤◌, List, ℕ, [], ◌∷◌, ◌++◌, length, take, set, get_or, get_or-set_other, refl, subst, arith}
use Rattle.dw_stack.specs.Machine.{entry}
use Rattle.dw_eval.proofs.Writes.{rotated, high}
use Rattle.dw_eval.proofs.stack.Stack.rot.Goals as goal

pub returns : goal.returns
returns g c =
    let s : List ℕ = c.self.inside.places in
    let h : ℕ = c.self.inside.height in
    let tall : 3 ≤ h = high s h 3 c.args.self.now c.self.view_is c.requires in
    let apart : h - 3 ≢ h - 1 = omega arith in
    let b : ℕ = get_or (set s (h - 1) (get_or s (h - 2) 0)) (h - 3) 0 in
    let third : b ≡ get_or s (h - 3) 0 = get_or-set_other s (h - 1) (h - 3) (get_or s (h - 2) 0) 0 apart in
    subst (λ (old : List ℕ). take h (set (set (set s (h - 1) (get_or s (h - 2) 0)) (h - 2) b) (h - 3) (get_or s (h - 1) 0)) ≡ take
    (length old - 3) old ++ entry old 0 ∷ entry old 2 ∷ entry old 1 ∷ []) c.self.view_is
    (rotated s h b (get_or s (h - 1) 0) tall c.self.invariant third refl)
