use Rattle.std.proofs.Common.{◌≡◌, ◌-◌, List, ℕ, [], ◌∷◌, ◌++◌, length, take, set, get_or, subst}
use Rattle.dw_stack.specs.Machine.{entry}
use Rattle.dw_eval.proofs.Writes.{swapped, high}
use Rattle.dw_eval.proofs.stack.Stack.swap.Goals as goal

pub returns : goal.returns
returns g c =
    let s : List ℕ = c.self.inside.places in
    let h : ℕ = c.self.inside.height in
    subst (λ (old : List ℕ). take h (set (set s (h - 1) (get_or s (h - 2) 0)) (h - 2) (get_or s (h - 1) 0)) ≡ take (length old - 2) old
    ++ entry old 0 ∷ entry old 1 ∷ []) c.self.view_is
    (swapped s h (high s h 2 c.args.self.now c.self.view_is c.requires) c.self.invariant)
