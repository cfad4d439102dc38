-- How many of the first operations of an expression are pieces.
use Rattle.std.proofs.Common.{◌≡◌, ℕ, ◌+◌, ◌≤◌, cond, List, [], ◌∷◌, length, take, Some, refl, ap, arith, length-append}
use Rattle.std.specs.Prelude.{slice_get}
use Rattle.std.specs.List.{sum_by}
use Rattle.std.proofs.lemmas.List.{take-take}
use Rattle.std.proofs.lemmas.List.Sums.{sum_by-take-le}
use Rattle.dw_stack.specs.declared.effect.Role.{Role}
use Rattle.dw_stack.specs.declared.effect.Role.TheVariants as role
use Rattle.dw_stack.specs.Effects.{effect_of}
use Rattle.dw_stack.specs.Paths.{Placed, is_piece, pieces_before}
use Rattle.dw_stack.specs.Machine.{Piece, pieces_after}
use Rattle.dw_stack.proofs.Walks.{count_more}

pub pieces_mono : (ops : List Placed) (j k : ℕ) → j ≤ k → pieces_before ops j ≤ pieces_before ops k
pieces_mono ops j k le =
    let part = sum_by-take-le (λ (x : Placed). cond (is_piece (effect_of x.1).role) 1 0) (take k ops) j in
    let same = ap (λ (xs : List Placed). sum_by (λ (x : Placed). cond (is_piece (effect_of x.1).role) 1 0) xs) (take-take j k ops le) in
    omega (arith, part, same)

pub pieces_with : (ops : List Placed) (k : ℕ) (x : Placed) → slice_get ops k ≡ Some x
    → pieces_before ops k + cond (is_piece (effect_of x.1).role) 1 0 ≡ pieces_before ops (k + 1)
pieces_with ops k x stands = count_more ops k (pieces_before ops k) x (is_piece (effect_of x.1).role) stands refl refl

-- an operation that is a piece adds one piece, and other operations add none
pub length-pieces_after : (r : Role) (pieces : List Piece) (p : Piece)
    → length (pieces_after r pieces p) ≡ length pieces + cond (is_piece r) 1 0
length-pieces_after role.Piece pieces p = let e = length-append pieces (p ∷ []) in omega (arith, e)
length-pieces_after role.Plain pieces p = omega arith
length-pieces_after role.Register pieces p = omega arith
length-pieces_after role.Bytes pieces p = omega arith
length-pieces_after role.Top pieces p = omega arith
