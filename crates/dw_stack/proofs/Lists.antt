-- The code's list of operations, read by index: the offset of an operation, and the operation.
use Rattle.std.proofs.Common.{◌≡◌, ℕ, zero, suc, ◌<◌, ◌≤◌, List, [], ◌∷◌, length, get_or, Some, refl, ap, arith}
use Rattle.std.specs.Prelude.{slice_get}
use Rattle.dw_ops.specs.declared.operation.Operation as coded
use Rattle.dw_ops.specs.Views.{located_of}
use Rattle.dw_stack.specs.Paths.{place}
use Rattle.dw_stack.specs.Views.{placed_in}

pub placed_in_length : (ops : List (ℕ × coded.Operation)) → length (placed_in ops) ≡ length ops
placed_in_length [] = refl
placed_in_length (x ∷ xs) = ap suc (placed_in_length xs)

pub place_read : (ops : List (ℕ × coded.Operation)) (len j : ℕ) (d : ℕ × coded.Operation) → j < length ops
    → place (placed_in ops) len j ≡ (get_or ops j d).0
place_read [] len j d h = absurd (omega arith)
place_read (x ∷ xs) len zero d h = refl
place_read (x ∷ xs) len (suc j) d h = place_read xs len j d (omega arith)

pub place_beyond : (ops : List (ℕ × coded.Operation)) (len j : ℕ) → length ops ≤ j → place (placed_in ops) len j ≡ len
place_beyond [] len j h = refl
place_beyond (x ∷ xs) len zero h = absurd (omega arith)
place_beyond (x ∷ xs) len (suc j) h = place_beyond xs len j (omega arith)

pub stands_read : (ops : List (ℕ × coded.Operation)) (j : ℕ) (d : ℕ × coded.Operation) → j < length ops
    → slice_get (placed_in ops) j ≡ Some (located_of (get_or ops j d))
stands_read [] j d h = absurd (omega arith)
stands_read (x ∷ xs) zero d h = refl
stands_read (x ∷ xs) (suc j) d h = stands_read xs j d (omega arith)

pub ruleset places = (place_read, place_beyond, placed_in_length)

pub ruleset reads = (stands_read, placed_in_length)
