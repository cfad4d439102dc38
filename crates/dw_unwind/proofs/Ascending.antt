-- Lemmas about lists of registers whose numbers ascend.
use Rattle.std.proofs.Common.{◌≡◌, ℕ, zero, suc, ◌≤◌, ◌==◌, List, [], ◌∷◌, ◌++◌, map, None, Some, true, false, refl, subst, arith}
use Rattle.std.specs.Prelude.{slice_get}
use Rattle.dw_unwind.specs.declared.unwinding.Answer.TheVariants as answers
use Rattle.std.proofs.lemmas.Bool.Decides.{nat_tests}
use Rattle.dw_unwind.specs.declared.unwinding.Answer as declared
use Rattle.dw_unwind.specs.Caller.{Answer}
use Rattle.dw_unwind.specs.CallerViews.{answer_in, found_in}
use Rattle.dw_unwind.specs.FrameRegisters.{Ascends}
use Rattle.dw_unwind.specs.Walks.{content_of, contents_of}

-- a register can be appended if its number is at or above the bound of those before it
pub ascends-push : (n : ℕ) (xs : List (ℕ × declared.Answer)) (bound : ℕ) (x : ℕ × declared.Answer) → Ascends n xs bound → bound ≤ x.0
    → Ascends n (xs ++ x ∷ []) (suc x.0)
ascends-push n [] bound x h le = (omega (arith, h, le), omega arith)
ascends-push n (y ∷ xs) bound x h le = (h.0, ascends-push (suc y.0) xs bound x h.1 le)

-- the register at any index has a number of `n` or more
from_first : (n : ℕ) (xs : List (ℕ × declared.Answer)) (bound p : ℕ) (x : ℕ × Answer) → Ascends n xs bound
    → slice_get (map found_in xs) p ≡ Some x → n ≤ x.0
from_first n [] bound p x h is = absurd (cc)
from_first n (y ∷ xs) bound zero x h is =
    let same : found_in y ≡ x = cc in subst (λ (z : ℕ × Answer). n ≤ z.0) same h.0
from_first n (y ∷ xs) bound (suc p) x h is =
    let more : suc y.0 ≤ x.0 = from_first (suc y.0) xs bound p x h.1 is in omega (arith, more, h.0)

-- the register at any index is the only one with its number, so a search for the number finds it
pub content_at_place : (n : ℕ) (xs : List (ℕ × declared.Answer)) (bound p : ℕ) (x : ℕ × Answer) → Ascends n xs bound
    → slice_get (map found_in xs) p ≡ Some x → contents_of (map found_in xs) x.0 ≡ content_of x.1
content_at_place n [] bound p x h is = absurd (cc)
content_at_place n (y ∷ xs) bound zero x h is =
    let same : found_in y ≡ x = cc in
    let own : (y.0 == y.0) ≡ true = grind (arith, nat_tests) in
    subst (λ (z : ℕ × Answer). contents_of (map found_in (y ∷ xs)) z.0 ≡ content_of z.1) same (rw own refl)
content_at_place n (y ∷ xs) bound (suc p) x h is =
    let more : suc y.0 ≤ x.0 = from_first (suc y.0) xs bound p x h.1 is in
    let other : (y.0 == x.0) ≡ false = grind (arith, nat_tests, more) in
    rw other (content_at_place (suc y.0) xs bound p x h.1 is)

-- an answer without a value has no content
pub no_content : (a : declared.Answer) → ((n : ℕ) → a ≡ answers.Value n → ⊥) → content_of (answer_in a) ≡ None
no_content (answers.Value n) other = absurd (other n refl)
no_content answers.Undefined other = refl
no_content answers.Unreadable other = refl
no_content answers.DivisionByZero other = refl
