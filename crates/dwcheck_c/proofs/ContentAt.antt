-- The content of a register, in a list of registers with their answers.
use Rattle.std.proofs.Common.{◌≡◌, ℕ, suc, ◌+◌, ◌<◌, ◌==◌, ◌∙◌, Bool, true, false, if◌then◌else◌, List, length, drop, drop-cons, add-one, get_or, refl, sym, ap, arith}
use Rattle.std.specs.Prelude.{Option, Some, slice_get}
use Rattle.std.proofs.lemmas.Bool.Decides.{nat_tests}
use Rattle.std.proofs.lemmas.Option.{slice_get-get_or, slice_get_within}
use Rattle.dw_unwind.specs.Caller.{Answer}
use Rattle.dw_unwind.specs.Walks.{content_of, contents_of}

pub at-index : (xs : List (ℕ × Answer)) (i r : ℕ) (x : ℕ × Answer) → slice_get xs i ≡ Some x
    → contents_of (drop i xs) r ≡ (if x.0 == r then content_of x.1 else contents_of (drop (i + 1) xs) r)
at-index xs i r x is =
    let room : i < length xs = slice_get_within xs i x is in
    let here : Some (get_or xs i x) ≡ Some x = sym (slice_get-get_or xs i x room) ∙ is in
    let same : get_or xs i x ≡ x = cc in
    ap (λ (l : List (ℕ × Answer)). contents_of l r) (drop-cons xs i x room)
    ∙ ap (λ (y : ℕ × Answer). if y.0 == r then content_of y.1 else contents_of (drop (suc i) xs) r) same
    ∙ ap (λ (n : ℕ). if x.0 == r then content_of x.1 else contents_of (drop n xs) r) (sym (add-one i))

same : (m n : ℕ) → m ≡ n → (m == n) ≡ true
same m n is = grind (arith, nat_tests)

differ : (m n : ℕ) → (m ≡ n → ⊥) → (m == n) ≡ false
differ m n not = grind (arith, nat_tests)

chosen : (b : Bool) (x y : Option ℕ) → b ≡ true → (if b then x else y) ≡ x
chosen true x y is = refl
chosen false x y is = absurd (cc)

other : (b : Bool) (x y : Option ℕ) → b ≡ false → (if b then x else y) ≡ y
other true x y is = absurd (cc)
other false x y is = refl

-- the register is found
pub at-same : (xs : List (ℕ × Answer)) (i r : ℕ) (x : ℕ × Answer) → slice_get xs i ≡ Some x → x.0 ≡ r
    → contents_of (drop i xs) r ≡ content_of x.1
at-same xs i r x is eq =
    at-index xs i r x is ∙ chosen (x.0 == r) (content_of x.1) (contents_of (drop (i + 1) xs) r) (same x.0 r eq)

-- another register is found
pub at-other : (xs : List (ℕ × Answer)) (i r : ℕ) (x : ℕ × Answer) → slice_get xs i ≡ Some x → (x.0 ≡ r → ⊥)
    → contents_of (drop i xs) r ≡ contents_of (drop (i + 1) xs) r
at-other xs i r x is not =
    at-index xs i r x is ∙ other (x.0 == r) (content_of x.1) (contents_of (drop (i + 1) xs) r) (differ x.0 r not)
