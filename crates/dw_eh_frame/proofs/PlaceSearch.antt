-- What a binary search in places finds that are in ascending order.
use Rattle.std.proofs.Common.{◌≡◌, ◌≢◌, ℕ, zero, suc, ◌<◌, ◌≤◌, List, [], ◌∷◌, ◌++◌, length, get_or, Ok, Err, Contains, refl, sym, ap, ◌∙◌, arith, inl, inr}
use Rattle.std.specs.List.{AllByRecursion}
use Rattle.std.specs.List.Sorted.{IsBinarySearchResult, IsNonDecreasingBy}
use Rattle.std.specs.Ordering.{nat_cmp, ordering_index}
use Rattle.std.proofs.lemmas.Bool.{cases_lt}
use Rattle.std.proofs.lemmas.Cmp.{ranked}
use Rattle.std.proofs.lemmas.List.Elements.{All-from_recursion, Contains-get_or}
use Rattle.std.proofs.lemmas.Bool.Decides.{nat_tests}
use Rattle.dw_frame.specs.Bounds.{Ascends}

ascending-at : {X : Type 0} (at : X → ℕ) (xs : List X) → Ascends at xs → (i j : ℕ) (d : X) → i < j → j < length xs
    → at (get_or xs i d) < at (get_or xs j d)
ascending-at at [] up i j d lt in_range = absurd (omega arith)
ascending-at at (x ∷ xs) up zero zero d lt in_range = absurd (omega arith)
ascending-at at (x ∷ xs) up zero (suc j) d lt in_range = All-from_recursion (λ y. at x < at y) xs up.0 j d (omega arith)
ascending-at at (x ∷ xs) up (suc i) zero d lt in_range = absurd (omega arith)
ascending-at at (x ∷ xs) up (suc i) (suc j) d lt in_range = ascending-at at xs up.1 i j d (omega arith) (omega arith)

index-rises : (a b k : ℕ) → a ≤ b → ordering_index (nat_cmp a k) ≤ ordering_index (nat_cmp b k)
index-rises a b k le = grind (arith, nat_tests)

-- `at` is the number by which the places are in order
pub searched-found : {X : Type 0} (at : X → ℕ) (xs : List X) (k : ℕ) (d : X) (i : ℕ) → i < length xs
    → IsBinarySearchResult (λ y. nat_cmp (at y) k) xs (Ok i)
    → Contains xs (get_or xs i d) × (at (get_or xs i d) ≡ k)
searched-found at xs k d i in_range found = (Contains-get_or xs i d in_range, ranked _ k _ (sym (found d)))

pub searched-none : {X : Type 0} (at : X → ℕ) (xs : List X) → Ascends at xs → (k : ℕ) (i : ℕ) → i ≤ length xs
    → IsBinarySearchResult (λ y. nat_cmp (at y) k) xs (Err i) → (x : X) → Contains xs x → at x ≢ k
searched-none {X = X} at xs up k i in_range parted =
    let not_above : (i j : ℕ) (e : X) → i ≤ j → j < length xs → at (get_or xs i e) ≤ at (get_or xs j e) =
    λ i j e le lt. grind (arith, ascending-at at xs up i j e, λ (same : i ≡ j). ap (λ n. at (get_or xs n e)) same) in
    let rises : IsNonDecreasingBy (λ y. ordering_index (nat_cmp (at y) k)) xs = λ i j e le lt. index-rises _ _ k (not_above i j e le lt) in
    λ x (j, j_in, j_is) same.
    let at_k : at (get_or xs j x) ≡ k = ap at j_is ∙ same in
    let below : j < i → at (get_or xs j x) < k = λ lt. ranked _ k _ (sym ((parted rises).0 j x (omega arith) lt)) in
    let above : i ≤ j → k < at (get_or xs j x) = λ le. ranked _ k _ (sym ((parted rises).1 j x le j_in)) in
    elim (cases_lt j i) [ inl lt ↦ let h = below lt in omega (arith, h, at_k) | inr le ↦ let h = above le in omega (arith, h, at_k) ]

-- ---- one more place

all-more : {X : Type 0} (at : X → ℕ) (n : ℕ) (xs : List X) (q : X) → AllByRecursion (λ y. n < at y) xs → n < at q
    → AllByRecursion (λ y. n < at y) (xs ++ q ∷ [])
all-more at n [] q all less = (less, tt)
all-more at n (x ∷ xs) q all less = (all.0, all-more at n xs q all.1 less)

pub ascends-more : {X : Type 0} (at : X → ℕ) (xs : List X) (q : X) → Ascends at xs
    → ((p : X) → Contains xs p → at p < at q) → Ascends at (xs ++ q ∷ [])
ascends-more at [] q up below = (tt, tt)
ascends-more at (x ∷ xs) q up below = (
  all-more at (at x) xs q up.0 (below x (zero, omega arith, refl)),
  ascends-more at xs q up.1 (λ p (k, less, is). below p (suc k, omega arith, is)),
)
