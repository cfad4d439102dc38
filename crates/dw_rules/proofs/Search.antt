-- Lists in ascending order of offset: a higher index has the higher offset.
use Rattle.std.proofs.Common.{◌≡◌, ◌≢◌, ℕ, zero, suc, ◌<◌, ◌≤◌, List, [], ◌∷◌, length, get_or, Ok, Err, Contains, sym, ap, subst}
use Rattle.std.proofs.Common.{◌∙◌, arith, inl, inr, ◌⊎◌}
use Rattle.std.specs.List.Sorted.{IsBinarySearchResult, IsNonDecreasingBy}
use Rattle.std.specs.Ordering.{nat_cmp, ordering_index}
use Rattle.std.proofs.lemmas.Bool.{cases_lt}
use Rattle.std.proofs.lemmas.Cmp.{ranked}
use Rattle.std.proofs.lemmas.List.{get_or_default}
use Rattle.std.proofs.lemmas.List.Elements.{All-from_recursion, Contains-get_or}
use Rattle.std.proofs.lemmas.Bool.Decides.{nat_tests}
use Rattle.dw_frame.specs.Bounds.{Ascends}

-- i is less than j, equal to j, or greater
pub three_ways : (i j : ℕ) → (i < j) ⊎ ((i ≡ j) ⊎ (j < i))
three_ways i j = elim (cases_lt i j) [
  | inl lt ↦ inl lt
  | inr le ↦ elim
      (cases_lt j i) [ inl lt ↦ inr (inr lt) | inr ge ↦ inr (inl (omega arith)) ]
]

-- if i is neither less nor greater than j, i and j are equal
pub squeeze : (i j : ℕ) → ¬ (i < j) → ¬ (j < i) → i ≡ j
squeeze i j low high = elim (three_ways i j) [ inl lt ↦ absurd (low lt) | inr rest ↦ elim rest [ inl e ↦ e | inr lt ↦ absurd (high lt) ] ]

-- of two elements, the one at the lower index has the lower offset
pub ascending-at : {X : Type 0} (at : X → ℕ) (xs : List X) → Ascends at xs → (i j : ℕ) (d : X) → i < j → j < length xs
    → at (get_or xs i d) < at (get_or xs j d)
ascending-at at [] up i j d lt in_range = absurd (omega arith)
ascending-at at (x ∷ xs) up zero zero d lt in_range = absurd (omega arith)
ascending-at at (x ∷ xs) up zero (suc j) d lt in_range = All-from_recursion (λ y. at x < at y) xs up.0 j d (omega arith)
ascending-at at (x ∷ xs) up (suc i) zero d lt in_range = absurd (omega arith)
ascending-at at (x ∷ xs) up (suc i) (suc j) d lt in_range = ascending-at at xs up.1 i j d (omega arith) (omega arith)

-- two elements with the same offset are the same
pub ascending-same : {X : Type 0} (at : X → ℕ) (xs : List X) → Ascends at xs → (x y : X) → Contains xs x → Contains xs y → at x ≡ at y
    → x ≡ y
ascending-same at xs up x y (i, i_in, i_is) (j, j_in, j_is) same =
    let y_is : get_or xs j x ≡ y = get_or_default xs j x y j_in ∙ j_is in
    let low : ¬ (i < j) = λ lt. let h : at x < at y =
    subst (λ v. at x < at v) y_is (subst (λ v. at v < at (get_or xs j x)) i_is (ascending-at at xs up i j x lt j_in)) in omega arith in
    let high : ¬ (j < i) = λ lt. let h : at y < at x =
    subst (λ v. at v < at x) y_is (subst (λ v. at (get_or xs j x) < at v) i_is (ascending-at at xs up j i x lt i_in)) in omega arith in
    let place : i ≡ j = squeeze i j low high in
    sym i_is ∙ (ap (λ k. get_or xs k x) place ∙ y_is)

index-rises : (a b k : ℕ) → a ≤ b → ordering_index (nat_cmp a k) ≤ ordering_index (nat_cmp b k)
index-rises a b k le = grind (arith, nat_tests)

-- if a binary search for a key finds an index, the element there has the key
pub searched-found : {X : Type 0} (key : X → ℕ) (xs : List X) (k : ℕ) (d : X) (i : ℕ) → i < length xs
    → IsBinarySearchResult (λ y. nat_cmp (key y) k) xs (Ok i) → Contains xs (get_or xs i d) × (key (get_or xs i d) ≡ k)
searched-found key xs k d i in_range found = (Contains-get_or xs i d in_range, ranked _ k _ (sym (found d)))

-- if a binary search for a key finds no index, no element has the key
pub searched-none : {X : Type 0} (key : X → ℕ) (xs : List X) → Ascends key xs → (k : ℕ) (i : ℕ) → i ≤ length xs
    → IsBinarySearchResult (λ y. nat_cmp (key y) k) xs (Err i) → (x : X) → Contains xs x → key x ≢ k
searched-none {X} key xs up k i in_range parted =
    let not_above : (i j : ℕ) (e : X) → i ≤ j → j < length xs → key (get_or xs i e) ≤ key (get_or xs j e) =
    λ i j e le lt. grind (arith, ascending-at key xs up i j e, λ (same : i ≡ j). ap (λ n. key (get_or xs n e)) same) in
    let rises : IsNonDecreasingBy (λ y. ordering_index (nat_cmp (key y) k)) xs = λ i j e le lt. index-rises _ _ k (not_above i j e le lt) in
    λ x (j, j_in, j_is) same.
    let at_k : key (get_or xs j x) ≡ k = ap key j_is ∙ same in
    let below : j < i → key (get_or xs j x) < k = λ lt. ranked _ k _ (sym ((parted rises).0 j x (omega arith) lt)) in
    let above : i ≤ j → k < key (get_or xs j x) = λ le. ranked _ k _ (sym ((parted rises).1 j x le j_in)) in
    elim (cases_lt j i) [ inl lt ↦ let h = below lt in omega (arith, h, at_k) | inr le ↦ let h = above le in omega (arith, h, at_k) ]
