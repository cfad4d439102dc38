-- What a binary search finds in a list whose items are in ascending order of a number.
use Rattle.std.proofs.Common.{◌≡◌, ◌≢◌, ℕ, zero, suc, ◌+◌, ◌<◌, ◌≤◌, List, [], ◌∷◌, ◌++◌, length, get_or, map, Ok, Err, Contains, refl, sym}
use Rattle.std.proofs.Common.{ap, subst, ◌∙◌, arith, inl, inr}
use Rattle.std.specs.List.{AllByRecursion}
use Rattle.std.specs.List.Sorted.{IsBinarySearchResult, IsNonDecreasingBy}
use Rattle.std.specs.Ordering.{nat_cmp, ordering_index}
use Rattle.std.proofs.lemmas.Bool.{cases_lt}
use Rattle.std.proofs.lemmas.Bool.Decides.{nat_tests}
use Rattle.std.proofs.lemmas.Cmp.{ranked}
use Rattle.std.proofs.lemmas.List.{get_or_default}
use Rattle.std.specs.Prelude.{◌⊎◌}
use Rattle.std.proofs.lemmas.List.Elements.{All-from_recursion, Contains-get_or}
use Rattle.dw_loclists.specs.Bounds.{Ascends, RiseWithin}

-- of two items, the one with the lower index has the lower number
ascending-at : {X : Type 0} (at : X → ℕ) (xs : List X) → Ascends at xs → (i j : ℕ) (d : X) → i < j → j < length xs
    → at (get_or xs i d) < at (get_or xs j d)
ascending-at at [] up i j d lt in_range = absurd (omega arith)
ascending-at at (x ∷ xs) up zero zero d lt in_range = absurd (omega arith)
ascending-at at (x ∷ xs) up zero (suc j) d lt in_range = All-from_recursion (λ y. at x < at y) xs up.0 j d (omega arith)
ascending-at at (x ∷ xs) up (suc i) zero d lt in_range = absurd (omega arith)
ascending-at at (x ∷ xs) up (suc i) (suc j) d lt in_range = ascending-at at xs up.1 i j d (omega arith) (omega arith)

index-rises : (a b k : ℕ) → a ≤ b → ordering_index (nat_cmp a k) ≤ ordering_index (nat_cmp b k)
index-rises a b k le = grind (arith, nat_tests)

pub searched-found : {X : Type 0} (key : X → ℕ) (xs : List X) (k : ℕ) (d : X) (i : ℕ) → i < length xs
    → IsBinarySearchResult (λ y. nat_cmp (key y) k) xs (Ok i) → Contains xs (get_or xs i d) × (key (get_or xs i d) ≡ k)
searched-found key xs k d i in_range found = (Contains-get_or xs i d in_range, ranked _ k _ (sym (found d)))

pub searched-none : {X : Type 0} (key : X → ℕ) (xs : List X) → Ascends key xs → (k : ℕ) (i : ℕ) → i ≤ length xs
    → IsBinarySearchResult (λ y. nat_cmp (key y) k) xs (Err i) → (x : X) → Contains xs x → key x ≢ k
searched-none {X} key xs up k i in_range parted =
    let not_above : (i j : ℕ) (e : X) → i ≤ j → j < length xs → key (get_or xs i e) ≤ key (get_or xs j e) =
    λ i j e le lt. grind (arith, ascending-at key xs up i j e, λ (same : i ≡ j). ap (λ n. key (get_or xs n e)) same) in
    let rises : IsNonDecreasingBy (λ y. ordering_index (nat_cmp (key y) k)) xs = λ i j e le lt. index-rises _ _ k (not_above i j e le lt) in
    λ x (j, j_in, j_is) same.
    let at_k : key (get_or xs j x) ≡ k = ap key j_is ∙ same in
    let below : j < i → key (get_or xs j x) < k = λ lt. ranked _ k _ (sym ((parted rises).0 j x (omega arith) lt)) in
    let above : i ≤ j → k < key (get_or xs j x) = λ le. ranked _ k _ (sym ((parted rises).1 j x le j_in)) in
    elim (cases_lt j i) [ inl lt ↦ let h = below lt in omega (arith, h, at_k) | inr le ↦ let h = above le in omega (arith, h, at_k) ]

-- if a list contains x, its image under f contains f x
pub contains-map : {X Y : Type 0} (f : X → Y) (xs : List X) (x : X) → Contains xs x → Contains (map f xs) (f x)
contains-map f [] x (k, lt, is) = absurd (omega arith)
contains-map f (y ∷ xs) x (zero, lt, is) = (zero, omega arith, ap f is)
contains-map f (y ∷ xs) x (suc k, lt, is) = let rest =
    contains-map f xs x (k, omega arith, is) in (suc rest.0, omega (arith, rest.1), rest.2)

pub contained-map : {X Y : Type 0} (f : X → Y) (xs : List X) (y : Y) → Contains (map f xs) y → (x : X) × Contains xs x × (f x ≡ y)
contained-map f [] y (k, lt, is) = absurd (omega arith)
contained-map f (x ∷ xs) y (zero, lt, is) = (x, (zero, omega arith, refl), is)
contained-map f (x ∷ xs) y (suc k, lt, is) = let rest =
    contained-map f xs y (k, omega arith, is) in (rest.0, (suc rest.1.0, omega (arith, rest.1.1), rest.1.2), rest.2)

-- the first element of a list that isn't empty, for use where a default value is needed
pub some-element : {X : Type 0} (xs : List X) (i : ℕ) → i < length xs → X
some-element [] i h = absurd (omega arith)
some-element (x ∷ xs) i h = x

-- ---- numbers that ascend (`RiseWithin`)

pub rise-append : (low mid high : ℕ) (xs ys : List ℕ) → RiseWithin low mid xs → RiseWithin mid high ys → RiseWithin low high (xs ++ ys)
rise-append low mid high [] [] h k = omega arith
rise-append low mid high [] (y ∷ ys) h k = (omega (arith, k.0), k.1)
rise-append low mid high (x ∷ xs) ys h k = (h.0, rise-append (x + 1) mid high xs ys h.1 k)

all-above : (low n high : ℕ) (xs : List ℕ) → low < n → RiseWithin n high xs → AllByRecursion (λ m. low < m) xs
all-above low n high [] le h = tt
all-above low n high (x ∷ xs) le h = (omega (arith, h.0), all-above low (x + 1) high xs (omega (arith, h.0)) h.1)

pub rise-ascends : (low high : ℕ) (xs : List ℕ) → RiseWithin low high xs → Ascends (λ n. n) xs
rise-ascends low high [] h = tt
rise-ascends low high (x ∷ xs) h = (all-above x (x + 1) high xs (omega arith) h.1, rise-ascends (x + 1) high xs h.1)

all-back : {X : Type 0} (f : X → ℕ) (n : ℕ) (xs : List X) → AllByRecursion (λ m. n < m) (map f xs) → AllByRecursion (λ x. n < f x) xs
all-back f n [] h = tt
all-back f n (x ∷ xs) h = (h.0, all-back f n xs h.1)

pub ascends-back : {X : Type 0} (f : X → ℕ) (xs : List X) → Ascends (λ n. n) (map f xs) → Ascends f xs
ascends-back f [] h = tt
ascends-back f (x ∷ xs) h = (all-back f (f x) xs h.0, ascends-back f xs h.1)

three-ways : (i j : ℕ) → (i < j) ⊎ ((i ≡ j) ⊎ (j < i))
three-ways i j = elim (cases_lt i j)
    [ inl lt ↦ inl lt | inr le ↦ elim (cases_lt j i) [ inl lt ↦ inr (inr lt) | inr ge ↦ inr (inl (omega arith)) ] ]

-- two items in the list that have the same number are equal
pub ascending-same : {X : Type 0} (at : X → ℕ) (xs : List X) → Ascends at xs → (x y : X) → Contains xs x → Contains xs y → at x ≡ at y
    → x ≡ y
ascending-same at xs up x y (i, i_in, i_is) (j, j_in, j_is) same =
    let y_is : get_or xs j x ≡ y = get_or_default xs j x y j_in ∙ j_is in
    elim (three-ways i j) [
      | inl lt ↦ absurd (let h : at x < at y =
          subst (λ v. at x < at v) y_is (subst (λ v. at v < at (get_or xs j x)) i_is (ascending-at at xs up i j x lt j_in)) in omega arith)
      | inr rest ↦ elim rest [
        | inl e ↦ sym i_is ∙ (ap (λ k. get_or xs k x) e ∙ y_is)
        | inr lt ↦ absurd (let h : at y < at x =
            subst (λ v. at v < at x) y_is (subst (λ v. at (get_or xs j x) < at v) i_is (ascending-at at xs up j i x lt i_in)) in omega
            arith)
      ]
    ]

pub contains-past : {X : Type 0} (x y : X) (xs : List X) → Contains xs x → Contains (y ∷ xs) x
contains-past x y xs (k, lt, is) = (suc k, omega arith, is)
