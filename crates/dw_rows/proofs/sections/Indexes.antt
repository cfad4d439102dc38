-- The address index: the FDEs whose address range isn't 0, sorted by initial location.
use Rattle.std.proofs.Common.{◌≡◌, ◌≢◌, ℕ, zero, suc, ◌+◌, ◌-◌, ◌<◌, ◌≤◌, List, [], ◌∷◌, length, get_or, take, map, ◌++◌, Contains, refl}
use Rattle.std.proofs.Common.{sym, ap, subst, ◌∙◌, arith, inl, inr, ◌⊎◌, ◌==◌, Bool, true, false, nat_lt, ltb-true, lt-ltb, leb, leb-true}
use Rattle.std.proofs.Common.{leb-false, ◌*◌, filter, if◌then◌else◌, Option, Some, None}
use Rattle.std.specs.Prelude.{All}
use Rattle.std.specs.List.{AllByRecursion, swap}
use Rattle.std.specs.List.Sorted.{IsPermutation, IsNonDecreasingBy}
use Rattle.std.proofs.lemmas.List.{get_or_default, get_or-map, length-map, take_more, map-append, append-nil}
use Rattle.std.proofs.lemmas.List.Edits.{swapped_from_swap, length-swap, Swapped}
use Rattle.std.proofs.lemmas.List.Elements.{All-append, All-filter, All-get_or, All-contains_itself, All-contains, filter-append}
use Rattle.std.proofs.lemmas.List.Elements.{filter_passes}
use Rattle.std.proofs.lemmas.List.Sorted.{IsPermutation-keeps, IsPermutation-sym, Contains-permutation}
use Rattle.std.proofs.lemmas.Bool.Decides.{nat_tests}
use Rattle.dw_rows.specs.Section.{Covers, CoversOnce, IsCoverOf}
use Rattle.dw_rows.specs.AddressIndex.{fde_offset, initial_of, IsIndexOf, IsOrdered, no_fde, fde_at, IsEntry, IsAddressIndex, IsStride}
use Rattle.dw_rows.specs.declared.index.IndexEntry.{IndexEntry}
use Rattle.dw_frame.specs.Views.{fde_of}
use Rattle.dw_frame.specs.declared.entry.FrameDescriptionEntry.{FrameDescriptionEntry}
use Rattle.dw_rules.proofs.Elements.{placed-map}
use Rattle.dw_rows.proofs.Elements.{sorted-map, sorted-back, some-element}
use Rattle.dw_frame.specs.Bounds.{Ascends}
use Rattle.dw_frame.specs.Records.{Fde}
use Rattle.dw_rules.proofs.Search.{ascending-at, squeeze, three_ways}
use Rattle.std.proofs.lemmas.Bool.{cases_lt, le-ltb}

-- FDEs at different indices have different offsets
abbrev pub AreDistinct : List Fde → Type 0
AreDistinct xs = (i j : ℕ) (d : Fde) → i < length xs → j < length xs → (get_or xs i d).offset ≡ (get_or xs j d).offset → i ≡ j

distinct-ascending : (xs : List Fde) → Ascends fde_offset xs → AreDistinct xs
distinct-ascending xs up i j d i_in j_in same =
    let low : ¬ (i < j) = λ lt. let h = ascending-at fde_offset xs up i j d lt j_in in omega (arith, h, same) in
    let high : ¬ (j < i) = λ lt. let h = ascending-at fde_offset xs up j i d lt i_in in omega (arith, h, same) in
    squeeze i j low high

-- the index that the element at m had before the elements at a and b were swapped
abbrev stood : ℕ → ℕ → ℕ → ℕ
stood a b m = if m == a then b else (if m == b then a else m)

stood-distinct : (a b i j : ℕ) → stood a b i ≡ stood a b j → i ≡ j
stood-distinct a b i j same = grind (arith, nat_tests)

stood-below : (a b m n : ℕ) → a < n → b < n → m < n → stood a b m < n
stood-below a b m n a_in b_in m_in = grind (arith, nat_tests)

equal_or_not : (m n : ℕ) → (m ≡ n) ⊎ (m ≢ n)
equal_or_not m n = elim (three_ways m n) [
  | inl lt ↦ inr
      (omega arith)
  | inr rest ↦ elim rest [ inl e ↦ inl e | inr gt ↦ inr (omega arith) ]
]

stood-first : (a b m : ℕ) → m ≡ a → stood a b m ≡ b
stood-first a b m e = grind (arith, nat_tests)

stood-second : (a b m : ℕ) → m ≢ a → m ≡ b → stood a b m ≡ a
stood-second a b m n e = grind (arith, nat_tests)

stood-else : (a b m : ℕ) → m ≢ a → m ≢ b → stood a b m ≡ m
stood-else a b m n n' = grind (arith, nat_tests)

swapped-at : (xs ys : List Fde) (a b m : ℕ) (d : Fde) → Swapped (λ i. get_or xs i d) (λ i. get_or ys i d) a b
    → get_or ys m d ≡ get_or xs (stood a b m) d
swapped-at xs ys a b m d s =
    elim (equal_or_not m a) [
      | inl e ↦ ap (λ n. get_or ys n d) e ∙ (s.0 ∙ sym (ap (λ n. get_or xs n d) (stood-first a b m e)))
      | inr n ↦ elim (equal_or_not m b) [
        | inl e ↦ ap (λ n. get_or ys n d) e ∙ (s.1 ∙ sym (ap (λ n. get_or xs n d) (stood-second a b m n e)))
        | inr n' ↦ s.2 m n n' ∙ sym (ap (λ n. get_or xs n d) (stood-else a b m n n'))
      ]
    ]

distinct-swap : (xs : List Fde) (a b : ℕ) → a < length xs → b < length xs → AreDistinct xs → AreDistinct (swap xs a b)
distinct-swap xs a b a_in b_in distinct i j d i_in j_in same =
    let moved = λ (m : ℕ). swapped-at xs (swap xs a b) a b m d (swapped_from_swap xs (swap xs a b) a b d a_in b_in refl) in
    let long = length-swap xs a b in
    stood-distinct a b i j (distinct (stood a b i) (stood a b j) d (stood-below a b i _ a_in b_in (omega (arith, long)))
    (stood-below a b j _ a_in b_in (omega (arith, long))) (ap fde_offset (sym (moved i)) ∙ (same ∙ ap fde_offset (moved j))))

distinct-permuted : (xs ys : List Fde) → IsPermutation xs ys → AreDistinct xs → AreDistinct ys
distinct-permuted xs ys moved distinct = IsPermutation-keeps xs AreDistinct distinct distinct-swap ys moved

all-filter : (P : Fde → Type 0) (p : Fde → Bool) (xs : List Fde) → AllByRecursion P xs → AllByRecursion P (filter p xs)
all-filter P p [] all = tt
all-filter P p (x ∷ xs) all = elim (p x) as
    (λ b. AllByRecursion P (if b then (x ∷ filter p xs) else filter p xs)) [
      | true ↦
          (all.0, all-filter P p xs all.1)
      | false ↦ all-filter P p xs all.1
    ]

ascending-filter : (p : Fde → Bool) (xs : List Fde) → Ascends fde_offset xs → Ascends fde_offset (filter p xs)
ascending-filter p [] up = tt
ascending-filter p (x ∷ xs) up = elim (p x) as
    (λ b. Ascends fde_offset (if b then (x ∷ filter p xs) else filter p xs)) [
      | true ↦
          (all-filter (λ y. x.offset < y.offset) p xs up.0, ascending-filter p xs up.1)
      | false ↦ ascending-filter p xs up.1
    ]

Contains-cons : (x y : Fde) (xs : List Fde) → Contains xs y → Contains (x ∷ xs) y
Contains-cons x y xs (k, k_in, k_is) = (suc k, omega arith, k_is)

contains-filter : (p : Fde → Bool) (xs : List Fde) (f : Fde) → Contains xs f → p f ≡ true → Contains (filter p xs) f
contains-filter p [] f (k, k_in, k_is) passes = absurd (omega arith)
contains-filter p (x ∷ xs) f (zero, k_in, k_is) passes =
    let yes : p x ≡ true = ap p k_is ∙ passes in
    subst (λ b. Contains (if b then (x ∷ filter p xs) else filter p xs) f) (sym yes) (zero, omega arith, k_is)
contains-filter p (x ∷ xs) f (suc k, k_in, k_is) passes =
    let rest : Contains (filter p xs) f = contains-filter p xs f (k, omega arith, k_is) passes in
    elim (p x) as (λ b. Contains (if b then (x ∷ filter p xs) else filter p xs) f) [
      | true ↦ Contains-cons x f
          (filter p xs) rest
      | false ↦ rest
    ]

abbrev pub is_some_fde : Fde → Bool
is_some_fde f = nat_lt 0 f.address_range

pub indexed : (fdes index : List Fde) → Ascends fde_offset fdes → IsPermutation (filter is_some_fde fdes) index
    → IsNonDecreasingBy initial_of index → IsIndexOf fdes index
indexed fdes index up moved sorted =
    let kept = filter is_some_fde fdes in
    let back : (f : Fde) → Contains index f → Contains kept f =
    λ f h. Contains-permutation index kept f (IsPermutation-sym kept index moved) h in
    record {
      from = λ f h. All-contains (Contains fdes) kept f (All-filter is_some_fde (Contains fdes) fdes (All-contains_itself fdes)) (back f h);
      to = λ f h some. Contains-permutation kept index f moved (contains-filter is_some_fde fdes f h (lt-ltb _ _ some));
      ordered = record {
        some = λ f h. ltb-true _ _ (All-contains (λ x. is_some_fde x ≡ true) kept f (filter_passes is_some_fde fdes) (back f h));
        distinct = distinct-permuted kept index moved (distinct-ascending kept (ascending-filter is_some_fde fdes up));
        sorted = sorted;
      };
    }

-- if the last FDE of the index that begins at or below an address doesn't cover the address, no FDE
-- of the index does
pub not-covered : (index : List Fde) → IsOrdered index → (place a : ℕ) (x : Fde) → CoversOnce index → 0 < place → place ≤ length index
    → get_or index (place - 1) x ≡ x → x.initial_location ≤ a
    → ((k : ℕ) (d : Fde) → place ≤ k → k < length index → a < (get_or index k d).initial_location)
    → x.initial_location + x.address_range ≤ a → (f : Fde) → Contains index f → ¬ Covers f a
not-covered index ordered place a x once some in_range x_is low above short f (k, k_in, k_is) covered =
    elim (cases_lt k place) [
      | inr le ↦ let h : a < f.initial_location = subst (λ v. a < v.initial_location) k_is (above k f le k_in)
          in omega (arith, h, covered.0)
      | inl not_above ↦
          let at_x : get_or index (place - 1) f ≡ x = get_or_default index (place - 1) f x (omega arith) ∙ x_is in
          let f_low : f.initial_location ≤ x.initial_location = subst (λ v. f.initial_location ≤ v.initial_location) at_x
          (subst (λ v. v.initial_location ≤ (get_or index (place - 1) f).initial_location) k_is
          (ordered.sorted k (place - 1) f (omega arith) (omega arith))) in
          let x_in : Contains index x = (place - 1, omega arith, x_is) in
          let x_some : 0 < x.address_range = ordered.some x x_in in
          let same : f ≡ x = once x.initial_location f x (k, k_in, k_is) x_in (f_low, omega (arith, covered.1))
          (omega arith, omega arith) in
          let end : f.initial_location + f.address_range ≡ x.initial_location + x.address_range
          = ap (λ v. v.initial_location + v.address_range) same in
          omega (arith, end, covered.1)
    ]

-- if all FDEs of the index begin above an address, none of them covers the address
pub none-covered : (index : List Fde) → (a : ℕ) → ((k : ℕ) (d : Fde) → k < length index → a < (get_or index k d).initial_location)
    → (f : Fde)
    → Contains index f → ¬ Covers f a
none-covered index a above f (k, k_in, k_is) covered =
    let h : a < f.initial_location = subst (λ v. a < v.initial_location) k_is (above k f k_in) in
    omega (arith, h, covered.0)

-- if no address is covered by two FDEs of the section, none is covered by two FDEs of the index
pub once-indexed : (fdes index : List Fde) → IsIndexOf fdes index → CoversOnce fdes → CoversOnce index
once-indexed fdes index is once a f g f_in g_in = once a f g (is.from f f_in) (is.from g g_in)

pub cover-indexed : (fdes index : List Fde) → IsIndexOf fdes index → (a : ℕ) (o : Option Fde) → IsCoverOf index a o → IsCoverOf fdes a o
cover-indexed fdes index is a None none = λ f f_in covered. none f (is.to f f_in (omega (arith, covered.0, covered.1))) covered
cover-indexed fdes index is a (Some f) only =
    (is.from f only.0, only.1, λ g g_in covered. only.2 g (is.to g g_in (omega (arith, covered.0, covered.1))) covered)

-- ---- the entries of the index

-- an index entry refers to the FDE at the entry's `place` in the list of FDEs
pub fde_at-is : (fdes : List FrameDescriptionEntry) (e : IndexEntry) (x : FrameDescriptionEntry) → e.place < length fdes
    → get_or fdes e.place x ≡ x → fde_at (map fde_of fdes) e ≡ fde_of x
fde_at-is fdes e x within is = get_or-map fde_of fdes e.place x no_fde within ∙ ap fde_of is

entry-is : (fdes : List FrameDescriptionEntry) (place : ℕ) (x : FrameDescriptionEntry) → place < length fdes → get_or fdes place x ≡ x
    → IsEntry (map fde_of fdes) (record { start = x.initial_location; place = place })
entry-is fdes place x within is =
    let long = length-map fdes fde_of in
    record {
      within = omega arith;
      start = ap (λ (f : Fde). f.initial_location)
          (sym (fde_at-is fdes (record { start = x.initial_location; place = place }) x within is));
    }

all-one : {X : Type 0} (P : X → Type 0) (x : X) → P x → All P (x ∷ [])
all-one P x h zero d lt = h
all-one P x h (suc k) d lt = absurd (omega arith)

-- If `entries` are the entries of the first `place` FDEs, and the next FDE covers an address,
-- adding an entry for that FDE at the end gives the entries of the first `place` + 1 FDEs.
pub entries-more : (fdes : List FrameDescriptionEntry) (place : ℕ) (x : FrameDescriptionEntry) (entries : List IndexEntry)
    → place < length fdes → get_or fdes place x ≡ x → 0 < x.address_range → All (IsEntry (map fde_of fdes)) entries
    → map (fde_at (map fde_of fdes)) entries ≡ filter is_some_fde (take place (map fde_of fdes))
    → All (IsEntry (map fde_of fdes)) (entries ++ record { start = x.initial_location; place = place } ∷ [])
    × (map (fde_at (map fde_of fdes)) (entries ++ record { start = x.initial_location; place = place } ∷ []) ≡ filter is_some_fde
    (take (place + 1) (map fde_of fdes)))
entries-more fdes place x entries within is some all same =
    let e : IndexEntry = record { start = x.initial_location; place = place } in
    let fs = map fde_of fdes in
    let long = length-map fdes fde_of in
    let next : take (place + 1) fs ≡ take place fs ++ fde_of x ∷ [] = take_more fs place (fde_of x) (omega arith)
    ∙ ap (λ y. take place fs ++ y ∷ []) (placed-map fde_of fdes place x is) in
    let one : filter is_some_fde (fde_of x ∷ []) ≡ fde_of x ∷ [] = rw (lt-ltb 0 x.address_range some) refl in (
      All-append (IsEntry fs) entries (e ∷ []) all (all-one (IsEntry fs) e (entry-is fdes place x within is)),
      map-append (fde_at fs) entries (e ∷ []) ∙ ap (λ l. l ++ fde_at fs e ∷ []) same
          ∙ ap (λ y. filter is_some_fde (take place fs) ++ y ∷ []) (fde_at-is fdes e x within is)
          ∙ ap (λ l. filter is_some_fde (take place fs) ++ l) (sym one) ∙ sym (filter-append is_some_fde (take place fs) (fde_of x ∷ []))
          ∙ ap (filter is_some_fde) (sym next),
    )

-- an FDE that covers no address adds nothing to the FDEs that have an entry
pub entries-same : (fdes : List FrameDescriptionEntry) (place : ℕ) (x : FrameDescriptionEntry) → place < length fdes
    → get_or fdes place x ≡ x → x.address_range ≤ 0
    → filter is_some_fde (take place (map fde_of fdes)) ≡ filter is_some_fde (take (place + 1) (map fde_of fdes))
entries-same fdes place x within is none =
    let fs = map fde_of fdes in
    let long = length-map fdes fde_of in
    let next : take (place + 1) fs ≡ take place fs ++ fde_of x ∷ [] = take_more fs place (fde_of x) (omega arith)
    ∙ ap (λ y. take place fs ++ y ∷ []) (placed-map fde_of fdes place x is) in
    let no : filter is_some_fde (fde_of x ∷ []) ≡ [] = rw (le-ltb 0 x.address_range none) refl in
    sym (ap (filter is_some_fde) next ∙ filter-append is_some_fde (take place fs) (fde_of x ∷ [])
    ∙ ap (λ l. filter is_some_fde (take place fs) ++ l) no ∙ append-nil (filter is_some_fde (take place fs)))

-- if entries are sorted by their starts, their FDEs are sorted by address
pub sorted-entries : (fdes : List Fde) (entries : List IndexEntry) → All (IsEntry fdes) entries → IsNonDecreasingBy (λ e. e.start) entries
    → IsNonDecreasingBy initial_of (map (fde_at fdes) entries)
sorted-entries fdes entries all sorted =
    sorted-map (fde_at fdes) initial_of entries (λ i j d le lt.
    let a : (get_or entries i d).start ≡ (fde_at fdes (get_or entries i d)).initial_location =
    (All-get_or (IsEntry fdes) entries i d (omega arith) all).start in
    let b : (get_or entries j d).start ≡ (fde_at fdes (get_or entries j d)).initial_location =
    (All-get_or (IsEntry fdes) entries j d lt all).start in
    let h = sorted i j d le lt in
    omega arith)

-- the FDE index in an entry is less than the number of FDEs
pub entry-within : (fdes : List FrameDescriptionEntry) (entries : List IndexEntry) (i : ℕ) (d : IndexEntry)
    → All (IsEntry (map fde_of fdes)) entries → i < length entries → (get_or entries i d).place < length fdes
entry-within fdes entries i d all i_in =
    let long = length-map fdes fde_of in
    let here : IsEntry (map fde_of fdes) (get_or entries i d) = All-get_or (IsEntry (map fde_of fdes)) entries i d i_in all in
    omega (arith, here.within)

pub entry-placed : (fdes : List FrameDescriptionEntry) (entries : List IndexEntry) (i : ℕ) (d : IndexEntry) (x : FrameDescriptionEntry)
    → All (IsEntry (map fde_of fdes)) entries → i < length entries → x ≡ get_or fdes (get_or entries i d).place x
    → get_or (map (fde_at (map fde_of fdes)) entries) i (fde_of x) ≡ fde_of x
entry-placed fdes entries i d x all i_in is =
    get_or-map (fde_at (map fde_of fdes)) entries i d (fde_of x) i_in
    ∙ fde_at-is fdes (get_or entries i d) x (entry-within fdes entries i d all i_in) (sym is)

pub entry-start : (fdes : List FrameDescriptionEntry) (entries : List IndexEntry) (i : ℕ) (d : IndexEntry) (x : FrameDescriptionEntry)
    → All (IsEntry (map fde_of fdes)) entries → i < length entries → x ≡ get_or fdes (get_or entries i d).place x
    → (get_or entries i d).start ≡ x.initial_location
entry-start fdes entries i d x all i_in is =
    (All-get_or (IsEntry (map fde_of fdes)) entries i d i_in all).start
    ∙ ap (λ (f : Fde). f.initial_location) (fde_at-is fdes (get_or entries i d) x (entry-within fdes entries i d all i_in) (sym is))

-- the entries of an address index are sorted by their starts
pub starts-sorted : (fdes : List Fde) (entries : List IndexEntry) → IsAddressIndex fdes entries
    → IsNonDecreasingBy (λ (e : IndexEntry). e.start) entries
starts-sorted fdes entries is i j d le lt =
    let a : (get_or entries i d).start ≡ (fde_at fdes (get_or entries i d)).initial_location =
    (All-get_or (IsEntry fdes) entries i d (omega arith) is.each).start in
    let b : (get_or entries j d).start ≡ (fde_at fdes (get_or entries j d)).initial_location =
    (All-get_or (IsEntry fdes) entries j d lt is.each).start in
    let h = sorted-back (fde_at fdes) initial_of entries is.index_of.ordered.sorted i j d le lt in
    omega (arith, h)

-- if the entries from the index `place` on start above an address, their FDEs begin above it
pub starts-above : (fdes : List Fde) (entries : List IndexEntry) (place a : ℕ) → All (IsEntry fdes) entries
    → ((k : ℕ) (d : IndexEntry) → place ≤ k → k < length entries → a < (get_or entries k d).start)
    → (k : ℕ) (d : Fde) → place ≤ k → k < length (map (fde_at fdes) entries) → a < (get_or (map (fde_at fdes) entries) k d).initial_location
starts-above fdes entries place a all above k d le lt =
    let long = length-map entries (fde_at fdes) in
    let k_in : k < length entries = omega arith in
    let e = some-element entries k k_in in
    let b : (get_or entries k e).start ≡ (fde_at fdes (get_or entries k e)).initial_location =
    (All-get_or (IsEntry fdes) entries k e k_in all).start in
    let h = above k e le k_in in
    let at : get_or (map (fde_at fdes) entries) k d ≡ fde_at fdes (get_or entries k e) = get_or-map (fde_at fdes) entries k e d k_in in
    subst (λ (f : Fde). a < f.initial_location) (sym at) (omega (arith, h, b))

-- ---- steps of the search by quarters

pub start-at : (entries : List IndexEntry) (i j : ℕ) (d e : IndexEntry) → i ≡ j → j < length entries
    → (get_or entries i d).start ≡ (get_or entries j e).start
start-at entries i j d e same lt = ap (λ (n : ℕ). (get_or entries n d).start) same
    ∙ ap (λ (x : IndexEntry). x.start) (get_or_default entries j d e lt)

-- a stride of m quarters is one of n quarters if n equals m
so-many : (entries : List IndexEntry) (low q a n m : ℕ) → n ≡ m → IsStride entries low q a (m * q) → IsStride entries low q a (n * q)
so-many entries low q a n m same h = subst (λ (v : ℕ). IsStride entries low q a (v * q)) (sym same) h

pub strides : (f : Bool → ℕ) → f true ≡ 1 → f false ≡ 0 → (entries : List IndexEntry) (low q a : ℕ) (e : IndexEntry)
    → IsNonDecreasingBy (λ (x : IndexEntry). x.start) entries → low + 3 * q < length entries → (x y z : Bool)
    → leb (get_or entries (low + q) e).start a ≡ x → leb (get_or entries (low + 2 * q) e).start a ≡ y
    → leb (get_or entries (low + 3 * q) e).start a ≡ z
    → (n m k : ℕ) → n ≡ f x → m ≡ f y → k ≡ f z → IsStride entries low q a ((n + m + k) * q)
strides f one nil entries low q a e sorted inside true true true hx hy hz n m k nx my kz =
    so-many entries low q a (n + m + k) 3 (omega arith) (record {
      bound = omega arith;
      below = λ d some. let s = leb-true _ _ hz in omega (arith, s, start-at entries (low + 3 * q) (low + 3 * q) d e refl inside);
      above = λ d few. absurd (omega arith);
    })
strides f one nil entries low q a e sorted inside true true false hx hy hz n m k nx my kz =
    so-many entries low q a (n + m + k) 2 (omega arith) (record {
      bound = omega arith;
      below = λ d some. let s = leb-true _ _ hy in omega (arith, s, start-at entries (low + 2 * q) (low + 2 * q) d e refl (omega arith));
      above = λ d few. let s = leb-false _ _ hz in
          omega (arith, s, start-at entries (low + 2 * q + q) (low + 3 * q) d e (omega arith) inside);
    })
strides f one nil entries low q a e sorted inside true false false hx hy hz n m k nx my kz =
    so-many entries low q a (n + m + k) 1 (omega arith) (record {
      bound = omega arith;
      below = λ d some. let s = leb-true _ _ hx in
          omega (arith, s, start-at entries (low + 1 * q) (low + q) d e (omega arith) (omega arith));
      above = λ d few. let s = leb-false _ _ hy in
          omega (arith, s, start-at entries (low + 1 * q + q) (low + 2 * q) d e (omega arith) (omega arith));
    })
strides f one nil entries low q a e sorted inside false false false hx hy hz n m k nx my kz =
    so-many entries low q a (n + m + k) 0 (omega arith) (record {
      bound = omega arith;
      below = λ d some. absurd (omega arith);
      above = λ d few. let s = leb-false _ _ hx in
          omega (arith, s, start-at entries (low + 0 * q + q) (low + q) d e (omega arith) (omega arith));
    })
strides f one nil entries low q a e sorted inside false true z hx hy hz n m k nx my kz =
    let s = leb-false _ _ hx in let t = leb-true _ _ hy in let up = sorted (low + q) (low + 2 * q) e (omega arith) (omega arith) in
    absurd (omega (arith, s, t, up))
strides f one nil entries low q a e sorted inside x false true hx hy hz n m k nx my kz =
    let s = leb-false _ _ hy in let t = leb-true _ _ hz in let up = sorted (low + 2 * q) (low + 3 * q) e (omega arith) inside in
    absurd (omega (arith, s, t, up))
