-- Lemmas about modules in order of address: the module at an address, and how a module is inserted
-- and removed.
use Rattle.std.proofs.Common.{◌≡◌, ℕ, zero, suc, ◌+◌, ◌-◌, ◌<◌, ◌≤◌, List, [], ◌∷◌, ◌++◌, length, get_or, map, take, drop, Bool, true, false, Some, None, inl, inr, refl, sym, subst, ap, ◌∙◌, arith}
use Rattle.std.specs.Prelude.{find, AllPairs, ◌⊎◌, Contains}
use Rattle.std.specs.List.{insert, remove}
use Rattle.std.specs.List.Sorted.{IsNonDecreasingBy}
use Rattle.std.proofs.lemmas.Bool.{cases_lt}
use Rattle.std.proofs.lemmas.Bool.Decides.{nat_tests}
use Rattle.std.proofs.lemmas.List.{get_or-map, get_or_default, length-map, map-append, take-map, drop-map, take-append-drop, length-take-le}
use Rattle.std.proofs.lemmas.List.Edits.{length-insert, get_or-insert_below, get_or-insert_at, get_or-insert_above, remove-append_right}
use Rattle.std.proofs.lemmas.List.Elements.{All-append, All-take, All-drop, All-cons}
use Rattle.std.proofs.lemmas.List.Quantifiers.{all_pairs_remove}
use Rattle.dw_bytes.specs.declared.target.AddressSize.TheVariants.{Four}
use Rattle.dw_bytes.specs.declared.target.Order.TheVariants.{Little}
use Rattle.dw_process.specs.declared.address_range.AddressRange.{AddressRange}
use Rattle.dw_process.specs.declared.loaded_module.LoadedModule.{LoadedModule}
use Rattle.dw_process.specs.Marks.{no_marks}
use Rattle.dw_process.specs.ModuleMaps.{AreInOrder, IsBelow, IsPlaceFor, IsProper, IsStartCount, first_of, is_in, module_at}

-- ---- the first element that passes a test

find_none : {X : Type 0} (p : X → Bool) (xs : List X) → ((k : ℕ) (d : X) → k < length xs → p (get_or xs k d) ≡ false) → find p xs ≡ None
find_none p [] fails = refl
find_none p (x ∷ xs) fails =
    let here : p x ≡ false = fails 0 x (omega arith) in
    rw here (find_none p xs (λ k d lt. fails (suc k) d (omega (arith, lt))))

find_first : {X : Type 0} (p : X → Bool) (xs : List X) (i : ℕ) (x : X) → i < length xs → get_or xs i x ≡ x → p x ≡ true
    → ((k : ℕ) (d : X) → k < i → p (get_or xs k d) ≡ false) → find p xs ≡ Some x
find_first p [] i x lt is passes fails = absurd (omega (arith, lt))
find_first p (y ∷ xs) zero x lt is passes fails =
    let here : p y ≡ true = ap p is ∙ passes in
    rw here (ap Some is)
find_first p (y ∷ xs) (suc i) x lt is passes fails =
    let here : p y ≡ false = fails 0 x (omega arith) in
    rw here (find_first p xs i x (omega (arith, lt)) is passes (λ k d less. fails (suc k) d (omega (arith, less))))

-- ---- ranges

pub is_inside : (r : AddressRange) (a : ℕ) → r.first ≤ a → a ≤ r.last → is_in r a ≡ true
is_inside r a low high = grind (arith, nat_tests)

pub is_above : (r : AddressRange) (a : ℕ) → r.last < a → is_in r a ≡ false
is_above r a low = grind (arith, nat_tests)

pub is_below : (r : AddressRange) (a : ℕ) → a < r.first → is_in r a ≡ false
is_below r a high = grind (arith, nat_tests)

-- ---- modules in order

some_module : LoadedModule
some_module = record {
  id = 0;
  cookie = 0;
  load_address = 0;
  range = record { first = 0; last = 0 };
  rows = record { target = record { order = Little; address_size = Four }; rows = []; bytes = 0 };
  fallback = None;
  marks = no_marks;
}

module _ (modules : List LoadedModule) (order : AreInOrder modules) where
  pub rises : (i j : ℕ) (d : LoadedModule) → i ≤ j → j < length modules
      → (get_or modules i d).range.first ≤ (get_or modules j d).range.first
  rises i j d le lt = elim (cases_lt i j) [
    | inl less ↦ let low = order.proper i d (omega (arith, le, lt)) in
        let up = order.order i j d less lt in omega (arith, low, up)
    | inr same ↦ let e : i ≡ j = omega (arith, le, same) in rw e (omega arith)
  ]

  pub first_at : (k d : ℕ) (m : LoadedModule) → k < length modules → get_or (map first_of modules) k d ≡ (get_or modules k m).range.first
  first_at k d m lt = get_or-map first_of modules k m d lt

  pub firsts_rise : IsNonDecreasingBy (λ x. x) (map first_of modules)
  firsts_rise i j d le lt =
      let m = some_module in
      let long = length-map modules first_of in
      let a = first_at i d m (omega (arith, le, lt, long)) in
      let b = first_at j d m (omega (arith, lt, long)) in
      let up = rises i j m le (omega (arith, lt, long)) in
      omega (arith, a, b, up)

  module _ (a count : ℕ) (counted : IsStartCount (map first_of modules) a count) where
    bound : count ≤ length modules
    bound = let long = length-map modules first_of in omega (arith, long, counted.bound)

    above : (k : ℕ) (d : LoadedModule) → count ≤ k → k < length modules → a < (get_or modules k d).range.first
    above k d le lt =
        let long = length-map modules first_of in
        let low = counted.above k 0 le (omega (arith, lt, long)) in
        let is = first_at k 0 d lt in
        omega (arith, low, is)

    below : (k : ℕ) (d : LoadedModule) → k < count → (get_or modules k d).range.first ≤ a
    below k d lt =
        let low = counted.below k 0 lt in
        let is = first_at k 0 d (omega (arith, lt, bound)) in
        omega (arith, low, is)

    -- the modules before the last one of those that begin at or below the address end below it
    ends : (k : ℕ) (d : LoadedModule) → k + 1 < count → (get_or modules k d).range.last < a
    ends k d lt =
        let up = order.order k (k + 1) d (omega arith) (omega (arith, lt, bound)) in
        let low = below (k + 1) d lt in
        omega (arith, up, low)

    pub none_up_to : count ≡ 0 → module_at modules a ≡ None
    none_up_to none = find_none (λ m. is_in m.range a) modules (λ k d lt. is_below (get_or modules k d).range a (above k d (omega (arith, none)) lt))

    pub the_last : (m : LoadedModule) → 0 < count → get_or modules (count - 1) m ≡ m → a ≤ m.range.last → module_at modules a ≡ Some m
    the_last m some is high =
        let low = below (count - 1) m (omega (arith, some)) in
        let low_here : m.range.first ≤ a = subst (λ (x : LoadedModule). x.range.first ≤ a) is low in
        find_first (λ m. is_in m.range a) modules (count - 1) m (omega (arith, some, bound)) is (is_inside m.range a low_here high)
        (λ k d lt. is_above (get_or modules k d).range a (ends k d (omega (arith, lt))))

    pub not_the_last : (m : LoadedModule) → 0 < count → get_or modules (count - 1) m ≡ m → m.range.last < a → module_at modules a ≡ None
    not_the_last m some is over = find_none (λ m. is_in m.range a) modules (λ k d lt. each k d lt (cases_lt k count))
      where
        each : (k : ℕ) (d : LoadedModule) → k < length modules → (k < count) ⊎ (count ≤ k) → is_in (get_or modules k d).range a ≡ false
        each k d lt (inr le) = is_below (get_or modules k d).range a (above k d le lt)
        each k d lt (inl less) = is_above (get_or modules k d).range a (over_all (cases_lt (k + 1) count))
          where
            over_all : (k + 1 < count) ⊎ (count ≤ k + 1) → (get_or modules k d).range.last < a
            over_all (inl inner) = ends k d inner
            over_all (inr last) =
                let e : count - 1 ≡ k = omega (arith, less, last) in
                let there : get_or modules k d ≡ m = get_or_default modules k d m lt ∙ subst (λ (n : ℕ). get_or modules n m ≡ m) e is in
                rw there over

-- the last one of the modules that begin at or below the address
pub starts_by : (modules : List LoadedModule) (order : AreInOrder modules) (a count : ℕ) → IsStartCount (map first_of modules) a count
    → (m : LoadedModule) → 0 < count → get_or modules (count - 1) m ≡ m → (count - 1 < length modules) × (m.range.first ≤ a)
starts_by modules order a count counted m some is = (
  let within = bound modules order a count counted in omega (arith, some, within),
  subst (λ (x : LoadedModule). x.range.first ≤ a) is (below modules order a count counted (count - 1) m (omega (arith, some))),
)

-- ---- a place for a range

pub place_of_none : (modules : List LoadedModule) (order : AreInOrder modules) (range : AddressRange) (count : ℕ)
    → IsStartCount (map first_of modules) range.last count → count ≡ 0 → IsPlaceFor range modules count
place_of_none modules order range count counted none = record {
  bound = omega (arith, none);
  below = λ k d lt. absurd (omega (arith, lt, none));
  above = above modules order range.last count counted;
}

pub place_after : (modules : List LoadedModule) (order : AreInOrder modules) (range : AddressRange) (count : ℕ)
    → IsStartCount (map first_of modules) range.last count → (m : LoadedModule) → 0 < count → get_or modules (count - 1) m ≡ m
    → m.range.last < range.first → IsPlaceFor range modules count
place_after modules order range count counted m some is free = record {
  bound = bound modules order range.last count counted;
  below = λ k d lt. before k d lt (cases_lt (k + 1) count);
  above = above modules order range.last count counted;
}
  where
    within : count ≤ length modules
    within = bound modules order range.last count counted

    at_last : (d : LoadedModule) → get_or modules (count - 1) d ≡ m
    at_last d = get_or_default modules (count - 1) d m (omega (arith, some, within)) ∙ is

    before : (k : ℕ) (d : LoadedModule) → k < count → (k + 1 < count) ⊎ (count ≤ k + 1) → IsBelow (get_or modules k d).range range
    before k d lt (inl inner) =
        let up = order.order k (count - 1) d (omega (arith, inner)) (omega (arith, some, within)) in
        let low = order.proper (count - 1) d (omega (arith, some, within)) in
        let e = ap (λ (x : LoadedModule). x.range.last) (at_last d) in
        omega (arith, up, low, e, free)
    before k d lt (inr last) =
        let e : count - 1 ≡ k = omega (arith, lt, last) in
        let there : get_or modules k d ≡ m = subst (λ (n : ℕ). get_or modules n d ≡ m) e (at_last d) in
        let e = ap (λ (x : LoadedModule). x.range.last) there in
        omega (arith, e, free)

-- ---- inserting and removing

pub map-insert : (modules : List LoadedModule) (i : ℕ) (m : LoadedModule) → map first_of (insert modules i m) ≡ insert (map first_of modules) i (first_of m)
map-insert modules i m =
    map-append first_of (take i modules) (m ∷ drop i modules)
    ∙ ap (λ (l : List ℕ). l ++ first_of m ∷ map first_of (drop i modules)) (sym (take-map first_of i modules))
    ∙ ap (λ (l : List ℕ). take i (map first_of modules) ++ first_of m ∷ l) (sym (drop-map first_of i modules))

pub map-remove : (modules : List LoadedModule) (i : ℕ) → map first_of (remove modules i) ≡ remove (map first_of modules) i
map-remove modules i =
    map-append first_of (take i modules) (drop (suc i) modules)
    ∙ ap (λ (l : List ℕ). l ++ map first_of (drop (suc i) modules)) (sym (take-map first_of i modules))
    ∙ ap (λ (l : List ℕ). take i (map first_of modules) ++ l) (sym (drop-map first_of (suc i) modules))

pub remove-insert : {X : Type 0} (xs : List X) (i : ℕ) (y : X) → i ≤ length xs → remove (insert xs i y) i ≡ xs
remove-insert xs i y le =
    let e : i - i ≡ 0 = omega arith in
    remove-append_right (take i xs) (y ∷ drop i xs) i i (length-take-le i xs le) (omega arith)
    ∙ ap (λ (n : ℕ). take i xs ++ remove (y ∷ drop i xs) n) e
    ∙ take-append-drop i xs

pub order_of_less : (modules : List LoadedModule) (i : ℕ) → i < length modules → AreInOrder modules → AreInOrder (remove modules i)
order_of_less modules i lt order = record {
  proper = All-append (λ (m : LoadedModule). IsProper m.range) (take i modules) (drop (suc i) modules)
      (All-take (λ (m : LoadedModule). IsProper m.range) i modules order.proper) (All-drop (λ (m : LoadedModule). IsProper m.range) (suc i) modules order.proper);
  order = all_pairs_remove (λ (m n : LoadedModule). IsBelow m.range n.range) modules i lt order.order;
}

-- where the k-th element comes from, after y is inserted at i
module _ {X : Type 0} (xs : List X) (i : ℕ) (y : X) (le : i ≤ length xs) (R : X → X → Type 0)
    (all : AllPairs R xs) (before : (k : ℕ) (d : X) → k < i → R (get_or xs k d) y) (after : (k : ℕ) (d : X) → i ≤ k → k < length xs → R y (get_or xs k d)) where
  three_ways : (j : ℕ) → (j < i) ⊎ ((j ≡ i) ⊎ (i < j))
  three_ways j = elim (cases_lt j i) [
    | inl less ↦ inl less
    | inr more ↦ elim (cases_lt i j) [
      | inl over ↦ inr (inr over)
      | inr same ↦ inr (inl (omega (arith, more, same)))
    ]
  ]

  at_below : (j : ℕ) (d : X) → j < i → get_or (insert xs i y) j d ≡ get_or xs j d
  at_below j d lt = get_or-insert_below xs i y d j lt le

  at_place : (j : ℕ) (d : X) → j ≡ i → get_or (insert xs i y) j d ≡ y
  at_place j d is = rw is (get_or-insert_at xs i y d le)

  at_above : (j : ℕ) (d : X) → i < j → get_or (insert xs i y) j d ≡ get_or xs (j - 1) d
  at_above j d lt =
      let e : j - 1 + 1 ≡ j = omega (arith, lt) in
      subst (λ (n : ℕ). get_or (insert xs i y) n d ≡ get_or xs (j - 1) d) e (get_or-insert_above xs i y d (j - 1) (omega (arith, lt)) le)

  pub AllPairs-insert : AllPairs R (insert xs i y)
  AllPairs-insert j k d lt within = by (three_ways j) (three_ways k)
    where
      long : length (insert xs i y) ≡ length xs + 1
      long = length-insert xs i y le

      by : (j < i) ⊎ ((j ≡ i) ⊎ (i < j)) → (k < i) ⊎ ((k ≡ i) ⊎ (i < k)) → R (get_or (insert xs i y) j d) (get_or (insert xs i y) k d)
      by (inl a) (inl b) = rw (at_below j d a, at_below k d b) (all j k d lt (omega (arith, b, le)))
      by (inl a) (inr (inl b)) = rw (at_below j d a, at_place k d b) (before j d a)
      by (inl a) (inr (inr b)) = rw (at_below j d a, at_above k d b) (all j (k - 1) d (omega (arith, a, b)) (omega (arith, b, within, long)))
      by (inr (inl a)) (inl b) = absurd (omega (arith, a, b, lt))
      by (inr (inl a)) (inr (inl b)) = absurd (omega (arith, a, b, lt))
      by (inr (inl a)) (inr (inr b)) = rw (at_place j d a, at_above k d b) (after (k - 1) d (omega (arith, b)) (omega (arith, b, within, long)))
      by (inr (inr a)) (inl b) = absurd (omega (arith, a, b, lt))
      by (inr (inr a)) (inr (inl b)) = absurd (omega (arith, a, b, lt))
      by (inr (inr a)) (inr (inr b)) = rw (at_above j d a, at_above k d b) (all (j - 1) (k - 1) d (omega (arith, a, b, lt)) (omega (arith, b, within, long)))

pub order_of_more : (modules : List LoadedModule) (i : ℕ) (m : LoadedModule) → IsProper m.range → IsPlaceFor m.range modules i → AreInOrder modules
    → AreInOrder (insert modules i m)
order_of_more modules i m proper place order = record {
  proper = All-append (λ (x : LoadedModule). IsProper x.range) (take i modules) (m ∷ drop i modules)
      (All-take (λ (x : LoadedModule). IsProper x.range) i modules order.proper)
      (All-cons (λ (x : LoadedModule). IsProper x.range) m (drop i modules) proper (All-drop (λ (x : LoadedModule). IsProper x.range) i modules order.proper));
  order = AllPairs-insert modules i m place.bound (λ (a b : LoadedModule). IsBelow a.range b.range) order.order
      (λ k d lt. place.below k d lt) (λ k d le lt. place.above k d le lt);
}

-- ---- the one module that has an address

range_below : (r : AddressRange) (a : ℕ) → is_in r a ≡ true → a ≤ r.last
range_below r a inside = grind (arith, nat_tests)

range_above : (r : AddressRange) (a : ℕ) → is_in r a ≡ true → r.first ≤ a
range_above r a inside = grind (arith, nat_tests)

pub the_one : (modules : List LoadedModule) → AreInOrder modules → (a : ℕ) (m : LoadedModule) → Contains modules m → is_in m.range a ≡ true
    → module_at modules a ≡ Some m
the_one modules order a m among inside =
    find_first (λ m. is_in m.range a) modules among.0 m among.1 among.2 inside
    (λ k d lt. let up = order.order k among.0 d lt among.1 in
    let e = ap (λ (x : LoadedModule). x.range.first) (get_or_default modules among.0 d m among.1 ∙ among.2) in
    let low = range_above m.range a inside in
    is_above (get_or modules k d).range a (omega (arith, up, e, low)))
