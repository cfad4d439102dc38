-- The first FDE that covers addresses from an address on, and its index in a list.
use Rattle.std.proofs.Common.{◌≡◌, ◌≢◌, ℕ, ◌+◌, ◌<◌, ◌≤◌, Bool, true, false, cond, eqb, List, [], ◌∷◌, ◌++◌, get_or, length, map, Option, Some, None, refl, sym, ap, ◌∙◌, arith}
use Rattle.std.specs.Prelude.{◌==◌, ◌&&◌, nat_lt, find, position, slice_get}
use Rattle.std.specs.List.{position_or_len}
use Rattle.std.specs.Option.{option_map, option_or}
use Rattle.std.proofs.lemmas.Bool.Decides.{nat_tests}
use Rattle.std.proofs.lemmas.List.{length-append, length-map}
use Rattle.std.proofs.lemmas.List.Folds.{find_at, position_or_len_push}
use Rattle.std.proofs.lemmas.List.Sums.{prefix_len-le-length}
use Rattle.std.proofs.lemmas.Option.{slice_get_past, slice_get_read, slice_get-map}
use Rattle.dw_frame.specs.declared.entry.FrameDescriptionEntry.{FrameDescriptionEntry}
use Rattle.dw_frame.specs.Records.{Fde}
use Rattle.dw_frame.specs.Views.{fde_of}
use Rattle.dw_eh_frame.specs.Copies.{covers_from, is_copy, repeats, repeats_one}
use Rattle.dw_eh_frame.specs.CopySearch.{AreFirsts}
use Rattle.dw_eh_frame.specs.FirstFdes.{Firsts, added, first_in}

below : (n m : ℕ) → nat_lt n m ≡ true → n < m
below n m is = grind (arith, nat_tests)

not-below : (n m : ℕ) → nat_lt n m ≡ false → m ≤ n
not-below n m is = grind (arith, nat_tests)

abbrev chosen : ℕ → Option ℕ
chosen n = Some n

same-number : (n m : ℕ) → chosen n ≡ chosen m → n ≡ m
same-number n m is = cc

not-none : (n : ℕ) → chosen n ≡ None → ⊥
not-none n is = cc

pub position-found : {X : Type 0} (p : X → Bool) (xs : List X) (n : ℕ) → position p xs ≡ Some n
    → (n < length xs) × (find p xs ≡ slice_get xs n)
position-found p xs n found = go (nat_lt (position_or_len p xs) (length xs)) refl found
  where
    go : (b : Bool) → nat_lt (position_or_len p xs) (length xs) ≡ b → cond b (Some (position_or_len p xs)) None ≡ Some n
        → (n < length xs) × (find p xs ≡ slice_get xs n)
    go true test is =
        let same = same-number (position_or_len p xs) n is in
        (omega (arith, same, below (position_or_len p xs) (length xs) test), find_at p xs ∙ ap (slice_get xs) same)
    go false test is = absurd (not-none n (sym is))

pub position-none : {X : Type 0} (p : X → Bool) (xs : List X) → position p xs ≡ None → find p xs ≡ None
position-none p xs none = go (nat_lt (position_or_len p xs) (length xs)) refl none
  where
    go : (b : Bool) → nat_lt (position_or_len p xs) (length xs) ≡ b → cond b (Some (position_or_len p xs)) None ≡ None
        → find p xs ≡ None
    go true test is = absurd (not-none (position_or_len p xs) is)
    go false test is = find_at p xs ∙ slice_get_past xs (position_or_len p xs) (not-below (position_or_len p xs) (length xs) test)

-- ---- with one more item

numbers : (m size : ℕ) (b : Bool) → m ≤ size
    → cond (nat_lt (cond (eqb m size) (size + cond b 0 1) m) (size + 1)) (chosen (cond (eqb m size) (size + cond b 0 1) m)) None
    ≡ option_or (cond (nat_lt m size) (Some m) None) (cond b (Some size) None)
numbers m size true le = grind (arith, nat_tests)
numbers m size false le = grind (arith, nat_tests)

pub position-more : {X : Type 0} (p : X → Bool) (xs : List X) (y : X)
    → position p (xs ++ y ∷ []) ≡ option_or (position p xs) (cond (p y) (Some (length xs)) None)
position-more p xs y =
    ap (λ n. cond (nat_lt n (length (xs ++ y ∷ []))) (Some n) None) (position_or_len_push p xs y)
    ∙ (ap (λ size. cond (nat_lt (cond (eqb (position_or_len p xs) (length xs)) (length xs + cond (p y) 0 1) (position_or_len p xs)) size)
    (Some (cond (eqb (position_or_len p xs) (length xs)) (length xs + cond (p y) 0 1) (position_or_len p xs))) None) (length-append xs (y ∷ []))
    ∙ numbers (position_or_len p xs) (length xs) (p y) (prefix_len-le-length _ xs))

-- ---- FDEs

-- with one more FDE, which covers addresses
pub firsts-more : (old new : Firsts) (fdes : List Fde) (f : Fde) (size : ℕ) → AreFirsts old fdes → size ≡ length fdes → 0 < f.address_range
    → ((a : ℕ) → first_in new a ≡ added (first_in old a) f.initial_location size a) → AreFirsts new (fdes ++ f ∷ [])
firsts-more old new fdes f size are size_is some adds = λ a.
    adds a
    ∙ (ap (λ o. added o f.initial_location size a) (are a)
    ∙ (ap (λ n. added (position (covers_from a) fdes) f.initial_location n a) size_is
    ∙ (one (position (covers_from a) fdes) a (nat_lt 0 f.address_range) (covers f.address_range some)
    ∙ sym (position-more (covers_from a) fdes f))))
  where
    covers : (n : ℕ) → 0 < n → nat_lt 0 n ≡ true
    covers n h = grind (arith, nat_tests)

    one : (o : Option ℕ) (a : ℕ) (b : Bool) → b ≡ true
        → added o f.initial_location (length fdes) a ≡ option_or o (cond (b && (f.initial_location == a)) (Some (length fdes)) None)
    one (Some n) a b is = refl
    one None a true is = refl
    one None a false is = absurd cc

-- ---- copies

both-true : (n : ℕ) (b : Bool) → n ≢ 0 → (nat_lt 0 n && b) ≡ b
both-true n b some = ap (λ t. t && b) (covers n some)
  where
    covers : (n : ℕ) → n ≢ 0 → nat_lt 0 n ≡ true
    covers n h = grind (arith, nat_tests)

-- the first FDE at its address has the index n
pub copy-of-first : (before : List FrameDescriptionEntry) (f g : FrameDescriptionEntry) (n : ℕ) (b : Bool) → f.address_range ≢ 0
    → position (covers_from f.initial_location) (map fde_of before) ≡ Some n → g ≡ get_or before n g
    → b ≡ repeats (fde_of g) (fde_of f) → b ≡ is_copy (map fde_of before) (fde_of f)
copy-of-first before f g n b some is item same =
    let found = position-found (covers_from f.initial_location) (map fde_of before) n is in
    let here : slice_get before n ≡ Some g =
    slice_get_read before (length before) n g refl (omega (arith, found.0, length-map before fde_of)) item in
    same
    ∙ (ap (λ o. repeats_one o (fde_of f)) (sym (found.1 ∙ (slice_get-map fde_of before n ∙ ap (option_map fde_of) here)))
    ∙ sym (both-true f.address_range (repeats_one (find (covers_from f.initial_location) (map fde_of before)) (fde_of f)) some))

-- no FDE before it covers addresses from its first address on
pub no-copy : (before : List FrameDescriptionEntry) (f : FrameDescriptionEntry) → f.address_range ≢ 0
    → position (covers_from f.initial_location) (map fde_of before) ≡ None → is_copy (map fde_of before) (fde_of f) ≡ false
no-copy before f some is =
    both-true f.address_range (repeats_one (find (covers_from f.initial_location) (map fde_of before)) (fde_of f)) some
    ∙ ap (λ o. repeats_one o (fde_of f)) (position-none (covers_from f.initial_location) (map fde_of before) is)
