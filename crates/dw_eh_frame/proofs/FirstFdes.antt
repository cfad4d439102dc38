-- What a list of places has at an address.
use Rattle.std.proofs.Common.{◌≡◌, ◌≢◌, ℕ, zero, suc, ◌<◌, Bool, true, false, cond, List, [], ◌∷◌, ◌++◌, Option, Some, None, Contains, refl, sym, ap, ◌∙◌, arith}
use Rattle.std.specs.Prelude.{◌==◌}
use Rattle.std.specs.List.{AllByRecursion}
use Rattle.std.specs.Option.{option_or}
use Rattle.std.specs.BTreeMap.{is_at}
use Rattle.std.specs.Map.{lookup}
use Rattle.std.specs.Ordering.{nat_cmp}
use Rattle.std.proofs.lemmas.Bool.Decides.{nat_tests}
use Rattle.dw_frame.specs.Bounds.{Ascends}
use Rattle.dw_eh_frame.specs.declared.first_fdes.FdePlace.{FdePlace}
use Rattle.dw_eh_frame.specs.FirstFdes.{Firsts, added, first_in, listed, place_address}

differs : (n m : ℕ) → n ≢ m → (n == m) ≡ false
differs n m other = grind (arith, nat_tests, other)

is-itself : (n : ℕ) → (n == n) ≡ true
is-itself n = grind (arith, nat_tests)

pub listed-none : (places : List FdePlace) (a : ℕ) → ((p : FdePlace) → Contains places p → p.address ≢ a) → listed places a ≡ None
listed-none [] a none = refl
listed-none (p ∷ places) a none =
    ap (λ b. cond b (Some p.index) (listed places a)) (differs p.address a (none p (zero, omega arith, refl)))
    ∙ listed-none places a (λ q (k, less, is). none q (suc k, omega (arith, less), is))

all-above : (n : ℕ) (places : List FdePlace) (p : FdePlace) → AllByRecursion (λ q. n < q.address) places → Contains places p → n < p.address
all-above n [] p all (k, less, is) = absurd (omega arith)
all-above n (q ∷ places) p all (zero, less, is) = let here : q.address ≡ p.address = ap place_address is in omega (arith, all.0, here)
all-above n (q ∷ places) p all (suc k, less, is) = all-above n places p all.1 (k, omega (arith, less), is)

pub listed-some : (places : List FdePlace) (p : FdePlace) (a : ℕ) → Ascends place_address places → Contains places p → p.address ≡ a
    → listed places a ≡ Some p.index
listed-some [] p a up (k, less, is) same = absurd (omega arith)
listed-some (q ∷ places) p a up (zero, less, is) same =
    let here : q ≡ p = is in
    ap (λ (o : FdePlace). cond (o.address == a) (Some o.index) (listed places a)) here
    ∙ (ap (λ n. cond (n == a) (Some p.index) (listed places a)) same ∙ ap (λ b. cond b (Some p.index) (listed places a)) (is-itself a))
listed-some (q ∷ places) p a up (suc k, less, is) same =
    let among : Contains places p = (k, omega (arith, less), is) in
    let above = all-above q.address places p up.0 among in
    ap (λ b. cond b (Some q.index) (listed places a)) (differs q.address a (λ here. omega (arith, above, here, same)))
    ∙ listed-some places p a up.1 among same

-- one more place after the others
pub listed-more : (places : List FdePlace) (address index a : ℕ) → listed places address ≡ None
    → listed (places ++ record { address = address; index = index } ∷ []) a ≡ added (listed places a) address index a
listed-more [] address index a none = refl
listed-more (p ∷ places) address index a none = go (p.address == a) (p.address == address) (listed-more places address index a) none
  where
    some-none : (x : ℕ) → Some x ≡ None → ⊥
    some-none x is = cc

    go : (b c : Bool) → (listed places address ≡ None
        → listed (places ++ record { address = address; index = index } ∷ []) a ≡ added (listed places a) address index a)
        → cond c (Some p.index) (listed places address) ≡ None
        → cond b (Some p.index) (listed (places ++ record { address = address; index = index } ∷ []) a)
        ≡ added (cond b (Some p.index) (listed places a)) address index a
    go true c more h = refl
    go false true more h = absurd (some-none p.index h)
    go false false more h = more h

-- ---- one more FDE

number-of : (n m : ℕ) → (n == m) ≡ true → n ≡ m
number-of n m is = grind (arith, nat_tests)

or-none : (x y : Option ℕ) → option_or x y ≡ None → (x ≡ None) × (y ≡ None)
or-none None y h = (refl, h)
or-none (Some n) y h = absurd cc

pub first-more : (f : Firsts) (address index a : ℕ) (new : List FdePlace)
    → new ≡ f.places ++ record { address = address; index = index } ∷ [] → first_in f address ≡ None
    → first_in (record { places = new; others = f.others }) a ≡ added (first_in f a) address index a
first-more f address index a new is none =
    let both = or-none (listed f.places address) (other address) none in
    ap (λ (l : List FdePlace). option_or (listed l a) (other a)) is
    ∙ (ap (λ o. option_or o (other a)) (listed-more f.places address index a both.0)
    ∙ go (listed f.places a) (other a) refl (address == a) refl both.1)
  where
    other : ℕ → Option ℕ
    other x = lookup (is_at (nat_cmp x)) f.others

    some-none : (x : ℕ) → Some x ≡ None → ⊥
    some-none x e = cc

    go : (l o : Option ℕ) → other a ≡ o → (b : Bool) → (address == a) ≡ b → other address ≡ None
        → option_or (added l address index a) o ≡ added (option_or l o) address index a
    go (Some x) o here b test empty = refl
    go None None here true test empty = ap (λ t. option_or (cond t (Some index) None) None) test ∙ ap (λ t. cond t (Some index) None) (sym test)
    go None None here false test empty = ap (λ t. option_or (cond t (Some index) None) None) test ∙ ap (λ t. cond t (Some index) None) (sym test)
    go None (Some y) here false test empty = ap (λ t. option_or (cond t (Some index) None) (Some y)) test
    go None (Some y) here true test empty =
        absurd (some-none y (sym here ∙ (ap other (sym (number-of address a test)) ∙ empty)))
