-- What parsing digits gives (`number_of` in specs/Addresses.antt).
use Rattle.std.proofs.Common.{◌≡◌, ℕ, zero, suc, ◌^◌, ◌<◌, ◌≤◌, ◌⊎◌, inl, inr, Bool, true, false, List, [], ◌∷◌, nat_lt, length, get_or}
use Rattle.std.proofs.Common.{ap, refl, arith}
use Rattle.std.specs.Prelude.{Some, None, ◌&&◌}
use Rattle.std.specs.List.{list_all}
use Rattle.std.specs.Char.{digit_value}
use Rattle.std.specs.Str.{IsAscii, IsUtf8}
use Rattle.std.proofs.lemmas.Str.{IsUtf8-from_ascii}
use Rattle.std.specs.Str.Parse.{AllDigits, digits_value, without_leading_plus}
use Rattle.dw_state.specs.Addresses.{number_of}
use Rattle.std.proofs.lemmas.Int.Digits.{digits_value-lt}
use Rattle.std.proofs.lemmas.Bool.Decides.{nat_tests}
use borrow.Author.Tests.{ltb-true, lt-ltb}
use Rattle.std.proofs.lemmas.Bool.{le-leb}
use Rattle.std.proofs.Math.Nat.{pow-le-pow_right, pow-le-pow_left}

both : (a b : Bool) → (a && b) ≡ true → (a ≡ true) × (b ≡ true)
both true b h = (refl, h)
both false b h = cc

digits_from_test : (r : ℕ) (ds : List ℕ) → list_all (λ c. nat_lt (digit_value c) r) ds ≡ true → AllDigits r ds
digits_from_test r [] h = tt
digits_from_test r (c ∷ cs) h = let p = both (nat_lt (digit_value c) r) (list_all (λ c. nat_lt (digit_value c) r) cs) h in
    (ltb-true (digit_value c) r p.0, digits_from_test r cs p.1)

test_from_digits : (r : ℕ) (ds : List ℕ) → AllDigits r ds → list_all (λ c. nat_lt (digit_value c) r) ds ≡ true
test_from_digits r [] h = refl
test_from_digits r (c ∷ cs) h = rw (lt-ltb (digit_value c) r h.0) (test_from_digits r cs h.1)

pub digits_fit : (r : ℕ) (ds : List ℕ) → 0 < r → r ≤ 16 → AllDigits r ds → length ds ≤ 16 → digits_value r ds < 2 ^ 64
digits_fit r ds some small h l =
    let wide : r ^ length ds ≤ r ^ 16 = pow-le-pow_right (omega arith) l in
    let big : r ^ 16 ≤ 16 ^ 16 = pow-le-pow_left small 16 in
    omega (arith, digits_value-lt r ds h)

none_wrong : (r : ℕ) (ds : List ℕ) → (AllDigits r ds → ⊥) → list_all (λ c. nat_lt (digit_value c) r) ds ≡ false
none_wrong r ds bad = go (list_all (λ c. nat_lt (digit_value c) r) ds) refl
  where
    go : (b : Bool) → list_all (λ c. nat_lt (digit_value c) r) ds ≡ b → b ≡ false
    go true e = absurd (bad (digits_from_test r ds e))
    go false e = refl

pub no_plus : (ds : List ℕ) → (get_or ds 0 0 ≡ 43 → ⊥) → without_leading_plus ds ≡ ds
no_plus ds h = grind (arith, nat_tests)

-- if there are 1 to `most` bytes, all of them digits, `number_of` gives their number
pub read_ok : (r most : ℕ) (ds : List ℕ) (n : ℕ) → 0 < length ds → length ds ≤ most → AllDigits r ds → n ≡ digits_value r ds
    → Some n ≡ number_of r most ds
read_ok r most ds n some short all e = rw (lt-ltb 0 (length ds) some, le-leb (length ds) most short, test_from_digits r ds all) (ap Some e)

-- if there are 1 to `most` bytes, not all of them digits, `number_of` gives None
pub read_none : (r most : ℕ) (ds : List ℕ) → 0 < length ds → length ds ≤ most → (AllDigits r ds → ⊥) → None ≡ number_of r most ds
read_none r most ds some short bad = rw (lt-ltb 0 (length ds) some, le-leb (length ds) most short, none_wrong r ds bad) refl

-- digits of a radix up to 16 are ASCII
ascii_digit : (c : ℕ) → digit_value c < 16 → c < 128
ascii_digit c h = grind (arith, nat_tests)

ascii_digits : (r : ℕ) (ds : List ℕ) → r ≤ 16 → AllDigits r ds → IsAscii ds
ascii_digits r [] small h i = omega arith
ascii_digits r (c ∷ cs) small h zero = ascii_digit c (omega (arith, h.0))
ascii_digits r (c ∷ cs) small h (suc i) = ascii_digits r cs small h.1 i

pub digits_are_text : (r : ℕ) (ds : List ℕ) → r ≤ 16 → AllDigits r ds → IsUtf8 ds
digits_are_text r ds small h = IsUtf8-from_ascii ds (ascii_digits r ds small h)

pub radix_small : (r : ℕ) → (r ≡ 10) ⊎ (r ≡ 16) → (0 < r) × (r ≤ 16)
radix_small r (inl h) = (omega (arith, h), omega (arith, h))
radix_small r (inr h) = (omega (arith, h), omega (arith, h))
