-- The hex text of a number's bytes, the most significant byte first, is the number in hex digits.
use Rattle.std.proofs.Common.{◌≡◌, ℕ, zero, suc, ◌*◌, ◌/◌, ◌%◌, ◌^◌, ◌<◌, ◌==◌, inl, inr, Bool, true, List, [], ◌∷◌, ◌++◌}
use Rattle.std.proofs.Common.{ap, ap₂, sym, ◌∙◌, refl, arith}
use Rattle.std.specs.Prelude.{◌&&◌, slice_index, nat_lt}
use Rattle.std.specs.Int.{w32, w64, bytes_high_first, byte_at, to_be_bytes}
use Rattle.std.proofs.Math.Nat.{pow-suc, pow-succ', div-div-eq-div-mul, div-one}
use Rattle.std.specs.Str.{IsAscii, IsUtf8}
use Rattle.std.specs.List.{list_all}
use Rattle.std.proofs.lemmas.Bool.{and_parts, cases_lt, eqb-true, ltb-true}
use Rattle.std.proofs.lemmas.Str.{IsUtf8-from_ascii}
use Rattle.std.proofs.lemmas.Str.Ascii.{IsAscii-nil, IsAscii-cons}
use Rattle.hex.specs.Hex.{encode_with, encode_lower, lower_digits}
use Rattle.hex.proofs.HexLemmas.{IsAscii-encode_with}
use Rattle.dw_bytes.specs.Text.{hex_digits, digit}

-- the most significant digit comes first
first_digit : (k n : ℕ) → hex_digits (suc k) n ≡ digit (n / 16 ^ k % 16) ∷ hex_digits k n
unfolding hex_digits
first_digit zero n = ap (λ (q : ℕ). digit (q % 16) ∷ []) (sym (div-one n))
first_digit (suc k) n =
    ap (λ (l : List ℕ). l ++ digit (n % 16) ∷ []) (first_digit k (n / 16))
    ∙ ap (λ (q : ℕ). digit (q % 16) ∷ hex_digits (suc k) n)
    (div-div-eq-div-mul n 16 (16 ^ k) ∙ ap (λ (p : ℕ). n / p) (sym (pow-succ' 16 k)))

-- for each number below k, `hex` (`lower_digits`) has the same digit as the definition `digit`
abbrev agree : ℕ → Bool
agree zero = true
agree (suc k) = (slice_index lower_digits k == digit k) && agree k

agree_below : (k d : ℕ) → agree k ≡ true → d < k → slice_index lower_digits d ≡ digit d
agree_below zero d h l = absurd (omega (arith, l))
agree_below (suc k) d h l =
    let p = and_parts (slice_index lower_digits k == digit k) (agree k) h in
    elim (cases_lt d k) [
      | inl less ↦ agree_below k d p.1 less
      | inr last ↦
          let e : d ≡ k = omega (arith, l, last) in
          rw e (eqb-true (slice_index lower_digits k) (digit k) p.0)
    ]

same_digit : (d : ℕ) → d < 16 → slice_index lower_digits d ≡ digit d
same_digit d l = agree_below 16 d refl l

abbrev twice : ℕ → ℕ
twice zero = zero
twice (suc k) = suc (suc (twice k))

twice_power : (k : ℕ) → 16 ^ twice k ≡ 256 ^ k
twice_power zero = refl
twice_power (suc k) =
    pow-suc 16 (suc (twice k)) ∙ ap (λ (p : ℕ). p * 16) (pow-suc 16 (twice k))
    ∙ (let e = twice_power k in let s = pow-suc 256 k in omega (arith, e, s))

byte_is : (k n : ℕ) → byte_at k n ≡ n / 256 ^ k % 256
byte_is zero n = ap (λ (q : ℕ). q % 256) (sym (div-one n))
byte_is (suc k) n = refl

-- the high four bits of byte k, counted from the least significant one, are hex digit 2k + 1
high_digit : (k n : ℕ) → byte_at k n / 16 ≡ n / 16 ^ suc (twice k) % 16
high_digit k n =
    let power : 16 ^ suc (twice k) ≡ 256 ^ k * 16 = pow-suc 16 (twice k) ∙ ap (λ (p : ℕ). p * 16) (twice_power k) in
    let parts : n / 16 ^ suc (twice k) ≡ n / 256 ^ k / 16 = ap (λ (p : ℕ). n / p) power ∙ sym (div-div-eq-div-mul n (256 ^ k) 16) in
    ap (λ (b : ℕ). b / 16) (byte_is k n) ∙ (omega (arith)) ∙ ap (λ (p : ℕ). p % 16) (sym parts)

-- the low four bits of byte k, counted from the least significant one, are hex digit 2k
low_digit : (k n : ℕ) → byte_at k n % 16 ≡ n / 16 ^ twice k % 16
low_digit k n =
    ap (λ (b : ℕ). b % 16) (byte_is k n) ∙ (omega (arith)) ∙ ap (λ (p : ℕ). n / p % 16) (sym (twice_power k))

hex_none : (n : ℕ) → [] ≡ hex_digits 0 n
unfolding hex_digits
hex_none n = refl

-- the hex text of the k low bytes of a number is its 2k low hex digits
pub hex_of_bytes : (k n : ℕ) → encode_with lower_digits (bytes_high_first k n) ≡ hex_digits (twice k) n
unfolding encode_with
hex_of_bytes zero n = hex_none n
hex_of_bytes (suc k) n =
    ap₂ (λ (a : ℕ) (l : List ℕ). a ∷ l) (same_digit (byte_at k n / 16) (below_16 k n) ∙ ap digit (high_digit k n))
    (ap₂ (λ (a : ℕ) (l : List ℕ). a ∷ l) (same_digit (byte_at k n % 16) (omega arith) ∙ ap digit (low_digit k n)) (hex_of_bytes k n)
    ∙ sym (first_digit (twice k) n))
    ∙ sym (first_digit (suc (twice k)) n)
  where
    below_16 : (k n : ℕ) → byte_at k n / 16 < 16
    below_16 k n = let e = byte_is k n in omega (arith, e)

ascii_from_test : (bs : List ℕ) → list_all (λ b. nat_lt b 128) bs ≡ true → IsAscii bs
ascii_from_test [] h = IsAscii-nil
ascii_from_test (b ∷ bs) h =
    let p = and_parts (nat_lt b 128) (list_all (λ b. nat_lt b 128) bs) h in
    IsAscii-cons b bs (ltb-true b 128 p.0) (ascii_from_test bs p.1)

ascii_digits : IsAscii lower_digits
ascii_digits = ascii_from_test lower_digits refl

-- an even number of hex digits is valid UTF-8
text_of : (k n : ℕ) → IsUtf8 (hex_digits (twice k) n)
text_of k n =
    rw (sym (hex_of_bytes k n))
    (IsUtf8-from_ascii (encode_lower (bytes_high_first k n))
    (IsAscii-encode_with lower_digits (bytes_high_first k n) ascii_digits))

pub short_digits : (n : ℕ) → encode_lower (to_be_bytes w32 n) ≡ hex_digits 8 n
short_digits n = hex_of_bytes 4 n

pub long_digits : (n : ℕ) → encode_lower (to_be_bytes w64 n) ≡ hex_digits 16 n
long_digits n = hex_of_bytes 8 n

pub short_text : (n : ℕ) → IsUtf8 (hex_digits 8 n)
short_text n = text_of 4 n

pub long_text : (n : ℕ) → IsUtf8 (hex_digits 16 n)
long_text n = text_of 8 n
