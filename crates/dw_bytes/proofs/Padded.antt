-- A format placeholder that pads with zeros writes the hex digits of a number.
use Rattle.std.proofs.Common.{◌≡◌, ℕ, zero, suc, ◌+◌, ◌-◌, ◌*◌, ◌/◌, ◌%◌, ◌^◌, ◌<◌, ◌≤◌, List, [], ◌∷◌, ◌++◌, false, length}
use Rattle.std.proofs.Common.{replicate, ap, ap₂}
use Rattle.std.proofs.Common.{sym, ◌∙◌, refl, arith, length-append, ◌⊎◌, inl, inr}
use Rattle.std.proofs.lemmas.List.{append_assoc, append-nil, length-replicate}
use Rattle.std.proofs.Math.Nat.{pow-suc}
use Rattle.std.proofs.Math.Arith.{mod-mul}
use Rattle.std.proofs.lemmas.Bool.Decides.{nat_tests}
use Rattle.std.specs.Fmt.{digits, digits_onto, digit_glyph, char_count, padded_integral, format_spec}
use Rattle.std.specs.Prelude.{if◌then◌else◌, ◌==◌}
use Rattle.dw_bytes.specs.Text.{hex_digits, digit}

zeros_push : (k : ℕ) → ◌++◌ {A = ℕ} (replicate k 48) (48 ∷ []) ≡ replicate (suc k) 48
zeros_push zero = refl
zeros_push (suc k) = ap (λ (l : List ℕ). 48 ∷ l) (zeros_push k)

hex_zero : (k : ℕ) → hex_digits k 0 ≡ replicate k 48
unfolding hex_digits
hex_zero zero = refl
hex_zero (suc k) = ap (λ (l : List ℕ). l ++ 48 ∷ []) (hex_zero k) ∙ zeros_push k

hex_step : (k n : ℕ) (acc : List ℕ) → hex_digits (suc k) n ++ acc ≡ hex_digits k (n / 16) ++ (digit (n % 16) ∷ acc)
unfolding hex_digits
hex_step k n acc = append_assoc (hex_digits k (n / 16)) (digit (n % 16) ∷ []) acc

pub length-hex : (k n : ℕ) → length (hex_digits k n) ≡ k
unfolding hex_digits
length-hex zero n = refl
length-hex (suc k) n = length-append (hex_digits k (n / 16)) (digit (n % 16) ∷ []) ∙ let e = length-hex k (n / 16) in omega (arith, e)

-- the j + 1 hex digits of n are some zeros, and then the digits of n without padding
abbrev Past : ℕ → ℕ → ℕ → List ℕ → Type 0
Past j k n acc = (p : ℕ) × (hex_digits (suc j) n ++ acc ≡ replicate p 48 ++ digits_onto k 16 false n acc)

chosen_first : (q : ℕ) (x y : List ℕ) → q ≡ 0 → (if q == 0 then x else y) ≡ x
chosen_first zero x y h = refl
chosen_first (suc q) x y h = absurd (omega arith)

chosen_second : (q : ℕ) (x y : List ℕ) → 0 < q → (if q == 0 then x else y) ≡ y
chosen_second zero x y h = absurd (omega arith)
chosen_second (suc q) x y h = grind (arith, nat_tests)

zero_or_more : (q : ℕ) → (q ≡ 0) ⊎ (0 < q)
zero_or_more zero = inl refl
zero_or_more (suc q) = inr (omega arith)

last_past : (j k n : ℕ) (acc : List ℕ) → n / 16 ≡ 0 → Past j (suc k) n acc
last_past j k n acc none = (
  j,
  hex_step j n acc ∙ ap (λ (q : ℕ). hex_digits j q ++ (digit (n % 16) ∷ acc)) none
      ∙ ap (λ (l : List ℕ). l ++ (digit (n % 16) ∷ acc)) (hex_zero j)
      ∙ ap (λ (l : List ℕ). replicate j 48 ++ l)
      (sym (chosen_first (n / 16) (digit_glyph false (n % 16) ∷ acc)
      (digits_onto k 16 false (n / 16) (digit_glyph false (n % 16) ∷ acc)) none)),
)

padded_onto : (j k n : ℕ) (acc : List ℕ) → n < 16 ^ suc j → suc j ≤ k → Past j k n acc
padded_onto j zero n acc h l = absurd (omega arith)
padded_onto zero (suc k) n acc h l = last_past zero k n acc (omega arith)
padded_onto (suc j) (suc k) n acc h l = elim (zero_or_more (n / 16)) [
  | inl none ↦ last_past (suc j) k n acc none
  | inr more ↦
      let smaller : n / 16 < 16 ^ suc j = omega (arith, pow-suc 16 (suc j)) in
      let rest = padded_onto j k (n / 16) (digit (n % 16) ∷ acc) smaller (omega arith) in (
        rest.0,
        hex_step (suc j) n acc ∙ rest.1
            ∙ ap (λ (l : List ℕ). replicate rest.0 48 ++ l)
            (sym (chosen_second (n / 16) (digit_glyph false (n % 16) ∷ acc)
            (digits_onto k 16 false (n / 16) (digit_glyph false (n % 16) ∷ acc)) more)),
      )
]

padded_is : (k : ℕ) (ds : List ℕ) → padded_integral (format_spec 32 0 4 k (2 ^ 64 - 1)) false [] ds ≡ replicate (k - length ds) 48 ++ ds
unfolding padded_integral char_count
padded_is k ds =
    let e : k - length ds - 0 - 0 ≡ k - length ds = omega arith in
    ap (λ (m : ℕ). replicate m 48 ++ (ds ++ [])) e ∙ ap (λ (l : List ℕ). replicate (k - length ds) 48 ++ l) (append-nil ds)

pub hex_padded : (j n : ℕ) → j < 16 → n < 16 ^ suc j
    → padded_integral (format_spec 32 0 4 (suc j) (2 ^ 64 - 1)) false [] (digits 16 false n) ≡ hex_digits (suc j) n
unfolding digits
hex_padded j n l small =
    let found = padded_onto j 64 n [] small (omega arith) in
    let ds = digits_onto 64 16 false n [] in
    let e : hex_digits (suc j) n ≡ replicate found.0 48 ++ ds = sym (append-nil (hex_digits (suc j) n)) ∙ found.1 in
    let lengths : suc j ≡ found.0 + length ds = sym (length-hex (suc j) n) ∙ ap length e ∙ length-append (replicate found.0 48) ds
    ∙ ap (λ (m : ℕ). m + length ds) (length-replicate found.0 48) in
    let gap : suc j - length ds ≡ found.0 = omega arith in
    padded_is (suc j) ds ∙ ap (λ (m : ℕ). replicate m 48 ++ ds) gap ∙ sym e

sixteens : (k : ℕ) → 0 < 16 ^ k
sixteens zero = omega arith
sixteens (suc k) = omega (arith, pow-suc 16 k, sixteens k)

-- n and n modulo 16 ^ k have the same last k hex digits
pub hex_last : (k n m : ℕ) → m ≡ n % 16 ^ k → hex_digits k m ≡ hex_digits k n
unfolding hex_digits
hex_last zero n m e = refl
hex_last (suc k) n m e =
    let some : 0 < 16 ^ k = sixteens k in
    let cut : n % (16 ^ k * 16) ≡ (n / 16 % 16 ^ k) * 16 + n % 16 = mod-mul n {m = 16 ^ k} {c = 16} some (omega arith) in
    let same : m ≡ (n / 16 % 16 ^ k) * 16 + n % 16 = e ∙ ap (λ (p : ℕ). n % p) (pow-suc 16 k) ∙ cut in
    let rest : m / 16 ≡ n / 16 % 16 ^ k = omega (arith, same) in
    let last : m % 16 ≡ n % 16 = omega (arith, same) in
    ap₂ (λ (l : List ℕ) (d : ℕ). l ++ digit d ∷ []) (hex_last k (n / 16) (m / 16) rest) last
