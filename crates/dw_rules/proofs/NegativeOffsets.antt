-- GNU_negative_offset_extended: its instruction of DWARF saves the register at the negated offset, or
-- is out of range just as that offset is.
use Rattle.std.proofs.Common.{◌≡◌, ℕ, zero, suc, ◌*◌, ◌^◌, ◌<◌, ◌⊎◌, inl, inr, Bool, true, false, cond, sym, refl, ap, ◌∙◌, arith}
use Rattle.std.proofs.Math.Nat.{mul-zero, zero-mul, le-mul_of_pos_right}
use Rattle.std.proofs.lemmas.Bool.{leb-false, le-ltb, true≢false}
use Rattle.std.specs.Prelude.{ℤ, pos, negsuc, neg_ℤ, ◌*ℤ◌, nat_le, not}
use Rattle.dw_bytes.specs.Reading.{fits_i64}
use Rattle.dw_frame.specs.Codes.{negative_offset}
use Rattle.dw_frame.specs.Instructions.{Instruction, offset_extended, offset_extended_sf}
use Rattle.dw_frame.specs.Records.{Cie}
use Rattle.dw_rules.specs.Effects.{Effect, sets, data_aligned, effect_of, overflows}
use Rattle.dw_rules.specs.Rules.{RuleOver}

neg-neg : (m : ℕ) → neg_ℤ (neg_ℤ (pos m)) ≡ pos m
neg-neg zero = refl
neg-neg (suc m) = refl

-- the negation of a number times another is the negated product
neg-times : (n : ℕ) (k : ℤ) → neg_ℤ (pos n) *ℤ k ≡ neg_ℤ (pos n *ℤ k)
neg-times zero (pos k) = ap pos (zero-mul k) ∙ sym (ap (λ m. neg_ℤ (pos m)) (zero-mul k))
neg-times zero (negsuc k) = ap (λ m. neg_ℤ (pos m)) (zero-mul (suc k)) ∙ sym (ap (λ m. neg_ℤ (neg_ℤ (pos m))) (zero-mul (suc k)))
neg-times (suc n) (pos k) = refl
neg-times (suc n) (negsuc k) = sym (neg-neg (suc n * suc k))

-- neither a number nor its negation fits in 64 bits
abbrev IsLarge : ℤ → Type 0
IsLarge k = (fits_i64 k ≡ false) × (fits_i64 (neg_ℤ k) ≡ false)

large : (m : ℕ) → 2 ^ 63 < m → IsLarge (pos m)
large zero h = absurd (omega (arith, h))
large (suc m) h = (le-ltb (suc m) (2 ^ 63) (omega (arith, h)), le-ltb m (2 ^ 63) (omega (arith, h)))

large-negated : (m : ℕ) → 2 ^ 63 < m → IsLarge (neg_ℤ (pos m))
large-negated m h = let is = large m h in (is.1, ap fits_i64 (neg-neg m) ∙ is.0)

-- a number above 2^63 times another: the product is 0, or large
product : (n : ℕ) (k : ℤ) → 2 ^ 63 < n → (pos n *ℤ k ≡ neg_ℤ (pos n *ℤ k)) ⊎ IsLarge (pos n *ℤ k)
product n (pos zero) h = inl (ap pos (mul-zero n) ∙ sym (ap (λ m. neg_ℤ (pos m)) (mul-zero n)))
product n (pos (suc k)) h = inr (large (n * suc k) (omega (arith, h, le-mul_of_pos_right {m = suc k} n (omega arith))))
product n (negsuc k) h = inr (large-negated (n * suc k) (omega (arith, h, le-mul_of_pos_right {m = suc k} n (omega arith))))

-- what GNU_negative_offset_extended does
abbrev negated : Cie → ℕ → ℕ → Effect
negated cie r n = sets r (RuleOver.offset (neg_ℤ (data_aligned cie n)))

abbrev IsNegated : Cie → ℕ → ℕ → Instruction → Type 0
IsNegated cie r n i = (overflows (effect_of cie i) ≡ overflows (negated cie r n))
    × (overflows (effect_of cie i) ≡ false → effect_of cie i ≡ negated cie r n)

small : (cie : Cie) (r n : ℕ) → IsNegated cie r n (offset_extended_sf r (neg_ℤ (pos n)))
small cie r n =
    let same = ap (λ k. sets r (RuleOver.offset k)) (neg-times n cie.data_alignment_factor) in
    (ap overflows same, λ h. same)

past : (cie : Cie) (r n : ℕ) → (pos n *ℤ cie.data_alignment_factor ≡ neg_ℤ (pos n *ℤ cie.data_alignment_factor))
    ⊎ IsLarge (pos n *ℤ cie.data_alignment_factor) → IsNegated cie r n (offset_extended r n)
past cie r n (inl zero_is) =
    let same = ap (λ k. sets r (RuleOver.offset k)) zero_is in
    (ap overflows same, λ h. same)
past cie r n (inr (is_large, also)) =
    (ap not is_large ∙ sym (ap not also), λ h. absurd (true≢false (sym (ap not is_large) ∙ h)))

by-size : (cie : Cie) (r n : ℕ) (b : Bool) → nat_le n (2 ^ 63) ≡ b
    → IsNegated cie r n (cond b (offset_extended_sf r (neg_ℤ (pos n))) (offset_extended r n))
by-size cie r n true is = small cie r n
by-size cie r n false is = past cie r n (product n cie.data_alignment_factor (leb-false n (2 ^ 63) is))

is-negated : (cie : Cie) (r n : ℕ) → IsNegated cie r n (negative_offset r n)
is-negated cie r n = by-size cie r n (nat_le n (2 ^ 63)) refl

pub overflows-alike : (cie : Cie) (r n : ℕ) → overflows (effect_of cie (negative_offset r n))
    ≡ overflows (sets r (RuleOver.offset (neg_ℤ (data_aligned cie n))))
overflows-alike cie r n = (is-negated cie r n).0

pub saves-negated : (cie : Cie) (r n : ℕ) → overflows (effect_of cie (negative_offset r n)) ≡ false
    → effect_of cie (negative_offset r n) ≡ sets r (RuleOver.offset (neg_ℤ (data_aligned cie n)))
saves-negated cie r n = (is-negated cie r n).1
