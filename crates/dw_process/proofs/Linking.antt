-- Lemmas about addresses as linked and as loaded.
use Rattle.std.proofs.Common.{◌≡◌, ℕ, zero, suc, ◌+◌, ◌-◌, ◌*◌, ◌/◌, ◌%◌, ◌^◌, ◌<◌, ◌≤◌, pos, inl, inr, refl, sym, subst, ap, ◌∙◌, arith}
use Rattle.std.specs.Prelude.{◌⊎◌, ◌-ℤ◌, ◌+ℤ◌, unsigned_abs}
use Rattle.std.proofs.Math.Nat.{mod-eq_of_lt, add-mod-mod, mod-add-mod, mod-add-div', add-mul-mod_self_right, add-mod_right}
use Rattle.std.proofs.lemmas.Bool.{cases_lt}
use Rattle.std.proofs.lemmas.Int.{int_rem_euclid_is, ints}
use Rattle.std.proofs.lemmas.Nat.{mod_below, pow_pos}
use Rattle.dw_bytes.specs.declared.target.Target.{Target}
use Rattle.dw_eval.specs.Numbers.{width_of, wrap}
use Rattle.dw_unwind.specs.Modules.{as_linked}

-- ---- the address as linked, without negative numbers

at_least : (load m : ℕ) → 0 < m → load ≤ load * m
at_least load zero lt = absurd (omega (arith, lt))
at_least load (suc m) lt = let e : load * suc m ≡ load + load * m = grind arith in omega (arith, e)

-- a number that is added in place of subtracting the load address
abbrev turn : ℕ → ℕ → ℕ
turn w load = load * 2 ^ w - load

linked_is : (w load a : ℕ) → wrap w (pos a -ℤ pos load) ≡ (a + turn w load) % 2 ^ w
linked_is w load a = ap unsigned_abs
    (int_rem_euclid_is (pos a -ℤ pos load) (pos (2 ^ w)) (2 ^ w) load (a + (load * 2 ^ w - load)) (pow_pos w) refl
    (shifted (load * 2 ^ w) (at_least load (2 ^ w) (pow_pos w))))
  where
    shifted : (p : ℕ) → load ≤ p → pos a -ℤ pos load +ℤ pos p ≡ pos (a + (p - load))
    shifted p le = omega (arith, ints, le)

-- ---- from linked to loaded and back

-- the address 0 as linked
origin_is : (w load : ℕ) → wrap w (pos 0 -ℤ pos load) ≡ (load * 2 ^ w - load) % 2 ^ w
origin_is w load = let e : 0 + (load * 2 ^ w - load) ≡ load * 2 ^ w - load = omega arith in
    linked_is w load 0 ∙ ap (λ (n : ℕ). n % 2 ^ w) e

module _ (w load : ℕ) where
  -- the two numbers that are added, there and back, are a multiple of 2^w together
  turns : (k o m : ℕ) → 0 < m → k % m ≡ o → o * m - o + k ≡ (o + k / m) * m
  turns k o m some is =
      let whole = mod-add-div' k m in
      let le = at_least o m some in
      let e : (o + k / m) * m ≡ o * m + k / m * m = grind arith in
      omega (arith, whole, le, e, is)

  pub back : (a : ℕ) → a < 2 ^ w → wrap w (pos (wrap w (pos a -ℤ pos (wrap w (pos 0 -ℤ pos load)))) -ℤ pos load) ≡ a
  back a lt =
      let m = 2 ^ w in
      let o = wrap w (pos 0 -ℤ pos load) in
      let k = load * 2 ^ w - load in
      let there : wrap w (pos a -ℤ pos o) ≡ (a + (o * m - o)) % m = linked_is w o a in
      let both = turns k o m (pow_pos w) (sym (origin_is w load)) in
      linked_is w load (wrap w (pos a -ℤ pos o))
      ∙ ap (λ (n : ℕ). (n + k) % m) there
      ∙ mod-add-mod (a + (o * m - o)) m k
      ∙ ap (λ (n : ℕ). n % m) (sum_is a (o * m - o) k ((o + k / m) * m) both)
      ∙ add-mul-mod_self_right a (o + k / m) m
      ∙ mod-eq_of_lt lt
    where
      sum_is : (a b c d : ℕ) → b + c ≡ d → a + b + c ≡ a + d
      sum_is a b c d is = omega (arith, is)

  pub wrap_less : (a : ℕ) → wrap w (pos a -ℤ pos load) < 2 ^ w
  wrap_less a = subst (λ (n : ℕ). n < 2 ^ w) (sym (linked_is w load a)) (mod_below (a + turn w load) (2 ^ w) (pow_pos w))

  -- the address as linked is the address plus a fixed number below 2^w, less 2^w where that is
  -- needed
  pub two_ways : (a : ℕ) → a < 2 ^ w → (wrap w (pos a -ℤ pos load) ≡ a + wrap w (pos 0 -ℤ pos load))
      ⊎ (wrap w (pos a -ℤ pos load) + 2 ^ w ≡ a + wrap w (pos 0 -ℤ pos load))
  two_ways a lt =
      let m = 2 ^ w in
      let k = load * 2 ^ w - load in
      let o = wrap w (pos 0 -ℤ pos load) in
      let is : wrap w (pos a -ℤ pos load) ≡ (a + o) % m = linked_is w load a ∙ sym (add-mod-mod a k m) ∙ ap (λ (n : ℕ). (a + n) % m) (sym (origin_is w load)) in
      let below : o < m = subst (λ (n : ℕ). n < m) (sym (origin_is w load)) (mod_below k m (pow_pos w)) in
      elim (cases_lt (a + o) m) [
        | inl small ↦ inl (is ∙ mod-eq_of_lt small)
        | inr big ↦ inr (once a o m is lt below big)
      ]
    where
      once : (a o m : ℕ) → wrap w (pos a -ℤ pos load) ≡ (a + o) % m → a < m → o < m → m ≤ a + o → wrap w (pos a -ℤ pos load) + m ≡ a + o
      once a o m is la lo big =
          let e : a + o - m + m ≡ a + o = omega (arith, big) in
          let r : (a + o) % m ≡ a + o - m = ap (λ (n : ℕ). n % m) (sym e) ∙ add-mod_right (a + o - m) m ∙ mod-eq_of_lt (less a o m la lo big) in
          omega (arith, is, r, big)
        where
          less : (a o m : ℕ) → a < m → o < m → m ≤ a + o → a + o - m < m
          less a o m la lo big = omega (arith, la, lo, big)

-- ---- an address in a range, as linked, is in the range as loaded

pub in_loaded : (target : Target) (load first last a : ℕ) → first ≤ last → last < 2 ^ width_of target.address_size
    → a < 2 ^ width_of target.address_size → as_linked target load first ≤ as_linked target load a
    → as_linked target load a ≤ as_linked target load last → (first ≤ a) × (a ≤ last)
in_loaded target load first last a order fits_last fits low high =
    let w = width_of target.address_size in
    by (as_linked target load first) (as_linked target load a) (as_linked target load last) (as_linked target load 0) (2 ^ w)
    (two_ways w load first (omega (arith, order, fits_last))) (two_ways w load a fits) (two_ways w load last fits_last) low high
    (wrap_less w load first) (wrap_less w load last) (wrap_less w load a) fits_last fits
  where
    by : (f x l o m : ℕ) → (f ≡ first + o) ⊎ (f + m ≡ first + o) → (x ≡ a + o) ⊎ (x + m ≡ a + o) → (l ≡ last + o) ⊎ (l + m ≡ last + o)
        → f ≤ x → x ≤ l → f < m → l < m → x < m → last < m → a < m → (first ≤ a) × (a ≤ last)
    by f x l o m (inl p) (inl q) (inl r) fx xl ff lf xf lm am = (omega (arith, p, q, r, fx, xl, ff, lf, xf, lm, am, order), omega (arith, p, q, r, fx, xl, ff, lf, xf, lm, am, order))
    by f x l o m (inl p) (inl q) (inr r) fx xl ff lf xf lm am = (omega (arith, p, q, r, fx, xl, ff, lf, xf, lm, am, order), omega (arith, p, q, r, fx, xl, ff, lf, xf, lm, am, order))
    by f x l o m (inl p) (inr q) (inl r) fx xl ff lf xf lm am = (omega (arith, p, q, r, fx, xl, ff, lf, xf, lm, am, order), omega (arith, p, q, r, fx, xl, ff, lf, xf, lm, am, order))
    by f x l o m (inl p) (inr q) (inr r) fx xl ff lf xf lm am = (omega (arith, p, q, r, fx, xl, ff, lf, xf, lm, am, order), omega (arith, p, q, r, fx, xl, ff, lf, xf, lm, am, order))
    by f x l o m (inr p) (inl q) (inl r) fx xl ff lf xf lm am = (omega (arith, p, q, r, fx, xl, ff, lf, xf, lm, am, order), omega (arith, p, q, r, fx, xl, ff, lf, xf, lm, am, order))
    by f x l o m (inr p) (inl q) (inr r) fx xl ff lf xf lm am = (omega (arith, p, q, r, fx, xl, ff, lf, xf, lm, am, order), omega (arith, p, q, r, fx, xl, ff, lf, xf, lm, am, order))
    by f x l o m (inr p) (inr q) (inl r) fx xl ff lf xf lm am = (omega (arith, p, q, r, fx, xl, ff, lf, xf, lm, am, order), omega (arith, p, q, r, fx, xl, ff, lf, xf, lm, am, order))
    by f x l o m (inr p) (inr q) (inr r) fx xl ff lf xf lm am = (omega (arith, p, q, r, fx, xl, ff, lf, xf, lm, am, order), omega (arith, p, q, r, fx, xl, ff, lf, xf, lm, am, order))
