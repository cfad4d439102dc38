-- Reading `n` bytes of memory with one known block gives a part of the block, or none if a byte is
-- outside.
use Rattle.std.proofs.Common.{◌≡◌, ℕ, zero, suc, ◌+◌, ◌-◌, ◌<◌, ◌≤◌, List, length, take, drop, get_or, Option, None, Some, true, false, nat_le}
use Rattle.std.proofs.Common.{refl, sym, ap, ap₂, ◌∙◌, arith, drop-cons}
use Rattle.std.proofs.lemmas.Option.{slice_get-get_or, slice_get_past}
use Rattle.std.proofs.lemmas.Bool.Decides.{nat_tests}
use Rattle.std.specs.Prelude.{slice_get}
use Rattle.dw_eval.specs.World.{bytes_from, prepend_if_known}
use Rattle.dw_eval.specs.MemoryBlocks.{block_byte}

module _ (base : ℕ) (bytes : List ℕ) where
  byte_at : (i : ℕ) → block_byte base bytes (base + i) ≡ slice_get bytes i
  byte_at i =
      let above : nat_le base (base + i) ≡ true = grind (arith, nat_tests) in
      let place : base + i - base ≡ i = omega arith in
      rw (above, place) refl

  below : (a : ℕ) → a < base → block_byte base bytes a ≡ None
  below a lt = let under : nat_le base a ≡ false = grind (arith, nat_tests, lt) in rw under refl

  pub window_in : (n i : ℕ) → i + n ≤ length bytes → bytes_from (block_byte base bytes) (base + i) n ≡ Some (take n (drop i bytes))
  unfolding bytes_from
  window_in zero i le = refl
  window_in (suc n) i le =
      let here : block_byte base bytes (base + i) ≡ Some (get_or bytes i 0) =
      byte_at i ∙ slice_get-get_or bytes i 0 (omega (arith, le)) in
      let next : base + i + 1 ≡ base + suc i = omega arith in
      let rest : bytes_from (block_byte base bytes) (base + i + 1) n ≡ Some (take n (drop (suc i) bytes)) =
      ap (λ (a : ℕ). bytes_from (block_byte base bytes) a n) next ∙ window_in n (suc i) (omega (arith, le)) in
      ap₂ prepend_if_known here rest
      ∙ ap (λ (l : List ℕ). Some (take (suc n) l)) (sym (drop-cons bytes i 0 (omega (arith, le))))

  no_first : (a n : ℕ) → block_byte base bytes a ≡ None → bytes_from (block_byte base bytes) a (suc n) ≡ None
  unfolding bytes_from
  no_first a n none = ap (λ (o : Option ℕ). prepend_if_known o (bytes_from (block_byte base bytes) (a + 1) n)) none

  no_rest : (o : Option ℕ) → prepend_if_known o None ≡ None
  no_rest None = refl
  no_rest (Some x) = refl

  pub window_past : (n i : ℕ) → 1 ≤ n → length bytes < i + n → bytes_from (block_byte base bytes) (base + i) n ≡ None
  unfolding bytes_from
  window_past zero i some lt = absurd (omega (arith, some))
  window_past (suc zero) i some lt =
      no_first (base + i) zero (byte_at i ∙ slice_get_past bytes i (omega (arith, lt)))
  window_past (suc (suc n)) i some lt =
      let next : base + i + 1 ≡ base + suc i = omega arith in
      let rest : bytes_from (block_byte base bytes) (base + i + 1) (suc n) ≡ None =
      ap (λ (a : ℕ). bytes_from (block_byte base bytes) a (suc n)) next ∙ window_past (suc n) (suc i) (omega arith) (omega (arith, lt)) in
      ap (prepend_if_known (block_byte base bytes (base + i))) rest ∙ no_rest (block_byte base bytes (base + i))

  pub window_below : (n a : ℕ) → 1 ≤ n → a < base → bytes_from (block_byte base bytes) a n ≡ None
  window_below zero a some lt = absurd (omega (arith, some))
  window_below (suc n) a some lt = no_first a n (below a lt)
