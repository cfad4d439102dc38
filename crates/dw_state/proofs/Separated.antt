-- Parts are cut off at the first separator.
use Rattle.std.proofs.Common.{◌≡◌, ℕ, zero, suc, ◌+◌, ◌-◌, ◌<◌, ◌==◌, Bool, true, false, List, [], ◌∷◌, length, take, drop, slice_index}
use Rattle.std.proofs.Common.{refl, sym, arith}
use Rattle.std.proofs.Math.Seq.{take-length}
use Rattle.std.proofs.lemmas.List.{length-drop}
use Rattle.dw_state.specs.Parts.{parts_of}

cut_step : (s b : ℕ) (bytes : List ℕ) (k : ℕ) (t : Bool) → (b == s) ≡ t → ((b == s) ≡ true → ⊥)
    → parts_of s bytes ≡ take k bytes ∷ parts_of s (drop (k + 1) bytes)
    → parts_of s (b ∷ bytes) ≡ take (suc k) (b ∷ bytes) ∷ parts_of s (drop (suc k + 1) (b ∷ bytes))
cut_step s b bytes k true e other h = absurd (other e)
cut_step s b bytes k false e other h = let more : suc k + 1 ≡ suc (k + 1) = omega arith in rw (e, h, more) refl

pub cut_at : (s : ℕ) (bytes : List ℕ) (k : ℕ) → k < length bytes → (slice_index bytes k == s) ≡ true
    → ((i : ℕ) → i < k → (slice_index bytes i == s) ≡ true → ⊥) → parts_of s bytes ≡ take k bytes ∷ parts_of s (drop (k + 1) bytes)
cut_at s [] k inside here before = absurd (omega (arith, inside))
cut_at s (b ∷ bytes) zero inside here before = rw here refl
cut_at s (b ∷ bytes) (suc k) inside here before =
    cut_step s b bytes k (b == s) refl (before 0 (omega arith))
    (cut_at s bytes k (omega (arith, inside)) here (λ i l. before (suc i) (omega (arith, l))))

uncut_step : (s b : ℕ) (bytes : List ℕ) (t : Bool) → (b == s) ≡ t → ((b == s) ≡ true → ⊥) → parts_of s bytes ≡ bytes ∷ []
    → parts_of s (b ∷ bytes) ≡ (b ∷ bytes) ∷ []
uncut_step s b bytes true e other h = absurd (other e)
uncut_step s b bytes false e other h = rw (e, h) refl

pub uncut : (s : ℕ) (bytes : List ℕ) → ((i : ℕ) → i < length bytes → (slice_index bytes i == s) ≡ true → ⊥) → parts_of s bytes ≡ bytes ∷ []
uncut s [] none = refl
uncut s (b ∷ bytes) none = uncut_step s b bytes (b == s) refl (none 0 (omega arith))
    (uncut s bytes (λ i l. none (suc i) (omega (arith, l))))

pub all_past : (bytes : List ℕ) (k : ℕ) → take (length bytes - k) (drop k bytes) ≡ drop k bytes
all_past bytes k = rw (sym (length-drop k bytes)) (take-length (drop k bytes))
