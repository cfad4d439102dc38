-- Whether the return address is signed after one more instruction of a good program.
use Rattle.std.proofs.Common.{◌≡◌, ℕ, zero, suc, ◌+◌, ◌≤◌, ◌<◌, Bool, false, not, List, ◌∷◌, [], length, reverse}
use Rattle.std.proofs.Common.{take, get_or, refl, sym, ap, ◌∙◌, arith, Some, inl, inr}
use Rattle.std.specs.Prelude.{slice_get}
use Rattle.std.specs.Option.{option_map}
use Rattle.std.proofs.lemmas.Bool.{cases_lt}
use Rattle.std.proofs.lemmas.List.{length-map, reverse-append, take_more}
use Rattle.std.proofs.lemmas.Option.{get_or_from_slice_get, slice_get-get_or, slice_get-map, slice_get_within}
use Rattle.dw_frame.specs.Instructions.{Instruction, negate_ra_state, nop, restore_state}
use Rattle.dw_frame.specs.Records.{Cie, Fde}
use Rattle.dw_rules.specs.Effects.{effect_of, restores_state}
use Rattle.dw_rows.specs.Clauses.{program_in}
use Rattle.dw_rows.specs.GoodPrograms.{IsGoodFdeProgram}
use Rattle.dw_signed_rows.specs.SignedPrograms.{AreSignatures, changes_signature, instructions_by, signed_after}
use Rattle.dw_signed_rows.specs.SignedRows.{signed_at, signed_by_cie}
use Rattle.dw_signed_rows.proofs.GoodInstructions.{same-effects}
use Rattle.dw_signed_rows.proofs.MatchedInstructions.{match-of, signed-matched}

-- the first k + 1 instructions in reverse order are the instruction at index k and the first k
taken-next : (xs : List Instruction) (k : ℕ) (x : Instruction) → slice_get xs k ≡ Some x
    → reverse (take (k + 1) xs) ≡ x ∷ reverse (take k xs)
taken-next xs k x at =
    ap reverse (take_more xs k x (slice_get_within xs k x at))
    ∙ (reverse-append (take k xs) (get_or xs k x ∷ [])
    ∙ ap (λ y. y ∷ reverse (take k xs)) (get_or_from_slice_get xs k x x at))

signed-kept : (first : Bool) (before : List Instruction) (x : Instruction) → changes_signature x ≡ false
    → signed_at first (x ∷ before) 0 ≡ signed_at first before 0
signed-kept first before negate_ra_state plain = absurd cc
signed-kept first before restore_state plain = absurd cc
signed-kept first before _ plain = refl

module _ (c : Cie) (f : Fde) (good : IsGoodFdeProgram c f) where
  pub are-signatures : AreSignatures c f good (signed_after c f good)
  are-signatures = record {
    first = refl;
    negate = λ k at. ap (λ l. signed_at (signed_by_cie c) l 0)
        (taken-next (instructions_by good.items) k negate_ra_state at);
    restore_state = λ i j m. signed-matched c (signed_by_cie c) (instructions_by good.items) i j
        (match-of c (instructions_by good.items) (program_in c f good) i j (same-effects c good.items) m);
    kept = λ k x at plain. ap (λ l. signed_at (signed_by_cie c) l 0) (taken-next (instructions_by good.items) k x at)
        ∙ signed-kept (signed_by_cie c) (reverse (take k (instructions_by good.items))) x plain;
  }

  -- a restore_state among the instructions is one among their effects
  restores-at : (k : ℕ) → slice_get (instructions_by good.items) k ≡ Some restore_state
      → slice_get (program_in c f good) k ≡ Some restores_state
  restores-at k at = ap (λ l. slice_get l k) (sym (same-effects c good.items))
      ∙ (slice_get-map (effect_of c) (instructions_by good.items) k ∙ ap (option_map (effect_of c)) at)

  -- two answers that meet the conditions agree after one more instruction
  agree-step : (signed other : ℕ → Bool) → AreSignatures c f good signed → AreSignatures c f good other
      → (k : ℕ) (x : Instruction) → slice_get (instructions_by good.items) k ≡ Some x
      → ((i : ℕ) → i ≤ k → signed i ≡ other i) → signed (k + 1) ≡ other (k + 1)
  agree-step signed other a b k negate_ra_state at before =
      a.negate k at ∙ (ap not (before k (omega arith)) ∙ sym (b.negate k at))
  agree-step signed other a b k restore_state at before =
      let (i, m) = good.good.restored k (restores-at k at) in
      a.restore_state i k m ∙ (before i (omega (arith, m.at_restore)) ∙ sym (b.restore_state i k m))
  agree-step signed other a b k x at before =
      a.kept k x at refl ∙ (before k (omega arith) ∙ sym (b.kept k x at refl))

  agree : (signed other : ℕ → Bool) → AreSignatures c f good signed → AreSignatures c f good other
      → (n k : ℕ) → k ≤ n → k ≤ length (instructions_by good.items) → signed k ≡ other k
  agree signed other a b zero k le within = let none : k ≡ 0 = omega arith in rw none (a.first ∙ sym b.first)
  agree signed other a b (suc n) k le within = elim (cases_lt n k) [
    | inr lower ↦ agree signed other a b n k lower within
    | inl above ↦
        let last : k ≡ n + 1 = omega arith in
        let inside : n < length (instructions_by good.items) = omega arith in
        rw last (agree-step signed other a b n (get_or (instructions_by good.items) n nop)
        (slice_get-get_or (instructions_by good.items) n nop inside)
        (λ i upto. agree signed other a b n i upto (omega arith)))
  ]

  pub only-signatures : (signed : ℕ → Bool) → AreSignatures c f good signed → (k : ℕ) → k ≤ length good.items
      → signed k ≡ signed_after c f good k
  only-signatures signed are k within =
      agree signed (signed_after c f good) are are-signatures k k (omega arith)
      (omega (arith, within, length-map good.items (λ item. item.1)))
