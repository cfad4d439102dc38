-- The instructions of good programs, beside their effects.
use Rattle.std.proofs.Common.{◌≡◌, ℕ, List, [], ◌∷◌, ◌++◌, map, reverse, take, refl, sym, ap, ◌∙◌, Result, Ok}
use Rattle.std.proofs.lemmas.List.{reverse-append, map-append, take-map}
use Rattle.dw_bytes.specs.Answers.{values_in}
use Rattle.dw_bytes.specs.declared.fault.Fault.{Fault}
use Rattle.dw_frame.specs.Instructions.{Instruction}
use Rattle.dw_frame.specs.Records.{Cie}
use Rattle.dw_rules.specs.Effects.{Effect, effect_of, effects_by}
use Rattle.dw_rows.specs.GoodPrograms.{prefix}
use Rattle.dw_signed_rows.specs.SignedPrograms.{instructions_by}
use Rattle.dw_signed_rows.specs.SignedRows.{instructions_in}

-- the effects of some instructions, in order
abbrev pub effects_in : Cie → List Instruction → List Effect
effects_in c xs = map (effect_of c) xs

pub same-effects : (c : Cie) (items : List (ℕ × Instruction))
    → effects_in c (instructions_by items) ≡ effects_by c items
same-effects c [] = refl
same-effects c (item ∷ items) = ap (λ l. effect_of c item.1 ∷ l) (same-effects c items)

pub effects-reverse : (c : Cie) (xs : List Instruction) → effects_in c (reverse xs) ≡ reverse (effects_in c xs)
effects-reverse c [] = refl
effects-reverse c (x ∷ xs) =
    ap (effects_in c) (reverse-append (x ∷ []) xs) ∙ (map-append (effect_of c) (reverse xs) (x ∷ [])
    ∙ (ap (λ l. l ++ effect_of c x ∷ []) (effects-reverse c xs)
    ∙ sym (reverse-append (effect_of c x ∷ []) (effects_in c xs))))

-- the effects of the first k instructions, in reverse order
pub effects-prefix : (c : Cie) (items : List (ℕ × Instruction)) (k : ℕ)
    → effects_in c (reverse (take k (instructions_by items))) ≡ prefix (effects_by c items) k
effects-prefix c items k =
    effects-reverse c (take k (instructions_by items))
    ∙ ap reverse (sym (take-map (effect_of c) k (instructions_by items)) ∙ ap (take k) (same-effects c items))

-- what is read of a program that is good is its instructions
pub instructions-read : (items : List (ℕ × Instruction)) (its : List (Result (ℕ × Instruction) Fault))
    → its ≡ map Ok items → instructions_in its ≡ instructions_by items
instructions-read items its read = ap instructions_in read ∙ ap instructions_by (values items)
  where
    values : (items : List (ℕ × Instruction)) → ◌≡◌ {A = List (ℕ × Instruction)} (values_in (map Ok items)) items
    values [] = refl
    values (item ∷ items) = ap (λ l. item ∷ l) (values items)
