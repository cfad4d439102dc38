-- Whether the return address is signed after one more instruction.
use Rattle.std.proofs.Common.{◌≡◌, ℕ, zero, suc, ◌-◌, ◌<◌, Bool, true, false, not, List, [], ◌∷◌, ◌++◌, length, map, reverse, refl, sym, ap, ◌∙◌, subst, arith}
use Rattle.std.proofs.Common.{Option, Some, None}
use Rattle.std.specs.Prelude.{◌↔◌, IsSome}
use Rattle.std.specs.Option.{option_to_list, unwrap_or}
use Rattle.std.proofs.lemmas.List.{append-nil, reverse-append}
use Rattle.dw_frame.specs.Instructions.{Instruction, remember_state, restore_state, negate_ra_state}
use Rattle.dw_frame.specs.Records.{Cie}
use Rattle.dw_rules.specs.Effects.{effect_of}
use Rattle.dw_rules.specs.InForce.{open_count}
use Rattle.dw_signed_rows.specs.SignedRows.{signed_at}
use Rattle.dw_signed_rows.specs.Signatures.{IsAfter, SignatureState, saved_at}

pub after-nothing : (cie : Cie) (first : Bool) → IsAfter cie [] (record { first = first; is_signed = first; remembered = [] })
after-nothing cie first = record { now = refl; saved = λ d. refl; depth = λ d. omega arith }

pub after-negate : (cie : Cie) (before : List Instruction) (m : SignatureState) → IsAfter cie before m
    → IsAfter cie (negate_ra_state ∷ before) (record { first = m.first; is_signed = not m.is_signed; remembered = m.remembered })
after-negate cie before m a = record { now = ap not a.now; saved = a.saved; depth = a.depth }

pub after-remember : (cie : Cie) (before : List Instruction) (m : SignatureState) → IsAfter cie before m
    → IsAfter cie (remember_state ∷ before) (record { first = m.first; is_signed = m.is_signed; remembered = m.is_signed ∷ m.remembered })
after-remember cie before m a = record { now = a.now; saved = saved; depth = depth }
  where
    saved : (d : ℕ) → saved_at m.first (m.is_signed ∷ m.remembered) d ≡ signed_at m.first (remember_state ∷ before) (suc d)
    saved zero = a.now
    saved (suc d) = a.saved d

    depth : (d : ℕ) → open_count (map (effect_of cie) (remember_state ∷ before)) d ≡ length (m.is_signed ∷ m.remembered) - d
    depth zero = omega (arith, a.depth 0)
    depth (suc d) = omega (arith, a.depth d)

pub after-restore : (cie : Cie) (before : List Instruction) (first now b : Bool) (saved : List Bool)
    → IsAfter cie before (record { first = first; is_signed = now; remembered = b ∷ saved })
    → IsAfter cie (restore_state ∷ before) (record { first = first; is_signed = b; remembered = saved })
after-restore cie before first now b saved a = record {
  now = a.saved 0;
  saved = λ d. a.saved (suc d);
  depth = λ d. omega (arith, a.depth (suc d));
}

pub after-restore-first : (cie : Cie) (before : List Instruction) (first now : Bool)
    → IsAfter cie before (record { first = first; is_signed = now; remembered = [] })
    → IsAfter cie (restore_state ∷ before) (record { first = first; is_signed = first; remembered = [] })
after-restore-first cie before first now a = record {
  now = a.saved 0;
  saved = λ d. a.saved (suc d);
  depth = λ d. omega (arith, a.depth (suc d));
}

-- an instruction that has nothing to do with signatures
abbrev pub leaves_signature : Instruction → Bool
leaves_signature remember_state = false
leaves_signature restore_state = false
leaves_signature negate_ra_state = false
leaves_signature _ = true

pub after-other : (cie : Cie) (before : List Instruction) (i : Instruction) (m : SignatureState) → leaves_signature i ≡ true
    → IsAfter cie before m → IsAfter cie (i ∷ before) m
after-other cie before remember_state m is a = absurd cc
after-other cie before restore_state m is a = absurd cc
after-other cie before negate_ra_state m is a = absurd cc
after-other cie before _ m plain a = record { now = a.now; saved = a.saved; depth = a.depth }

-- ---- the newest first

pub pushed-first : (xs : List Bool) (x : Bool) → reverse (xs ++ x ∷ []) ≡ x ∷ reverse xs
pushed-first xs x = reverse-append xs (x ∷ [])

nothing-shorter : (xs : List Bool) → (IsSome {T = Bool} None ↔ (0 < length xs)) → xs ≡ []
nothing-shorter [] is = refl
nothing-shorter (x ∷ xs) is = let no : false ≡ true = is.1 (omega arith) in absurd cc

-- what a restore_state takes off
pub after-popped : (cie : Cie) (before : List Instruction) (first now b : Bool) (old new : List Bool) (popped : Option Bool)
    → old ≡ new ++ option_to_list popped → (IsSome popped ↔ (0 < length old)) → b ≡ unwrap_or popped first
    → IsAfter cie before (record { first = first; is_signed = now; remembered = reverse old })
    → IsAfter cie (restore_state ∷ before) (record { first = first; is_signed = b; remembered = reverse new })
after-popped cie before first now b old new (Some x) items some is a =
    let same : reverse old ≡ x ∷ reverse new = ap reverse items ∙ pushed-first new x in
    subst (λ (y : Bool). IsAfter cie (restore_state ∷ before) (record { first = first; is_signed = y; remembered = reverse new })) (sym is)
    (after-restore cie before first now x (reverse new)
    (subst (λ (l : List Bool). IsAfter cie before (record { first = first; is_signed = now; remembered = l })) same a))
after-popped cie before first now b old new None items some is a =
    let none : old ≡ [] = nothing-shorter old some in
    let left : new ≡ [] = sym (append-nil new) ∙ (sym items ∙ none) in
    subst (λ (y : Bool). IsAfter cie (restore_state ∷ before) (record { first = first; is_signed = y; remembered = reverse new })) (sym is)
    (subst (λ (l : List Bool). IsAfter cie (restore_state ∷ before) (record { first = first; is_signed = first; remembered = reverse l })) (sym left)
    (after-restore-first cie before first now
    (subst (λ (l : List Bool). IsAfter cie before (record { first = first; is_signed = now; remembered = reverse l })) none a)))

pub after-pushed : (cie : Cie) (before : List Instruction) (first now : Bool) (old new : List Bool) → new ≡ old ++ now ∷ []
    → IsAfter cie before (record { first = first; is_signed = now; remembered = reverse old })
    → IsAfter cie (remember_state ∷ before) (record { first = first; is_signed = now; remembered = reverse new })
after-pushed cie before first now old new items a =
    subst (λ (l : List Bool). IsAfter cie (remember_state ∷ before) (record { first = first; is_signed = now; remembered = l }))
    (sym (ap reverse items ∙ pushed-first old now))
    (after-remember cie before (record { first = first; is_signed = now; remembered = reverse old }) a)
