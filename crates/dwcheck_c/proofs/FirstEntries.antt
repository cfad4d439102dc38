-- The first record of what is left of a section from an offset on.
use Rattle.std.proofs.Common.{◌≡◌, ℕ, ◌+◌, ◌-◌, ◌<◌, ◌≤◌, List, [], ◌∷◌, drop, length, take, Result, Ok, Err, refl, sym, ap, subst, ◌∙◌, arith}
use Rattle.std.specs.Prelude.{Contains}
use Rattle.std.proofs.lemmas.List.{length-drop, take_rest}
use Rattle.dw_bytes.specs.declared.fault.Fault.{Fault}
use Rattle.dw_bytes.specs.declared.target.Target.{Target}
use Rattle.dw_bytes.specs.Reading.{ReadPosition, section_from}
use Rattle.dw_frame.specs.Bounds.{IsAfter, IsSound}
use Rattle.dw_frame.specs.Records.{Record}
use Rattle.dw_frame.specs.Sections.{records_from, records_of, record_at}

abbrev Items : Type 0
Items = List (Result Record Fault)

-- what is left, as the code's slice has it
pub left-of : (target : Target) (section : List ℕ) (at : ℕ) (items : Items)
    → items ≡ records_of target (take (length section - at) (drop at section)) → records_of target (drop at section) ≡ items
left-of target section at items is = sym (is ∙ ap (records_of target) (take_rest section at))

module _ (target : Target) (section : List ℕ)
    (entry : (next : ℕ) (x : Record) → record_at (section_from target section 0) ≡ Ok (x, section_from target section next)
    → records_from target section 0 ≡ Ok x ∷ records_from target section next)
    (fault : (why : Fault) → 0 < length section → record_at (section_from target section 0) ≡ Err why
    → records_from target section 0 ≡ Err why ∷ [])
    (past : (x : Record) (after : ReadPosition) → 0 ≤ length section → record_at (section_from target section 0) ≡ Ok (x, after)
    → IsAfter target section 0 after) where
  -- a section that isn't empty has an item
  pub some-item : 0 < length section → records_of target section ≡ [] → ⊥
  some-item room none = by-read (record_at (section_from target section 0)) refl
    where
      by-read : (found : Result (Record × ReadPosition) Fault) → record_at (section_from target section 0) ≡ found → ⊥
      by-read (Ok x) is =
          let b = past x.0 x.1 (omega arith) is in
          let here : record_at (section_from target section 0) ≡ Ok (x.0, section_from target section x.1.position) =
          is ∙ ap (λ (p : ReadPosition). Ok (x.0, p)) b.left in
          absurd (let never : Ok x.0 ∷ records_from target section x.1.position ≡ [] = sym (entry x.1.position x.0 here) ∙ none in cc)
      by-read (Err why) is = absurd (let never : Err why ∷ [] ≡ [] = sym (fault why room is) ∙ none in cc)

-- a fault that is the first item is inside of what is left
pub fault-inside : (target : Target) (section : List ℕ) (at : ℕ) (why : Fault) (others : Items)
    → ((item : Result Record Fault) → Contains (records_of target (drop at section)) item → IsSound target (length (drop at section)) item)
    → records_of target (drop at section) ≡ Err why ∷ others → at ≤ length section → at + why.at ≤ length section
fault-inside target section at why others sound is inside =
    let first : Contains (records_of target (drop at section)) (Err why) =
    subst (λ (items : Items). Contains items (Err why)) (sym is) (0, omega arith, refl) in
    omega (arith, sound (Err why) first, length-drop at section, inside)
