-- The offsets of operations, and that they ascend.
use Rattle.std.proofs.Common.{◌≡◌, ℕ, zero, suc, ◌+◌, ◌-◌, ◌<◌, ◌≤◌, List, [], ◌∷◌, length, Some, refl, sym, ap, ◌∙◌, inl, inr, arith}
use Rattle.std.specs.Prelude.{slice_get}
use Rattle.std.proofs.lemmas.Bool.{cases_eq, cases_lt, cases_order}
use Rattle.dw_stack.specs.Paths.{Placed}
use Rattle.dw_stack.specs.Paths.{place, IsLaidOut}

pub place_past : (ops : List Placed) (len j : ℕ) → length ops ≤ j → place ops len j ≡ len
place_past [] len j h = refl
place_past (x ∷ xs) len zero h = absurd (omega arith)
place_past (x ∷ xs) len (suc j) h = place_past xs len j (omega arith)

pub place_of_some : (ops : List Placed) (len j : ℕ) (x : Placed) → slice_get ops j ≡ Some x → place ops len j ≡ x.0
place_of_some [] len j x h = absurd (cc)
place_of_some (y ∷ xs) len zero x h = let e : y ≡ x = cc in ap (λ (z : Placed). z.0) e
place_of_some (y ∷ xs) len (suc j) x h = place_of_some xs len j x h

module _ (ops : List Placed) (len : ℕ) (laid : IsLaidOut ops len) where
  pub place_mono : (j k : ℕ) → j < k → k ≤ length ops → place ops len j < place ops len k
  place_mono j zero lt le = absurd (omega arith)
  place_mono j (suc k) lt le =
      let each : place ops len k < place ops len (k + 1) = laid.each k (omega arith) in
      let e : place ops len (k + 1) ≡ place ops len (suc k) = ap (place ops len) (omega arith) in
      elim (cases_lt j k) [
        | inl below ↦ omega (arith, place_mono j k below (omega arith))
        | inr above ↦ let same : place ops len j ≡ place ops len k = ap (place ops len) (omega arith) in omega arith
      ]

  pub place_inj : (j k : ℕ) → j ≤ length ops → k ≤ length ops → place ops len j ≡ place ops len k → j ≡ k
  place_inj j k hj hk e =
      elim (cases_order j k) [
        | inl same ↦ same
        | inr other ↦ elim other [
          | inl below ↦ absurd (omega (arith, place_mono j k below hk))
          | inr above ↦ absurd (omega (arith, place_mono k j above hj))
        ]
      ]

  pub place_lt : (j k : ℕ) → j ≤ length ops → k ≤ length ops → place ops len j < place ops len k → j < k
  place_lt j k hj hk lt =
      elim (cases_order j k) [
        | inl same ↦ let e : place ops len j ≡ place ops len k = ap (place ops len) same in absurd (omega arith)
        | inr other ↦ elim other [
          | inl below ↦ below
          | inr above ↦ absurd (omega (arith, place_mono k j above hj))
        ]
      ]

  pub later_place : (k j : ℕ) → k < length ops → place ops len (k + 1) ≤ place ops len j → k < j
  later_place k j lt le = elim (cases_lt k j) [
    | inl later ↦ later
    | inr early ↦ elim (cases_eq j (k + 1)) [
      | inl same ↦ absurd (omega (arith, same, early))
      | inr _ ↦ absurd (omega (arith, le, place_mono j (k + 1) (omega arith) (omega arith)))
    ]
  ]

-- if t is between the offsets of two neighboring operations, neither an operation nor the end is at
-- t
pub nowhere : (ops : List Placed) (len : ℕ) → IsLaidOut ops len → (k t : ℕ) → 0 < k → k ≤ length ops → place ops len (k - 1) < t
    → (k < length ops → t ≤ place ops len k) → (place ops len k ≡ t → ⊥) → (j : ℕ) → j ≤ length ops → place ops len j ≡ t → ⊥
nowhere ops len laid k t pos le low high ne j lej e =
    elim (cases_order j k) [
      | inl same ↦ ne (ap (place ops len) (sym same) ∙ e)
      | inr other ↦ elim other [
        | inl below ↦ elim (cases_lt j (k - 1)) [
          | inl more ↦ omega (arith, place_mono ops len laid j (k - 1) more (omega arith))
          | inr least ↦ let same : place ops len j ≡ place ops len (k - 1) = ap (place ops len) (omega arith) in omega arith
        ]
        | inr above ↦ omega (arith, high (omega arith), place_mono ops len laid k j above lej, ne)
      ]
    ]

-- there are no more operations than bytes
place_ge : (ops : List Placed) (len : ℕ) → IsLaidOut ops len → (j : ℕ) → j ≤ length ops → j ≤ place ops len j
place_ge ops len laid zero le = omega arith
place_ge ops len laid (suc j) le =
    let before = place_ge ops len laid j (omega arith) in
    let step = place_mono ops len laid j (suc j) (omega arith) le in
    omega (arith, before, step)

pub count_le : (ops : List Placed) (len : ℕ) → IsLaidOut ops len → length ops ≤ len
count_le ops len laid = omega (arith, place_ge ops len laid (length ops) (omega arith), place_past ops len (length ops) (omega arith))

-- no operation begins after the end
pub place_le : (ops : List Placed) (len : ℕ) → IsLaidOut ops len → (j : ℕ) → place ops len j ≤ len
place_le ops len laid j =
    elim (cases_lt j (length ops)) [
      | inl within ↦ omega (
        arith,
        place_mono ops len laid j (length ops) within (omega arith),
        place_past ops len (length ops) (omega arith),
      )
      | inr past ↦ omega (arith, place_past ops len j past)
    ]
