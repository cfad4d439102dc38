-- A restore_state matches at most one remember_state, and a remember_state at most one
-- restore_state.
use Rattle.std.proofs.Common.{◌≡◌, ℕ, ◌+◌, ◌<◌, ◌≤◌, List, [], ◌∷◌, ◌++◌, length, refl, sym, ap, ◌∙◌, arith, inl, inr, append_assoc}
use Rattle.std.proofs.Common.{length-append}
use Rattle.std.proofs.lemmas.Bool.{cases_lt}
use Rattle.dw_rules.specs.Effects.{Effect, remembers_state, restores_state}
use Rattle.dw_rows.specs.GoodPrograms.{remembers, restores_in, IsBalanced, Match}
use Rattle.dw_rows.proofs.programs.Matching.{remembers-append, restores-append}

-- if a list is split in two ways, the longer front begins with the shorter one
record Between (a b c d : List Effect) : Type 0 where
  middle : List Effect
  front : c ≡ a ++ middle
  back : b ≡ middle ++ d

between : (a b c d : List Effect) → a ++ b ≡ c ++ d → length a ≤ length c → Between a b c d
between [] b c d e l = record { middle = c; front = refl; back = e }
between (x ∷ a) b [] d e l = absurd (omega arith)
between (x ∷ a) b (y ∷ c) d e l =
    let same : x ≡ y = cc in
    let rest : a ++ b ≡ c ++ d = cc in
    let k = between a b c d rest (omega arith) in
    record { middle = k.middle; front = ap (λ l. y ∷ l) k.front ∙ ap (λ z. z ∷ (a ++ k.middle)) (sym same); back = k.back }

-- two balanced stretches, each followed by a restore_state, can't begin at the same place and
-- differ in length
no-shorter : (b c r s : List Effect) → IsBalanced b → IsBalanced c → b ++ restores_state ∷ r ≡ c ++ restores_state ∷ s → length b < length c
    → ⊥
no-shorter b c r s b_good c_good e l = go k.middle k.front k.back
  where
    k : Between b (restores_state ∷ r) c (restores_state ∷ s)
    k = between b (restores_state ∷ r) c (restores_state ∷ s) e (omega arith)

    go : (m : List Effect) → c ≡ b ++ m → restores_state ∷ r ≡ m ++ restores_state ∷ s → ⊥
    go [] front back = let same : length c ≡ length b + 0 = ap length front ∙ length-append b [] in omega arith
    go (x ∷ m) front back =
        let first : restores_state ≡ x = cc in
        let whole : c ≡ (b ++ restores_state ∷ []) ++ m = front ∙ rw (← first) (sym (append_assoc b (restores_state ∷ []) m)) in
        let few : restores_in (b ++ restores_state ∷ []) ≤ remembers (b ++ restores_state ∷ []) =
        c_good.each (b ++ restores_state ∷ []) m whole in
        let more : restores_in (b ++ restores_state ∷ []) ≡ restores_in b + 1 = restores-append b (restores_state ∷ []) in
        let same : remembers (b ++ restores_state ∷ []) ≡ remembers b + 0 = remembers-append b (restores_state ∷ []) in
        omega (arith, b_good.equal)

-- two balanced stretches, each after a remember_state, can't end at the same place and differ in
-- length
no-later : (f b g c : List Effect) → IsBalanced b → IsBalanced c → f ++ remembers_state ∷ b ≡ g ++ remembers_state ∷ c → length f < length g
    → ⊥
no-later f b g c b_good c_good e l = go k.middle k.front k.back
  where
    k : Between f (remembers_state ∷ b) g (remembers_state ∷ c)
    k = between f (remembers_state ∷ b) g (remembers_state ∷ c) e (omega arith)

    go : (m : List Effect) → g ≡ f ++ m → remembers_state ∷ b ≡ m ++ remembers_state ∷ c → ⊥
    go [] front back = let same : length g ≡ length f + 0 = ap length front ∙ length-append f [] in omega arith
    go (x ∷ m) front back =
        let whole : b ≡ m ++ remembers_state ∷ c = cc in
        let few : restores_in m ≤ remembers m = b_good.each m (remembers_state ∷ c) whole in
        let more : remembers b ≡ remembers m + (remembers c + 1) = ap remembers whole ∙ remembers-append m (remembers_state ∷ c) in
        let same : restores_in b ≡ restores_in m + restores_in c = ap restores_in whole ∙ restores-append m (remembers_state ∷ c) in
        omega (arith, b_good.equal, c_good.equal)

-- if two splits of a list have fronts of the same length, the fronts and the backs are equal
same-fronts : (a c b d : List Effect) → a ++ b ≡ c ++ d → length a ≡ length c → (a ≡ c) × (b ≡ d)
same-fronts [] [] b d e l = (refl, e)
same-fronts [] (y ∷ c) b d e l = absurd (omega arith)
same-fronts (x ∷ a) [] b d e l = absurd (omega arith)
same-fronts (x ∷ a) (y ∷ c) b d e l =
    let same : x ≡ y = cc in
    let rest = same-fronts a c b d (cc) (omega arith) in
    (rw (same, rest.0) refl, rest.1)

pub one-restore : (p : List Effect) (i j k : ℕ) → Match p i j → Match p i k → j ≡ k
one-restore p i j k m n =
    let parts = same-fronts m.front n.front _ _ (sym m.whole ∙ n.whole) (omega (arith, m.at_remember, n.at_remember)) in
    let rest : m.between ++ restores_state ∷ m.back ≡ n.between ++ restores_state ∷ n.back = let both = parts.1 in cc in
    elim (cases_lt (length m.between) (length n.between)) [
      | inl lt ↦ absurd (no-shorter m.between n.between m.back n.back m.balanced n.balanced rest lt)
      | inr ge ↦ elim (cases_lt (length n.between) (length m.between)) [
        | inl lt ↦ absurd (no-shorter n.between m.between n.back m.back n.balanced m.balanced (sym rest) lt)
        | inr le ↦ omega (arith, m.at_restore, n.at_restore)
      ]
    ]

-- the program of a match is what comes before the restore_state, the restore_state, and what comes
-- after it
before-restore : (p : List Effect) (i j : ℕ) → (m : Match p i j) → p ≡ (m.front ++ remembers_state ∷ m.between) ++ restores_state ∷ m.back
before-restore p i j m = m.whole ∙ sym (append_assoc m.front (remembers_state ∷ m.between) (restores_state ∷ m.back))

long-before : (p : List Effect) (i j : ℕ) → (m : Match p i j) → length (m.front ++ remembers_state ∷ m.between) ≡ j
long-before p i j m = length-append m.front (remembers_state ∷ m.between) ∙ omega (arith, m.at_remember, m.at_restore)

pub one-remember : (p : List Effect) (i k j : ℕ) → Match p i j → Match p k j → i ≡ k
one-remember p i k j m n =
    let parts = same-fronts (m.front ++ remembers_state ∷ m.between) (n.front ++ remembers_state ∷ n.between) _ _
    (sym (before-restore p i j m) ∙ before-restore p k j n) (long-before p i j m ∙ sym (long-before p k j n)) in
    elim (cases_lt (length m.front) (length n.front)) [
      | inl lt ↦ absurd (no-later m.front m.between n.front n.between m.balanced n.balanced parts.0 lt)
      | inr ge ↦ elim (cases_lt (length n.front) (length m.front)) [
        | inl lt ↦ absurd (no-later n.front n.between m.front m.between n.balanced m.balanced (sym parts.0) lt)
        | inr le ↦ omega (arith, m.at_remember, n.at_remember)
      ]
    ]
