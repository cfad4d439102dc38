-- How an `InState` describes the set of states with which paths reach an operation.
use Rattle.std.proofs.Common.{◌≡◌, ◌≢◌, ℕ, ◌<◌, ◌⊎◌, Bool, true, false, List, length, get_or, Option, Some, None, Ok, refl, sym, ap, ◌∙◌}
use Rattle.std.proofs.Common.{subst, inl, inr, length-set, IsTrue, get_or-set_same, get_or-set_other}
use Rattle.std.proofs.lemmas.Bool.{cases_eq}
use Rattle.std.proofs.lemmas.Option.{same_Some}
use Rattle.dw_stack.specs.declared.in_state.InState.{InState}
use Rattle.dw_stack.specs.declared.in_state.InState.TheVariants.{Unreached, Known, Conflict}
use Rattle.dw_stack.specs.declared.state.StackState.{StackState}
use Rattle.dw_stack.specs.InStates.{Merges, Receives, ReceivesIf, ReceivesAt, known_state}

-- The set has no state if the `InState` is `Unreached`, only the known state if it is `Known`, and
-- two different states if it is `Conflict`.
abbrev pub Describes : InState → (StackState → Type 0) → Type 0
Describes Unreached P = (h : StackState) → P h → ⊥
Describes (Known s) P = P s × ((h : StackState) → P h → h ≡ s)
Describes Conflict P = (g : StackState) × (h : StackState) × P g × P h × (g ≢ h)

-- if `known_state` gives a state, the `InState` is `Known` with that state
pub arrived_is : (a : InState) (s : StackState) → Ok s ≡ known_state a → a ≡ Known s
arrived_is Unreached s is = absurd (cc)
arrived_is (Known t) s is = let same : t ≡ s = cc in ap (λ (x : StackState). Known x) same
arrived_is Conflict s is = absurd (cc)

pub describes_same : (a : InState) (P Q : StackState → Type 0) → ((h : StackState) → P h → Q h) → ((h : StackState) → Q h → P h)
    → Describes a P → Describes a Q
describes_same Unreached P Q to from d = λ h q. d h (from h q)
describes_same (Known s) P Q to from d = (to s d.0, λ h q. d.1 h (from h q))
describes_same Conflict P Q to from d = (d.0, d.1, to d.0 d.2, to d.1 d.3, d.4)

pub describes_is : (a b : InState) (P : StackState → Type 0) → a ≡ b → Describes a P → Describes b P
describes_is a b P e d = subst (λ (x : InState). Describes x P) e d

pub describes_merged : (a b : InState) (s : StackState) (P : StackState → Type 0) → Merges a s b → Describes a P
    → Describes b (λ h. P h ⊎ (h ≡ s))
describes_merged Unreached b s P m d =
    describes_is (Known s) b (λ h. P h ⊎ (h ≡ s)) (sym m) (inr refl, λ h p. elim p [ inl old ↦ absurd (d h old) | inr new ↦ new ])
describes_merged (Known t) b s P m d =
    elim m [
      | inl same ↦ describes_is (Known t) b (λ h. P h ⊎ (h ≡ s)) (sym same.1)
          (inl d.0, λ h p. elim p [ inl old ↦ d.1 h old | inr new ↦ new ∙ sym same.0 ])
      | inr other ↦ describes_is Conflict b (λ h. P h ⊎ (h ≡ s)) (sym other.1) (t, s, inl d.0, inr refl, other.0)
    ]
describes_merged Conflict b s P m d =
    describes_is Conflict b (λ h. P h ⊎ (h ≡ s)) (sym m) (d.0, d.1, inl d.2, inl d.3, d.4)

-- the table of `InState` still describes the sets of states after the operation numbered k receives
-- one more state
pub describes_received : (old new : List InState) (k : ℕ) (s : StackState) (j : ℕ) (P : StackState → Type 0) → k < length old
    → Receives old k s new → Describes (get_or old j Unreached) P → Describes (get_or new j Unreached) (λ h. P h ⊎ ((j ≡ k) × (h ≡ s)))
describes_received old new k s j P lt r d =
    elim (cases_eq j k) [
      | inl same ↦
          let d' = subst (λ (i : ℕ). Describes (get_or old i Unreached) P) same d in
          let m = describes_merged (get_or old k Unreached) r.in_state s P r.merges d' in
          let m' = describes_same r.in_state (λ h. P h ⊎ (h ≡ s)) (λ h. P h ⊎ ((j ≡ k) × (h ≡ s)))
          (λ h p. elim p [ inl o ↦ inl o | inr n ↦ inr (same, n) ]) (λ h p. elim p [ inl o ↦ inl o | inr n ↦ inr n.1 ]) m in
          let e : get_or new j Unreached ≡ r.in_state = ap (λ (i : ℕ). get_or new i Unreached) same
          ∙ ap (λ (xs : List InState). get_or xs k Unreached) r.set ∙ get_or-set_same old k r.in_state Unreached lt in
          describes_is r.in_state (get_or new j Unreached) (λ h. P h ⊎ ((j ≡ k) × (h ≡ s))) (sym e) m'
      | inr other ↦
          let m' = describes_same (get_or old j Unreached) P (λ h. P h ⊎ ((j ≡ k) × (h ≡ s))) (λ h p. inl p)
          (λ h p. elim p [ inl o ↦ o | inr n ↦ absurd (other n.0) ]) d in
          let e : get_or new j Unreached ≡ get_or old j Unreached = ap (λ (xs : List InState). get_or xs j Unreached) r.set
          ∙ get_or-set_other old k j r.in_state Unreached other in
          describes_is (get_or old j Unreached) (get_or new j Unreached) (λ h. P h ⊎ ((j ≡ k) × (h ≡ s))) (sym e) m'
    ]

pub length_received : (old new : List InState) (k : ℕ) (s : StackState) → Receives old k s new → length new ≡ length old
length_received old new k s r = ap (λ (xs : List InState). length xs) r.set ∙ length-set old k r.in_state

pub length_next : (b : Bool) (old new : List InState) (k : ℕ) (s : StackState) → ReceivesIf b old k s new → length new ≡ length old
length_next true old new k s r = length_received old new k s r
length_next false old new k s r = ap (λ (xs : List InState). length xs) r

pub length_target : (o : Option ℕ) (old new : List InState) (s : StackState) → ReceivesAt o old s new → length new ≡ length old
length_target None old new s r = ap (λ (xs : List InState). length xs) r
length_target (Some k) old new s r = length_received old new k s r

pub describes_next : (b : Bool) (old new : List InState) (k : ℕ) (s : StackState) (n : ℕ) (P : StackState → Type 0) → k < length old
    → ReceivesIf b old k s new → Describes (get_or old n Unreached) P
    → Describes (get_or new n Unreached) (λ h. P h ⊎ (IsTrue b × (n ≡ k) × (h ≡ s)))
describes_next true old new k s n P lt r d =
    describes_same (get_or new n Unreached) (λ h. P h ⊎ ((n ≡ k) × (h ≡ s))) (λ h. P h ⊎ (IsTrue true × (n ≡ k) × (h ≡ s)))
    (λ h p. elim p [ inl o ↦ inl o | inr new ↦ inr (refl, new.0, new.1) ])
    (λ h p. elim p [ inl o ↦ inl o | inr new ↦ inr (new.1, new.2) ])
    (describes_received old new k s n P lt r d)
describes_next false old new k s n P lt r d =
    describes_is (get_or old n Unreached) (get_or new n Unreached) (λ h. P h ⊎ (IsTrue false × (n ≡ k) × (h ≡ s)))
    (ap (λ (xs : List InState). get_or xs n Unreached) (sym r))
    (describes_same (get_or old n Unreached) P (λ h. P h ⊎ (IsTrue false × (n ≡ k) × (h ≡ s)))
    (λ h p. inl p)
    (λ h p. elim p [ inl o ↦ o | inr new ↦ let none = new.0 in absurd (cc) ])
    d)

pub describes_target : (o : Option ℕ) (old new : List InState) (s : StackState) (n : ℕ) (P : StackState → Type 0)
    → ((k : ℕ) → o ≡ Some k → k < length old) → ReceivesAt o old s new → Describes (get_or old n Unreached) P
    → Describes (get_or new n Unreached) (λ h. P h ⊎ ((o ≡ Some n) × (h ≡ s)))
describes_target None old new s n P lt r d =
    describes_is (get_or old n Unreached) (get_or new n Unreached) (λ h. P h ⊎ ((None ≡ Some n) × (h ≡ s)))
    (ap (λ (xs : List InState). get_or xs n Unreached) (sym r))
    (describes_same (get_or old n Unreached) P (λ h. P h ⊎ ((None ≡ Some n) × (h ≡ s)))
    (λ h p. inl p)
    (λ h p. elim p [ inl o ↦ o | inr new ↦ let none = new.0 in absurd (cc) ])
    d)
describes_target (Some k) old new s n P lt r d =
    describes_same (get_or new n Unreached) (λ h. P h ⊎ ((n ≡ k) × (h ≡ s))) (λ h. P h ⊎ ((Some k ≡ Some n) × (h ≡ s)))
    (λ h p. elim p [ inl o ↦ inl o | inr new ↦ inr (ap (λ (x : ℕ). Some x) (sym new.0), new.1) ])
    (λ h p. elim p [ inl o ↦ inl o | inr new ↦ inr (sym (same_Some k n new.0), new.1) ])
    (describes_received old new k s n P (lt k refl) r d)
