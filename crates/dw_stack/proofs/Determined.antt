-- A configuration has only one successor, and a run has only one outcome.
use Rattle.std.proofs.Common.{◌≡◌, ◌∙◌, ℕ, ℤ, pos, zero, suc, ◌+◌, ◌-◌, ◌<◌, Bool, true, false, List, length, take, Option, Some, None}
use Rattle.std.proofs.Common.{Result, Ok, Err, refl, sym, ap, subst, inl, inr, arith}
use Rattle.std.specs.Prelude.{slice_get, MatchBool}
use Rattle.std.proofs.lemmas.Option.{slice_get_within, same_Some}
use Rattle.dw_stack.specs.declared.state.Kind.{Kind}
use Rattle.dw_stack.specs.Effects.{effect_of}
use Rattle.dw_stack.specs.Paths.{Placed, place, IsLaidOut}
use Rattle.dw_stack.specs.Machine.{LocationDescription, Piece, Configuration, EvaluationError, Meaning}
use Rattle.dw_stack.specs.Machine.{location_named, jumps, JumpsTo, LeadsTo}
use Rattle.dw_stack.specs.Machine.{extent_of, location_of, stack_after, pieces_after, Meets, Step, Stops, Run, Ended, IsOver}
use Rattle.dw_stack.proofs.Places.{place_of_some, place_past, place_mono, place_inj}

abbrev made : ℕ → List ℕ → Option LocationDescription → List Piece → Configuration
made offset stack pending pieces = record { offset = offset; stack = stack; pending = pending; pieces = pieces }

same_configuration : (d e : Configuration) → d.offset ≡ e.offset → d.stack ≡ e.stack → d.pending ≡ e.pending → d.pieces ≡ e.pieces → d ≡ e
same_configuration d e offset stack pending pieces =
    let first : made d.offset d.stack d.pending d.pieces ≡ made e.offset d.stack d.pending d.pieces =
    ap (λ (n : ℕ). made n d.stack d.pending d.pieces) offset in
    let second : made e.offset d.stack d.pending d.pieces ≡ made e.offset e.stack d.pending d.pieces =
    ap (λ (s : List ℕ). made e.offset s d.pending d.pieces) stack in
    let third : made e.offset e.stack d.pending d.pieces ≡ made e.offset e.stack e.pending d.pieces =
    ap (λ (p : Option LocationDescription). made e.offset e.stack p d.pieces) pending in
    let fourth : made e.offset e.stack e.pending d.pieces ≡ made e.offset e.stack e.pending e.pieces =
    ap (λ (ps : List Piece). made e.offset e.stack e.pending ps) pieces in
    first ∙ (second ∙ (third ∙ fourth))

one_offset : (j : Bool) (o : Option ℤ) (next a b : ℕ) → MatchBool j (JumpsTo o next a) (a ≡ next)
    → MatchBool j (JumpsTo o next b) (b ≡ next) → a ≡ b
one_offset true None next a b here there = absurd here
one_offset true (Some z) next a b here there = let same : pos a ≡ pos b = here ∙ sym there in cc
one_offset false o next a b here there = here ∙ sym there

answered_with : Result (List ℕ) EvaluationError → List ℕ → List ℕ
answered_with (Ok new) other = new
answered_with (Err why) other = other

one_answer : (a : Result (List ℕ) EvaluationError) (x y : List ℕ) → a ≡ Ok x → a ≡ Ok y → x ≡ y
unfolding answered_with
one_answer a x y here there = ap (λ (r : Result (List ℕ) EvaluationError). answered_with r x) (sym here ∙ there)

module _ (m : Meaning) (ops : List Placed) (len : ℕ) (laid : IsLaidOut ops len) where
  within : (c : Configuration) (t : Meets ops c) → t.number < length ops
  within c t = slice_get_within ops t.number t.placed t.stands

  stands_at : (c : Configuration) (t : Meets ops c) → place ops len t.number ≡ c.offset
  stands_at c t = place_of_some ops len t.number t.placed t.stands ∙ t.from

  one_number : (c : Configuration) (t u : Meets ops c) → t.number ≡ u.number
  one_number c t u = place_inj ops len laid t.number u.number (let lt = within c t in omega (arith, lt))
      (let lt = within c u in omega (arith, lt)) (stands_at c t ∙ sym (stands_at c u))

  one_operation : (c : Configuration) (t u : Meets ops c) → t.placed ≡ u.placed
  one_operation c t u = same_Some t.placed u.placed (sym t.stands ∙ (ap (slice_get ops) (one_number c t u) ∙ u.stands))

  pub one_step : (c d e : Configuration) → Step m ops len c d → Step m ops len c e → d ≡ e
  one_step c d e t u =
      let number : u.meets.number ≡ t.meets.number = one_number c u.meets t.meets in
      let placed : u.meets.placed ≡ t.meets.placed = one_operation c u.meets t.meets in
      let new : t.new ≡ u.new = one_answer (m.answer t.meets.placed.1 c.stack) t.new u.new t.answered
      (ap (λ (x : Placed). m.answer x.1 c.stack) (sym placed) ∙ u.answered) in
      let to : LeadsTo t.meets.placed.1 c.stack (place ops len (t.meets.number + 1)) e.offset =
      subst (λ (x : Placed). LeadsTo x.1 c.stack (place ops len (t.meets.number + 1)) e.offset) placed
      (subst (λ (n : ℕ). LeadsTo u.meets.placed.1 c.stack (place ops len (n + 1)) e.offset) number u.to) in
      let offset = one_offset (jumps t.meets.placed.1 c.stack) (effect_of t.meets.placed.1).jump
      (place ops len (t.meets.number + 1)) d.offset e.offset t.to to in
      let stack : d.stack ≡ e.stack = t.stack ∙
      (ap (λ (xs : List ℕ). stack_after (effect_of t.meets.placed.1).role xs
      (take (length c.stack - (effect_of t.meets.placed.1).takes) c.stack)) new
      ∙ (ap (λ (x : Placed). stack_after (effect_of x.1).role u.new (take (length c.stack - (effect_of x.1).takes) c.stack))
      (sym placed) ∙ sym u.stack)) in
      let pending : d.pending ≡ e.pending = t.pending ∙ (ap (λ (x : Placed). location_named x.1 c.stack) (sym placed) ∙ sym u.pending) in
      let pieces : d.pieces ≡ e.pieces = t.pieces
      ∙ (ap (λ (x : Placed). pieces_after (effect_of x.1).role c.pieces
      (record { location = location_of c.stack c.pending; size = extent_of x.1 })) (sym placed) ∙ sym u.pieces) in
      same_configuration d e offset stack pending pieces

  -- no operation can run at the end
  pub ended_stands : (kind : Kind) (c : Configuration) → Ended kind ops len c → Meets ops c → ⊥
  ended_stands kind c ended t =
      let lt = within c t in
      let before = place_mono ops len laid t.number (length ops) lt (omega arith) in
      let past = place_past ops len (length ops) (omega arith) in
      let at = stands_at c t in
      omega (arith, before, past, at, ended.there)

  -- an operation that fails has only one reason
  pub one_trouble : (c : Configuration) (w v : EvaluationError) → Stops m ops c w → Stops m ops c v → w ≡ v
  one_trouble c w v a b =
      let both : Err w ≡ Err v = sym a.answered
      ∙ (ap (λ (x : Placed). m.answer x.1 c.stack) (one_operation c a.meets b.meets) ∙ b.answered) in
      cc

  no_step : (kind : Kind) (c d : Configuration) → IsOver kind m ops len c → Step m ops len c d → ⊥
  no_step kind c d over t = elim over [
    | inl ended ↦ ended_stands kind c ended t.meets
    | inr stopped ↦
        let stop = stopped.1 in
        let both : Ok t.new ≡ Err stopped.0 = sym t.answered
        ∙ (ap (λ (x : Placed). m.answer x.1 c.stack) (one_operation c t.meets stop.meets) ∙ stop.answered) in
        cc
  ]

  pub one_run : (kind : Kind) (n k : ℕ) (c d e : Configuration) → Run m ops len n c d → IsOver kind m ops len d → Run m ops len k c e
      → IsOver kind m ops len e → (n ≡ k) × (d ≡ e)
  one_run kind zero zero c d e here over there over' = (refl, sym here ∙ there)
  one_run kind zero (suc k) c d e here over there over' =
      absurd (no_step kind c there.0 (subst (λ (x : Configuration). IsOver kind m ops len x) (sym here) over) there.1)
  one_run kind (suc n) zero c d e here over there over' =
      absurd (no_step kind c here.0 (subst (λ (x : Configuration). IsOver kind m ops len x) (sym there) over') here.1)
  one_run kind (suc n) (suc k) c d e here over there over' =
      let next : here.0 ≡ there.0 = one_step c here.0 there.0 here.1 there.1 in
      let rest = one_run kind n k there.0 d e (subst (λ (x : Configuration). Run m ops len n x d) next here.2) over there.2 over' in
      (ap (λ (i : ℕ). suc i) rest.0, rest.1)
