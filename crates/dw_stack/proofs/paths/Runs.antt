-- Each run of a good expression (`IsGood`) follows a path.
use Rattle.std.proofs.Common.{◌≡◌, ℕ, ℤ, pos, negsuc, zero, suc, ◌+◌, ◌-◌, ◌<◌, ◌≤◌, Bool, true, false, cond, not, eqb, List, [], ◌∷◌, ◌++◌}
use Rattle.std.proofs.Common.{length, take, Option, Some, None, Result, Ok, Err, refl, sym, ap, ◌∙◌, subst, inl, inr, arith, IsTrue}
use Rattle.std.proofs.Common.{length-append, length-take}
use Rattle.std.specs.Prelude.{slice_get, MatchBool, ◌==◌}
use Rattle.std.proofs.lemmas.Bool.{eqb-true, leb-true}
use Rattle.std.proofs.lemmas.Option.{slice_get_within, slice_get_cases}
use Rattle.dw_ops.specs.Operations.{Operation, bra, skip, reg, regx, implicit_value, stack_value, piece, bit_piece}
use Rattle.dw_stack.specs.declared.effect.Role.{Role}
use Rattle.dw_stack.specs.declared.effect.Role.TheVariants as role
use Rattle.dw_stack.specs.declared.effect.StackEffect.{StackEffect}
use Rattle.dw_stack.specs.declared.operation_check.TheConstants.{MAX_PIECES}
use Rattle.dw_stack.specs.declared.state.State.{State}
use Rattle.dw_stack.specs.declared.state.StackState.{StackState}
use Rattle.dw_stack.specs.declared.state.Kind.{Kind}
use Rattle.dw_stack.specs.declared.state.Kind.TheVariants.{FrameCfa, FrameRegister, Location}
use Rattle.dw_stack.specs.declared.state.Mode.{Mode}
use Rattle.dw_stack.specs.declared.state.Mode.TheVariants as mode
use Rattle.dw_stack.specs.Effects.{effect_of}
use Rattle.dw_stack.specs.States.{start_of, next_mode, height_after, state_after, StandsAlone, at_offset}
use Rattle.dw_stack.specs.Paths.{Placed, place, IsLaidOut, jump_target, Leads, Edge, Follows, Reaches, IsStart, is_piece, pieces_before}
use Rattle.dw_stack.specs.Paths.{IsGood, AreStates, IsDepth}
use Rattle.dw_stack.specs.Machine.{LocationDescription, Piece, Configuration, EvaluationError, Meaning}
use Rattle.dw_stack.specs.Machine.{entry, location_named, jumps, JumpsTo}
use Rattle.dw_stack.specs.Machine.{extent_of, location_of, stack_after, pieces_after, CanDo, Meets, Step, Run, offsets_of, Starts}
use Rattle.dw_stack.specs.Machine.{PendingIs, has_pieces, Agrees, IsNotStuck, IsOver, RunsWell}
use Rattle.dw_stack.proofs.Places.{place_of_some, place_past, place_mono, place_inj}
use Rattle.dw_stack.proofs.paths.Heights.{next_height_le}
use Rattle.dw_stack.proofs.Pieces.{pieces_mono, pieces_with, length-pieces_after}
use Rattle.dw_stack.proofs.paths.Ends.{pieced_after, result_there}
use Rattle.dw_stack.proofs.paths.Routes.{reach_from, extend, at_start, reached_place, edge_lands}

-- for each operation: the location that is pending after the operation is as its role says
pending_is : (op : Operation) (s : List ℕ) (p : Option LocationDescription) (h : ℕ) (b : Bool) → p ≡ location_named op s
    → PendingIs (next_mode (effect_of op).role h b).mode p (next_mode (effect_of op).role h b).height
pending_is (reg r) s p h b e = (r, e)
pending_is (regx r) s p h b e = (r, e)
pending_is (implicit_value bytes) s p h b e = inr (bytes, e)
pending_is stack_value s p h b e = inl (entry s 0, e)
pending_is (piece n) s p h b e = (e, refl)
pending_is (bit_piece n m) s p h b e = (e, refl)
pending_is _ s p h b e = e

-- for each operation: if it jumps, its effect has a jump; otherwise its effect falls through
branches : (op : Operation) (s : List ℕ) → MatchBool (jumps op s) ((z : ℤ) × ((effect_of op).jump ≡ Some z))
    (IsTrue (effect_of op).falls_through)
branches (bra z) s = either (not (eqb (entry s 0) 0))
  where
    either : (b : Bool) → MatchBool b ((y : ℤ) × ((effect_of (bra z)).jump ≡ Some y)) (IsTrue true)
    either true = (z, refl)
    either false = refl
branches (skip z) s = (z, refl)
branches _ s = refl

-- for each role: after an operation, the run's stack height is as the next state says
height_past : (r : Role) (new rest : List ℕ) (b : Bool)
    → length (stack_after r new rest) ≡ (next_mode r (length rest + length new) b).height
height_past role.Piece new rest b = refl
height_past role.Plain new rest b = let e = length-append rest new in omega (arith, e)
height_past role.Register new rest b = let e = length-append rest new in omega (arith, e)
height_past role.Bytes new rest b = let e = length-append rest new in omega (arith, e)
height_past role.Top new rest b = let e = length-append rest new in omega (arith, e)

parts_push : (parts : List Piece) (p : Piece) → has_pieces (parts ++ p ∷ []) ≡ true
parts_push [] p = refl
parts_push (q ∷ parts) p = refl

pieced_past : (r : Role) (h : ℕ) (b : Bool) (parts : List Piece) (p : Piece) → b ≡ has_pieces parts
    → (next_mode r h b).pieced ≡ has_pieces (pieces_after r parts p)
pieced_past role.Piece h b parts p e = sym (parts_push parts p)
pieced_past role.Plain h b parts p e = e
pieced_past role.Register h b parts p e = e
pieced_past role.Bytes h b parts p e = e
pieced_past role.Top h b parts p e = e

-- if a configuration agrees with a state, the configuration after one step agrees with the state
-- after that step
agrees_after : (m : Meaning) (ops : List Placed) (len : ℕ) (s : StackState) (c d : Configuration) (t : Step m ops len c d) → Agrees s c
    → Agrees (state_after (effect_of t.meets.placed.1) s) d
agrees_after m ops len s c d t a = record {
  height = ap length t.stack ∙ height_past e.role t.new (take (length c.stack - e.takes) c.stack) s.pieced
      ∙ ap (λ (n : ℕ). (next_mode e.role n s.pieced).height) counts;
  pending = pending_is op c.stack d.pending (s.height - e.takes + e.adds) s.pieced t.pending;
  pieces = pieced_past e.role (s.height - e.takes + e.adds) s.pieced c.pieces
      (record { location = location_of c.stack c.pending; size = extent_of op }) a.pieces ∙ ap has_pieces (sym t.pieces);
}
  where
    op : Operation
    op = t.meets.placed.1

    e : StackEffect
    e = effect_of t.meets.placed.1

    counts : length (take (length c.stack - (effect_of t.meets.placed.1).takes) c.stack) + length t.new ≡ s.height -
        (effect_of t.meets.placed.1).takes + (effect_of t.meets.placed.1).adds
    counts =
        let l = length-take (length c.stack - (effect_of t.meets.placed.1).takes) c.stack in
        let fair = m.fair t.meets.placed.1 c.stack t.new t.meets.entries t.answered in
        omega (arith, l, fair, a.height)

-- if a state allows an operation with this role, a configuration that agrees with the state allows
-- it, too
can_do : (r : Role) (m : Mode) (h n : ℕ) (p : Option LocationDescription) → n ≡ h → StandsAlone r m h → PendingIs m p h → CanDo r n p
can_do role.Piece mode.Stack h n None e alone is = omega (arith, leb-true h 1 alone, e)
can_do role.Piece mode.AfterPiece h n None e alone is = let z = is.1 in omega (arith, z, e)
can_do role.Piece mode.Register h n None e alone is = omega (arith, eqb-true h 0 alone, e)
can_do role.Piece mode.Value h n None e alone is = omega (arith, eqb-true h 0 alone, e)
can_do role.Piece mode.Stack h n (Some p) e alone is = absurd (cc)
can_do role.Piece mode.AfterPiece h n (Some p) e alone is = let no_p = is.0 in absurd (cc)
can_do role.Piece mode.Register h n (Some p) e alone is = e ∙ eqb-true h 0 alone
can_do role.Piece mode.Value h n (Some p) e alone is = e ∙ eqb-true h 0 alone
can_do role.Register mode.Stack h n None e alone is = e ∙ eqb-true h 0 alone
can_do role.Register mode.AfterPiece h n None e alone is = e ∙ eqb-true h 0 alone
can_do role.Bytes mode.Stack h n None e alone is = e ∙ eqb-true h 0 alone
can_do role.Bytes mode.AfterPiece h n None e alone is = e ∙ eqb-true h 0 alone
can_do role.Plain mode.Stack h n None e alone is = tt
can_do role.Plain mode.AfterPiece h n None e alone is = tt
can_do role.Top mode.Stack h n None e alone is = tt
can_do role.Top mode.AfterPiece h n None e alone is = tt
can_do r mode.Stack h n (Some p) e alone is = absurd (cc)
can_do r mode.AfterPiece h n (Some p) e alone is = let no_p = is.0 in absurd (cc)
can_do r mode.Register h n p e alone is = absurd (cc)
can_do r mode.Value h n p e alone is = absurd (cc)

-- a run followed by one more step is a run
pub run_more : (m : Meaning) (ops : List Placed) (len n : ℕ) (c d e : Configuration) → Run m ops len n c d → Step m ops len d e
    → Run m ops len (suc n) c e
run_more m ops len zero c d e run t = (e, subst (λ (x : Configuration). Step m ops len x e) (sym run) t, refl)
run_more m ops len (suc n) c d e run t = (run.0, run.1, run_more m ops len n run.0 d e run.2 t)

module _ (kind : Kind) (ops : List Placed) (len : ℕ) (laid : IsLaidOut ops len) (good : IsGood kind ops len) where
  -- no branch of a good expression is backward
  pub ahead_of : (k : ℕ) (x : Placed) (z : ℤ) → slice_get ops k ≡ Some x → (effect_of x.1).jump ≡ Some z → (n : ℕ) × (z ≡ pos n)
  ahead_of k x (pos n) stands jump = (n, refl)
  ahead_of k x (negsuc n) stands jump = absurd (good.ahead k (negsuc n) x stands jump refl)

  -- if an operation lets a run jump to offset b, its branch target on a path is b
  target_is : (k b : ℕ) (x : Placed) (o : Option ℤ) → slice_get ops k ≡ Some x → (effect_of x.1).jump ≡ o
      → JumpsTo o (place ops len (k + 1)) b → jump_target (place ops len (k + 1)) o ≡ Some b
  target_is k b x None stands jump to = absurd to
  target_is k b x (Some (pos n)) stands jump to = let same : pos b ≡ pos (place ops len (k + 1) + n) = to in cc
  target_is k b x (Some (negsuc n)) stands jump to = absurd (good.ahead k (negsuc n) x stands jump refl)

  leads_there : (k b : ℕ) (x : Placed) (j : Bool) → slice_get ops k ≡ Some x
      → MatchBool j ((z : ℤ) × ((effect_of x.1).jump ≡ Some z)) (IsTrue (effect_of x.1).falls_through)
      → MatchBool j (JumpsTo (effect_of x.1).jump (place ops len (k + 1)) b) (b ≡ place ops len (k + 1)) → Leads ops len k (effect_of x.1) b
  leads_there k b x true stands br to = let there = target_is k b x (effect_of x.1).jump stands refl to in
      inr (there, good.targets k b x stands there)
  leads_there k b x false stands br to = inl (br, to)

  -- a step of a run follows an edge
  pub step_edge : (m : Meaning) (s : StackState) (c d : Configuration) (t : Step m ops len c d)
      → Edge ops len c.offset s d.offset (state_after (effect_of t.meets.placed.1) s)
  step_edge m s c d t = record {
    number = t.meets.number;
    placed = t.meets.placed;
    stands = t.meets.stands;
    from = t.meets.from;
    leads = leads_there t.meets.number d.offset t.meets.placed (jumps t.meets.placed.1 c.stack) t.meets.stands
        (branches t.meets.placed.1 c.stack) t.to;
    state = refl;
  }

  -- a path reaches the offset of the run's configuration with a state that the configuration agrees
  -- with
  Stands : Configuration → Type 0
  Stands c = (s : StackState) × Reaches kind ops len c.offset s × Agrees s c

  run_follows : (m : Meaning) (n : ℕ) (c d : Configuration) → Stands c → Run m ops len n c d → Stands d
  unfolding Stands
  run_follows m zero c d r run = subst (λ (e : Configuration). (s : StackState) × Reaches kind ops len e.offset s × Agrees s e) run r
  run_follows m (suc n) c d r run =
      let t = run.1 in
      let after = state_after (effect_of t.meets.placed.1) r.0 in
      run_follows m n run.0 d (
        after,
        extend kind ops len c.offset r.0 run.0.offset after r.1 (step_edge m r.0 c run.0 t),
        agrees_after m ops len r.0 c run.0 t r.2,
      ) run.2

  agrees_at_start : (c : Configuration) → Starts kind c → Agrees (start_of kind) c
  agrees_at_start c s = record {
    height = s.stack;
    pending = plain kind c.pending s.pending;
    pieces = unpieced kind c.pieces s.pieces;
  }
    where
      plain : (k : Kind) (p : Option LocationDescription) → p ≡ None → PendingIs (start_of k).mode p (start_of k).height
      plain FrameCfa p e = e
      plain FrameRegister p e = e
      plain Location p e = e

      unpieced : (k : Kind) (ps : List Piece) → ps ≡ [] → (start_of k).pieced ≡ has_pieces ps
      unpieced FrameCfa ps e = ap has_pieces (sym e)
      unpieced FrameRegister ps e = ap has_pieces (sym e)
      unpieced Location ps e = ap has_pieces (sym e)

  starts : (c : Configuration) → Starts kind c → Stands c
  unfolding Stands
  starts c s = (
    start_of kind,
    reach_from kind ops len 0 c.offset (start_of kind) (start_of kind) (sym s.offset) refl (at_start kind ops len),
    agrees_at_start c s,
  )

  -- each step goes to a later operation: after n steps from operation i, a run is at operation i +
  -- n or later, or at the end
  run_later : (m : Meaning) (n i : ℕ) (c d : Configuration) → i ≤ length ops → place ops len i ≡ c.offset → Run m ops len n c d
      → (j : ℕ) × (i + n ≤ j) × (j ≤ length ops) × (place ops len j ≡ d.offset)
  run_later m zero i c d le at run = (i, omega arith, le, at ∙ ap (λ (e : Configuration). e.offset) run)
  run_later m (suc n) i c d le at run =
      let t = run.1 in
      let e = step_edge m (start_of kind) c run.0 t in
      let l = edge_lands ops len c.offset (start_of kind) run.0.offset (state_after (effect_of t.meets.placed.1) (start_of kind)) e in
      let same : e.number ≡ i = place_inj ops len laid e.number i (omega (arith, slice_get_within ops e.number e.placed e.stands)) le
      (place_of_some ops len e.number e.placed e.stands ∙ e.from ∙ sym at) in
      let later = run_later m n l.number run.0 d l.within l.there run.2 in
      (later.0, omega (arith, later.1, l.later, same), later.2, later.3)

  -- a run that meets an operation hasn't reached the end
  before_end : (j : ℕ) (d : Configuration) → j ≤ length ops → place ops len j ≡ d.offset → Meets ops d → j + 1 ≤ length ops
  before_end j d le at t =
      let within = slice_get_within ops t.number t.placed t.stands in
      let same : t.number ≡ j = place_inj ops len laid t.number j (omega (arith, within)) le
      (place_of_some ops len t.number t.placed t.stands ∙ t.from ∙ sym at) in
      omega (arith, same, within)

  -- a step goes to a higher offset
  pub step_later : (m : Meaning) (c d : Configuration) → Step m ops len c d → c.offset < d.offset
  step_later m c d t =
      let e = step_edge m (start_of kind) c d t in
      let l = edge_lands ops len c.offset (start_of kind) d.offset (state_after (effect_of t.meets.placed.1) (start_of kind)) e in
      omega (
        arith,
        l.there,
        e.from,
        place_of_some ops len e.number e.placed e.stands,
        place_mono ops len laid e.number l.number l.later l.within,
      )

  -- the configuration after the operation x has pushed `new`, at offset `at`
  past : (x : Placed) (c : Configuration) (new : List ℕ) → ℕ → Configuration
  past x c new at = record {
    offset = at;
    stack = stack_after (effect_of x.1).role new (take (length c.stack - (effect_of x.1).takes) c.stack);
    pending = location_named x.1 c.stack;
    pieces = pieces_after (effect_of x.1).role c.pieces (record { location = location_of c.stack c.pending; size = extent_of x.1 });
  }

  -- if a configuration meets an operation that doesn't fail, there is a next step
  go_to : (m : Meaning) (c : Configuration) (new : List ℕ) (t : Meets ops c) (j : Bool) → m.answer t.placed.1 c.stack ≡ Ok new
      → j ≡ jumps t.placed.1 c.stack → MatchBool j ((z : ℤ) × ((effect_of t.placed.1).jump ≡ Some z))
      (IsTrue (effect_of t.placed.1).falls_through) → (e : Configuration) × Step m ops len c e
  unfolding past
  go_to m c new t true answered is br =
      let next : ℕ = place ops len (t.number + 1) in
      let ahead = ahead_of t.number t.placed br.0 t.stands br.1 in
      let jump : (effect_of t.placed.1).jump ≡ Some (pos ahead.0) = br.1 ∙ ap (λ (z : ℤ). Some z) ahead.1 in
      let there : JumpsTo (effect_of t.placed.1).jump next (next + ahead.0) =
      subst (λ (o : Option ℤ). JumpsTo o next (next + ahead.0)) (sym jump) refl in (
        past t.placed c new (next + ahead.0),
        record {
          meets = t;
          new = new;
          answered = answered;
          to = subst (λ (b : Bool). MatchBool b (JumpsTo (effect_of t.placed.1).jump next (next + ahead.0))
              (next + ahead.0 ≡ next)) is there;
          stack = refl;
          pending = refl;
          pieces = refl;
        },
      )
  go_to m c new t false answered is br =
      let next : ℕ = place ops len (t.number + 1) in (
        past t.placed c new next,
        record {
          meets = t;
          new = new;
          answered = answered;
          to = subst (λ (b : Bool). MatchBool b (JumpsTo (effect_of t.placed.1).jump next next) (next ≡ next)) is refl;
          stack =
              refl;
          pending = refl;
          pieces = refl;
        },
      )

  -- a configuration that meets an operation isn't stuck: there is a next step, or the operation
  -- fails
  answer_of : (m : Meaning) (c : Configuration) (t : Meets ops c) (a : Result (List ℕ) EvaluationError) → m.answer t.placed.1 c.stack ≡ a
      → IsNotStuck kind m ops len c
  answer_of m c t (Ok new) is = inr (inl (go_to m c new t (jumps t.placed.1 c.stack) is refl (branches t.placed.1 c.stack)))
  answer_of m c t (Err why) is = inr (inr (why, record { meets = t; answered = is }))

  -- if a path reaches an operation with a state, a configuration that is there and agrees with that
  -- state has everything that the operation needs
  pub meets_at : (c : Configuration) (s : StackState) → Reaches kind ops len c.offset s → Agrees s c → (k : ℕ) (x : Placed)
      → slice_get ops k ≡ Some x → x.0 ≡ c.offset → Meets ops c
  meets_at c s there agrees k x stands at =
      let here = reach_from kind ops len c.offset x.0 s s (sym at) refl there in
      let needs = good.needs k x s stands here in
      record {
        number = k;
        placed = x;
        stands = stands;
        from = at;
        entries = omega (arith, needs, agrees.height);
        can = can_do (effect_of x.1).role s.mode s.height (length c.stack) c.pending agrees.height
            (good.alone k x s stands here) agrees.pending;
      }

  -- a run isn't stuck: there is a next step, or the next operation fails, or the run is at the end
  -- with a result
  on_from : (m : Meaning) (c : Configuration) → Stands c → IsNotStuck kind m ops len c
  unfolding Stands
  on_from m c r =
      let p = reached_place kind ops len laid c.offset r.0 r.1 in
      elim (slice_get_cases ops p.0).1 [
        | inl found ↦
            let x : Placed = found.0 in
            let at : x.0 ≡ c.offset = sym (place_of_some ops len p.0 x found.2) ∙ p.2 in
            let t = meets_at c r.0 r.1 r.2 p.0 x found.2 at in
            answer_of m c t (m.answer t.placed.1 c.stack) refl
        | inr past ↦
            let here : c.offset ≡ len = sym p.2 ∙ place_past ops len p.0 past.0 in
            let reached = reach_from kind ops len c.offset len r.0 r.0 here refl r.1 in
            inl (record {
              there = here;
              result = result_there kind (length ops == 0) r.0 c (pieced_after kind ops len len r.0 reached) r.2
                  (good.ends r.0 reached);
            })
      ]

  -- no stack has more entries than the depth
  bound : (m : Meaning) (n depth : ℕ) (c d : Configuration) → IsDepth kind ops len depth → Stands c → length c.stack ≤ depth
      → Run m ops len n c d → length d.stack ≤ depth
  unfolding Stands
  bound m zero depth c d deep r le run = let same = ap (λ (e : Configuration). length e.stack) run in omega (arith, same)
  bound m (suc n) depth c d deep r le run =
      let t = run.1 in
      let after = state_after (effect_of t.meets.placed.1) r.0 in
      let agrees = agrees_after m ops len r.0 c run.0 t r.2 in
      let below = deep.greatest (height_after (effect_of t.meets.placed.1) r.0)
      (inr (
        t.meets.number,
        t.meets.placed,
        r.0,
        t.meets.stands,
        reach_from kind ops len c.offset t.meets.placed.0 r.0 r.0
            (sym t.meets.from) refl r.1,
        inr refl,
      )) in
      let low = next_height_le (effect_of t.meets.placed.1).role (height_after (effect_of t.meets.placed.1) r.0) r.0.pieced in
      bound m n depth run.0 d deep (after, extend kind ops len c.offset r.0 run.0.offset after r.1 (step_edge m r.0 c run.0 t), agrees)
      (omega (arith, agrees.height, below, low)) run.2

  -- a run that can take no more than `left` further steps can be carried on until it is over
  finish_in : (left : ℕ) (m : Meaning) (c : Configuration) → Starts kind c → (n : ℕ) (d : Configuration) → length ops ≤ n + left
      → Run m ops len n c d → Stands d → (k : ℕ) × (e : Configuration) × Run m ops len k c e × IsOver kind m ops len e
  finish_in zero m c s n d enough run here = elim (on_from m d here) [
    | inl over ↦ (n, d, run, inl over)
    | inr rest ↦ elim rest [
      | inl step ↦
          let l = run_later m (suc n) 0 c step.0 (omega arith) (laid.first ∙ sym s.offset) (run_more m ops len n c d step.0 run step.1) in
          absurd (omega (arith, l.1, l.2, enough))
      | inr stop ↦ (n, d, run, inr stop)
    ]
  ]
  finish_in (suc left) m c s n d enough run here = elim (on_from m d here) [
    | inl over ↦ (n, d, run, inl over)
    | inr rest ↦ elim rest [
      | inl step ↦ let more = run_more m ops len n c d step.0 run step.1 in
          finish_in left m c s (suc n) step.0 (omega (arith, enough)) more (run_follows m (suc n) c step.0 (starts c s) more)
      | inr stop ↦ (n, d, run, inr stop)
    ]
  ]

  -- the offsets that a run reaches are a path
  run_path : (m : Meaning) (n : ℕ) (c d : Configuration) (s : StackState) → Agrees s c → (run : Run m ops len n c d)
      → (t : StackState) × Follows ops len c.offset s (offsets_of m ops len n c d run) d.offset t × Agrees t d
  run_path m zero c d s agrees run = (
    s,
    (ap (λ (e : Configuration). e.offset) run, refl),
    subst (λ (e : Configuration). Agrees s e) run agrees,
  )
  run_path m (suc n) c d s agrees run =
      let t = run.1 in
      let after = state_after (effect_of t.meets.placed.1) s in
      let rest = run_path m n run.0 d after (agrees_after m ops len s c run.0 t agrees) run.2 in
      (rest.0, (after, step_edge m s c run.0 t, rest.1), rest.2)

  path_from_start : (m : Meaning) (c d : Configuration) (n : ℕ) → Starts kind c → (run : Run m ops len n c d)
      → (s : StackState) × Follows ops len 0 (start_of kind) (offsets_of m ops len n c d run) d.offset s × Agrees s d
  unfolding Stands
  path_from_start m c d n s run =
      let p = run_path m n c d (start_of kind) (agrees_at_start c s) run in
      (p.0, subst (λ (at : ℕ). Follows ops len at (start_of kind) (offsets_of m ops len n c d run) d.offset p.0) s.offset p.1, p.2)

  -- a run has no more pieces than there are piece operations before the operation where it is
  run_pieces : (m : Meaning) (n i : ℕ) (c d : Configuration) → i ≤ length ops → place ops len i ≡ c.offset
      → length c.pieces ≤ pieces_before ops i → Run m ops len n c d → (j : ℕ) × (j ≤ length ops) × (place ops len j ≡ d.offset)
      × (length d.pieces ≤ pieces_before ops j)
  run_pieces m zero i c d le at few run =
      let same = ap (λ (e : Configuration). length e.pieces) run in
      (i, le, at ∙ ap (λ (e : Configuration). e.offset) run, omega (arith, same, few))
  run_pieces m (suc n) i c d le at few run =
      let t = run.1 in
      let x = t.meets.placed in
      let e = step_edge m (start_of kind) c run.0 t in
      let l = edge_lands ops len c.offset (start_of kind) run.0.offset (state_after (effect_of x.1) (start_of kind)) e in
      let same : e.number ≡ i = place_inj ops len laid e.number i (omega (arith, slice_get_within ops e.number e.placed e.stands)) le
      (place_of_some ops len e.number e.placed e.stands ∙ e.from ∙ sym at) in
      let here : t.meets.number ≡ i = place_inj ops len laid t.meets.number i
      (omega (arith, slice_get_within ops t.meets.number x t.meets.stands)) le
      (place_of_some ops len t.meets.number x t.meets.stands ∙ t.meets.from ∙ sym at) in
      let named_here = pieces_with ops t.meets.number x t.meets.stands in
      let before : pieces_before ops t.meets.number ≡ pieces_before ops i = ap (pieces_before ops) here in
      let later = pieces_mono ops (t.meets.number + 1) l.number (omega (arith, l.later, same, here)) in
      let more = ap length t.pieces ∙ length-pieces_after (effect_of x.1).role c.pieces
      (record { location = location_of c.stack c.pending; size = extent_of x.1 }) in
      run_pieces m n l.number run.0 d l.within l.there (omega (arith, few, named_here, before, later, more)) run.2

  pieces_at : (m : Meaning) (c d : Configuration) (n : ℕ) → Starts kind c → Run m ops len n c d
      → (j : ℕ) × (j ≤ length ops) × (place ops len j ≡ d.offset) × (length d.pieces ≤ pieces_before ops j)
  pieces_at m c d n s run = run_pieces m n 0 c d (omega arith) (laid.first ∙ sym s.offset) (let none = ap length s.pieces in
      omega (arith, none)) run

  few_pieces : (m : Meaning) (c d : Configuration) (n : ℕ) → Starts kind c → Run m ops len n c d → length d.pieces ≤ MAX_PIECES
  few_pieces m c d n s run =
      let there = pieces_at m c d n s run in
      omega (arith, there.3, pieces_mono ops there.0 (length ops) there.1, good.pieces)

  counted : Bool → ℕ
  counted b = cond b 1 0

  room_for_piece : (m : Meaning) (c d : Configuration) (n : ℕ) → Starts kind c → Run m ops len n c d → (t : Meets ops d)
      → is_piece (effect_of t.placed.1).role ≡ true → length d.pieces < MAX_PIECES
  unfolding counted
  room_for_piece m c d n s run t names =
      let there = pieces_at m c d n s run in
      let lt = slice_get_within ops t.number t.placed t.stands in
      let same : t.number ≡ there.0 = place_inj ops len laid t.number there.0 (omega (arith, lt)) there.1
      (place_of_some ops len t.number t.placed t.stands ∙ t.from ∙ sym there.2) in
      let before : pieces_before ops t.number ≡ pieces_before ops there.0 = ap (pieces_before ops) same in
      let names_one = ap (λ (b : Bool). counted b) names in
      let more = pieces_with ops t.number t.placed t.stands in
      omega (arith, there.3, before, names_one, more, pieces_mono ops (t.number + 1) (length ops) (omega (arith, lt)), good.pieces)

  room_at : (m : Meaning) (depth : ℕ) (c d : Configuration) (n : ℕ) → IsDepth kind ops len depth → Starts kind c → Run m ops len n c d
      → (t : Meets ops d) → length d.stack - (effect_of t.placed.1).takes + (effect_of t.placed.1).adds ≤ depth
  unfolding Stands
  room_at m depth c d n deep s run t =
      let here = run_follows m n c d (starts c s) run in
      let below = deep.greatest (height_after (effect_of t.placed.1) here.0)
      (inr (
        t.number,
        t.placed,
        here.0,
        t.stands,
        reach_from kind ops len d.offset t.placed.0 here.0 here.0 (sym t.from) refl here.1,
        inr refl,
      )) in
      omega (arith, below, here.2.height)

  starts_within : (j at : ℕ) → place ops len j ≡ at → IsStart ops len at
  starts_within j at e = elim (slice_get_cases ops j).1 [
    | inl found ↦ inr (j, found.0, found.2, sym (place_of_some ops len j found.0 found.2) ∙ e)
    | inr past ↦ inl (sym e ∙ place_past ops len j past.0)
  ]

  pub stands_on_start : (m : Meaning) (c d : Configuration) (n : ℕ) → Starts kind c → Run m ops len n c d → IsStart ops len d.offset
  stands_on_start m c d n s run =
      let l = run_later m n 0 c d (omega arith) (laid.first ∙ sym s.offset) run in
      starts_within l.0 d.offset l.3

  pub good_runs : (depth : ℕ) → IsDepth kind ops len depth → RunsWell kind ops len depth
  unfolding Stands
  good_runs depth deep = record {
    follows = λ m c d n s run. run_follows m n c d (starts c s) run;
    path = path_from_start;
    forward = λ m c d e n s run t. step_later m d e t;
    stands = stands_on_start;
    room = λ m c d n s run t. room_at m depth c d n deep s run t;
    pieces = few_pieces;
    room_for_piece = room_for_piece;
    bounded = λ m c d n s run. bound m n depth c d deep (starts c s)
        (omega (arith, s.stack, deep.greatest (start_of kind).height (inl refl))) run;
    short = λ m c d n s run. let l = run_later m n 0 c d (omega arith) (laid.first ∙ sym s.offset) run in omega (arith, l.1, l.2);
    stops = λ m c d n why s run stop. let l = run_later m n 0 c d (omega arith) (laid.first ∙ sym s.offset) run in
        let b = before_end l.0 d l.2 l.3 stop.meets in omega (arith, l.1, b);
    goes_on = λ m c d n s run. on_from m d (run_follows m n c d (starts c s) run);
    ends = λ m c d n s run at.
        let r = run_follows m n c d (starts c s) run in
        let reached = reach_from kind ops len d.offset len r.0 r.0 at refl r.1 in
        (r.0, reached, r.2, good.ends r.0 reached);
    finishes = λ m c s. finish_in (length ops) m c s 0 c (omega arith) refl (starts c s);
  }

  pub run_stands : (m : Meaning) (n : ℕ) (c d : Configuration) → Starts kind c → Run m ops len n c d
      → (s : StackState) × Reaches kind ops len d.offset s × Agrees s d
  unfolding Stands
  run_stands m n c d s run = run_follows m n c d (starts c s) run

  -- if a run is at an operation, it agrees with the certificate's state for that operation
  pub as_certified : (states : List State) → AreStates kind ops len states → (m : Meaning) (c d : Configuration) (n k : ℕ) → Starts kind c
      → Run m ops len n c d → k < length ops → d.offset ≡ place ops len k
      → (s : StackState) × (slice_get states k ≡ Some (at_offset d.offset s)) × Agrees s d
  as_certified states are m c d n k s run lt at =
      let here = run_stands m n c d s run in
      elim (slice_get_cases ops k).1 [
        | inl found ↦
            let same : d.offset ≡ found.0.0 = at ∙ place_of_some ops len k found.0 found.2 in
            let state = are.each k found.0 here.0 found.2 (reach_from kind ops len d.offset found.0.0 here.0 here.0 same refl here.1) in
            (here.0, state ∙ ap (λ (n : ℕ). Some (at_offset n here.0)) (sym same), here.2)
        | inr past ↦ absurd (omega (arith, lt, past.0))
      ]
