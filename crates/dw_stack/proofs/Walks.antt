-- What is known after the pass has checked the first i operations.
use Rattle.std.proofs.Common.{◌≡◌, ℕ, ℤ, zero, suc, ◌+◌, ◌<◌, ◌≤◌, ◌⊎◌, Bool, true, false, List, [], ◌∷◌, ◌++◌, length, get_or, Option}
use Rattle.std.proofs.Common.{Some, None, refl, sym, ap, ◌∙◌, subst, inl, inr, arith, IsTrue, cond, length-append}
use Rattle.std.specs.Prelude.{slice_get, max}
use Rattle.std.proofs.lemmas.Bool.{cases_lt}
use Rattle.std.proofs.lemmas.Option.{slice_get_within, same_Some}
use Rattle.dw_stack.specs.Paths.{Placed}
use Rattle.dw_stack.specs.declared.operation_check.OutState.{OutState}
use Rattle.dw_stack.specs.declared.effect.StackEffect.{StackEffect}
use Rattle.dw_stack.specs.declared.operation_check.TheConstants.{MAX_HEIGHT}
use Rattle.dw_stack.specs.declared.in_state.InState.{InState}
use Rattle.dw_stack.specs.declared.in_state.InState.TheVariants.{Unreached, Known}
use Rattle.dw_stack.specs.declared.step.Done.{Done}
use Rattle.dw_stack.specs.declared.state.StackState.{StackState}
use Rattle.dw_stack.specs.declared.state.State.{State}
use Rattle.dw_stack.specs.declared.state.Kind.{Kind}
use Rattle.dw_stack.specs.declared.operation_check.TheConstants.{MAX_PIECES}
use Rattle.dw_stack.specs.Effects.{effect_of}
use Rattle.dw_stack.specs.States.{start_of, StandsAlone, height_after, state_after, at_offset}
use Rattle.dw_stack.specs.Paths.{place, IsLaidOut, branch_target, jump_target, branch_target_of, IsTarget, Leads, Edge, Reaches, IsAllowed}
use Rattle.dw_stack.specs.Paths.{is_piece, pieces_before}
use Rattle.dw_stack.specs.Faults.{FitsCertificate}
use Rattle.dw_stack.specs.OperationCheck.{Checked, TargetIs}
use Rattle.dw_stack.specs.InStates.{PassesOn, Stepped}
use Rattle.dw_stack.proofs.Places.{place_of_some, place_inj, place_mono}
use Rattle.dw_stack.proofs.paths.Routes.{reach_from, Comes, reaches_from_comes, comes_from_reaches}
use Rattle.dw_stack.proofs.paths.Describes.{Describes, describes_same, describes_is, describes_next, describes_target, length_next, length_target}
use Rattle.std.proofs.lemmas.List.Sums.{count_by_more_yes, count_by_more_no}
use Rattle.std.proofs.lemmas.Option.{get_or_from_slice_get}

-- the operation x, numbered k, is allowed in state s, and its jump, if it has one, has a target
pub record Fine (kind : Kind) (ops : List Placed) (len k : ℕ) (x : Placed) (s : StackState) : Type 0 where
  pub allowed : IsAllowed kind (effect_of x.1)
  pub alone : StandsAlone (effect_of x.1).role s.mode s.height
  pub needs : (effect_of x.1).needs ≤ s.height
  pub limit : height_after (effect_of x.1) s ≤ MAX_HEIGHT
  pub few : is_piece (effect_of x.1).role ≡ true → pieces_before ops k < MAX_PIECES
  pub ahead : (z : ℤ) → (effect_of x.1).jump ≡ Some z → branch_target (place ops len (k + 1)) z ≡ None → ⊥
  pub target : (t : ℕ) → branch_target_of ops len k (effect_of x.1) ≡ Some t → IsTarget ops len k t

-- s is the only state with which paths reach the operation numbered k, and the operation passes all
-- checks in it
pub record Accepted (kind : Kind) (ops : List Placed) (len : ℕ) (given : Option (List State)) (k : ℕ) (s : StackState) : Type 0 where
  pub reached : Reaches kind ops len (place ops len k) s
  pub one : (t : StackState) → Reaches kind ops len (place ops len k) t → t ≡ s
  pub given_is : FitsCertificate ops len given k s
  pub fine : (x : Placed) → slice_get ops k ≡ Some x → Fine kind ops len k x s

-- h is the stack height before or after an operation numbered below i on a path, or at the start of
-- the expression
abbrev pub TouchesBelow : Kind → List Placed → ℕ → ℕ → ℕ → Type 0
TouchesBelow kind ops len i h =
    (h ≡ (start_of kind).height) ⊎ ((k : ℕ) × (x : Placed) × (s : StackState) × (slice_get ops k ≡ Some x) × Reaches kind ops len x.0 s
    × ((h ≡ s.height) ⊎ (h ≡ height_after (effect_of x.1) s)) × (k < i))

pub record DepthBelow (kind : Kind) (ops : List Placed) (len i d : ℕ) : Type 0 where
  pub touched : TouchesBelow kind ops len i d
  pub greatest : (h : ℕ) → TouchesBelow kind ops len i h → h ≤ d

pub record Walked (kind : Kind) (ops : List Placed) (len : ℕ) (given : Option (List State)) (i : ℕ) (states : List State)
    (in_states : List InState) (depth pieces : ℕ) : Type 0 where
  pub long : length states ≡ i
  pub accepted : (k : ℕ) (t : State) → slice_get states k ≡ Some t → (s : StackState) × (t ≡ at_offset (place ops len k) s)
      × Accepted kind ops len given k s
  pub wide : length in_states ≡ length ops + 1
  pub described : (j : ℕ) → i ≤ j → j ≤ length ops → Describes (get_or in_states j Unreached) (Comes kind ops len i (place ops len j))
  pub deepest : DepthBelow kind ops len i depth
  pub counted : pieces ≡ pieces_before ops i
  pub few : pieces ≤ MAX_PIECES

-- if h is added at the end of a list, an element of the new list is in the old list or is h
pub get_push : (hs : List State) (h : State) (k : ℕ) (g : State) → slice_get (hs ++ h ∷ []) k ≡ Some g
    → (slice_get hs k ≡ Some g) ⊎ ((k ≡ length hs) × (h ≡ g))
get_push [] h zero g e = inr (refl, same_Some h g e)
get_push [] h (suc k) g e = absurd (cc)
get_push (x ∷ hs) h zero g e = inl e
get_push (x ∷ hs) h (suc k) g e =
    elim (get_push hs h k g e) [
      | inl old ↦ inl old
      | inr new ↦ inr (omega (arith, new.0), new.1)
    ]

module _ (kind : Kind) (ops : List Placed) (len : ℕ) (laid : IsLaidOut ops len) (given : Option (List State)) (i pieces : ℕ)
    (h : StackState) (out : OutState) (lt : i < length ops) (j : Checked kind ops len i pieces h out) where
  -- the operation numbered i leads to the operation numbered n, or to the end, with state g
  Goes : ℕ → StackState → Type 0
  Goes n g = Leads ops len i (effect_of j.placed.1) (place ops len n) × (g ≡ out.state)

  -- if one of the first i + 1 operations leads to the operation numbered n with state g, then one
  -- of the first i operations does, or the operation numbered i does
  comes_more : ((g : StackState) → Reaches kind ops len (place ops len i) g → g ≡ h) → (n : ℕ) (g : StackState)
      → Comes kind ops len (i + 1) (place ops len n) g → Comes kind ops len i (place ops len n) g ⊎ Goes n g
  unfolding Goes
  comes_more one n g c =
      elim c [
        | inl same ↦ inl (inl same)
        | inr before ↦ elim (cases_lt before.last.edge.number i) [
          | inl below ↦ inl (inr (record { last = before.last; below = below }))
          | inr above ↦
              let e = before.last.edge in
              let same : e.number ≡ i = omega (arith, before.below) in
              let here : slice_get ops i ≡ Some e.placed = ap (slice_get ops) (sym same) ∙ e.stands in
              let placed : e.placed ≡ j.placed = same_Some e.placed j.placed (sym here ∙ j.stands) in
              let at : before.last.a ≡ place ops len i = sym e.from ∙ sym (place_of_some ops len i e.placed here) in
              let h_is : before.last.h ≡ h = one before.last.h
              (reach_from kind ops len before.last.a (place ops len i) before.last.h before.last.h at refl before.last.reached) in
              let leads : Leads ops len i (effect_of e.placed.1) (place ops len n) =
              subst (λ (x : ℕ). Leads ops len x (effect_of e.placed.1) (place ops len n)) same e.leads in
              let leads' : Leads ops len i (effect_of j.placed.1) (place ops len n) =
              subst (λ (x : Placed). Leads ops len i (effect_of x.1) (place ops len n)) placed leads in
              let g_is : g ≡ out.state = e.state ∙ ap (λ (x : Placed). state_after (effect_of x.1) before.last.h) placed
              ∙ ap (state_after (effect_of j.placed.1)) h_is ∙ sym j.state in
              inr (leads', g_is)
        ]
      ]

  comes_back : Reaches kind ops len (place ops len i) h → (n : ℕ) (g : StackState) → Comes kind ops len i (place ops len n) g ⊎ Goes n g
      → Comes kind ops len (i + 1) (place ops len n) g
  unfolding Goes
  comes_back reached n g c =
      elim c [
        | inl old ↦ elim old [
          | inl same ↦ inl same
          | inr before ↦ inr (record { last = before.last; below = omega (arith, before.below) })
        ]
        | inr new ↦
            let edge : Edge ops len (place ops len i) h (place ops len n) g =
            record {
              number = i;
              placed = j.placed;
              stands = j.stands;
              from = sym (place_of_some ops len i j.placed j.stands);
              leads = new.0;
              state = new.1 ∙ j.state;
            } in
            inr (record { last = record { a = place ops len i; h = h; reached = reached; edge = edge }; below = omega arith })
      ]

-- if a branch leads to the operation numbered n, or to the end, then that operation's offset, or
-- the end, is the branch target
target_to : (ops : List Placed) (len k n : ℕ) (o : Option ℤ) (o' : Option ℕ) → TargetIs ops len k o o' → o' ≡ Some n
    → (jump_target (place ops len (k + 1)) o ≡ Some (place ops len n)) × IsTarget ops len k (place ops len n)
target_to ops len k n None None is e = absurd (cc)
target_to ops len k n None (Some m) is e = absurd is
target_to ops len k n (Some z) None is e = absurd is
target_to ops len k n (Some z) (Some m) is e =
    let same : m ≡ n = same_Some m n e in (
      is.there ∙ ap (λ (x : ℕ). Some (place ops len x)) same,
      record { number = m; later = is.later; within = is.within; there = ap (place ops len) same },
    )

target_from : (ops : List Placed) (len k n : ℕ) → IsLaidOut ops len → (o : Option ℤ) (o' : Option ℕ) → TargetIs ops len k o o'
    → n ≤ length ops → jump_target (place ops len (k + 1)) o ≡ Some (place ops len n) → o' ≡ Some n
target_from ops len k n laid None None is le e = absurd (cc)
target_from ops len k n laid None (Some m) is le e = absurd is
target_from ops len k n laid (Some z) None is le e = absurd is
target_from ops len k n laid (Some z) (Some m) is le e =
    let same : place ops len m ≡ place ops len n = same_Some (place ops len m) (place ops len n) (sym is.there ∙ e) in
    ap (λ (x : ℕ). Some x) (place_inj ops len laid m n is.within le same)

pub target_is_target : (ops : List Placed) (len k t : ℕ) (o : Option ℤ) (o' : Option ℕ) → TargetIs ops len k o o'
    → jump_target (place ops len (k + 1)) o ≡ Some t → IsTarget ops len k t
target_is_target ops len k t None o' is e = absurd (cc)
target_is_target ops len k t (Some z) None is e = absurd is
target_is_target ops len k t (Some z) (Some m) is e =
    record { number = m; later = is.later; within = is.within; there = same_Some (place ops len m) t (sym is.there ∙ e) }

pub target_ahead : (ops : List Placed) (len k : ℕ) (z : ℤ) (o : Option ℤ) (o' : Option ℕ) → TargetIs ops len k o o' → o ≡ Some z
    → branch_target (place ops len (k + 1)) z ≡ None → ⊥
target_ahead ops len k z None o' is e back = cc
target_ahead ops len k z (Some y) None is e back = is
target_ahead ops len k z (Some y) (Some m) is e back =
    let both : jump_target (place ops len (k + 1)) (Some y) ≡ jump_target (place ops len (k + 1)) (Some z) =
    ap (jump_target (place ops len (k + 1))) e in
    let none : Some (place ops len m) ≡ None = sym is.there ∙ both ∙ back in
    cc

target_within : (ops : List Placed) (len k n : ℕ) (o : Option ℤ) (o' : Option ℕ) → TargetIs ops len k o o' → o' ≡ Some n → n ≤ length ops
target_within ops len k n None None is e = absurd (cc)
target_within ops len k n None (Some m) is e = absurd is
target_within ops len k n (Some z) None is e = absurd is
target_within ops len k n (Some z) (Some m) is e = let same = same_Some m n e in omega (arith, is.within, same)

true_from : (b c : Bool) → b ≡ c → IsTrue b → IsTrue c
true_from b c e t = subst (λ (x : Bool). IsTrue x) e t

pub length-passed : (old new : List InState) (i : ℕ) (out : OutState) → PassesOn old i out new → length new ≡ length old
length-passed old new i out p = length_target out.target p.mid new out.state p.target ∙ length_next out.falls_through old p.mid
    (i + 1) out.state p.next

module _ (kind : Kind) (ops : List Placed) (len : ℕ) (laid : IsLaidOut ops len) (given : Option (List State)) (i pieces : ℕ)
    (h : StackState) (out : OutState) (lt : i < length ops) (j : Checked kind ops len i pieces h out) where
  pub described_passed : (old new : List InState) (n : ℕ) → length old ≡ length ops + 1 → PassesOn old i out new → n ≤ length ops
      → Reaches kind ops len (place ops len i) h → ((g : StackState) → Reaches kind ops len (place ops len i) g → g ≡ h)
      → Describes (get_or old n Unreached) (Comes kind ops len i (place ops len n))
      → Describes (get_or new n Unreached) (Comes kind ops len (i + 1) (place ops len n))
  unfolding Goes
  described_passed old new n wide p le reached one d =
      let e : StackEffect = effect_of j.placed.1 in
      let P : StackState → Type 0 = Comes kind ops len i (place ops len n) in
      let P1 : StackState → Type 0 = λ g. P g ⊎ (IsTrue out.falls_through × (n ≡ i + 1) × (g ≡ out.state)) in
      let P2 : StackState → Type 0 = λ g. P1 g ⊎ ((out.target ≡ Some n) × (g ≡ out.state)) in
      let d1 : Describes (get_or p.mid n Unreached) P1 = describes_next out.falls_through old p.mid (i + 1) out.state n P
      (omega arith) p.next d in
      let within : (k : ℕ) → out.target ≡ Some k → k < length p.mid =
      λ k is. omega (
        arith,
        target_within ops len i k e.jump out.target j.target is,
        length_next out.falls_through old p.mid
            (i + 1) out.state p.next,
      ) in
      let d2 : Describes (get_or new n Unreached) P2 = describes_target out.target p.mid new out.state n P1 within p.target d1 in
      let to : (g : StackState) → P2 g → Comes kind ops len (i + 1) (place ops len n) g =
      λ g q. comes_back kind ops len laid given i pieces h out lt j reached n g (elim q [
        | inl first ↦ elim first [
          | inl old ↦ inl old
          | inr falls_through ↦ inr (
            inl (
              true_from out.falls_through e.falls_through j.falls_through falls_through.0,
              ap (place ops len) falls_through.1,
            ),
            falls_through.2,
          )
        ]
        | inr goes ↦ inr (inr (target_to ops len i n e.jump out.target j.target goes.0), goes.1)
      ]) in
      let from : (g : StackState) → Comes kind ops len (i + 1) (place ops len n) g
      → P2 g = λ g c. elim (comes_more kind ops len laid given i pieces h out lt j one n g c) [
        | inl old ↦ inl (inl old)
        | inr new ↦ elim new.0 [
          | inl falls_through ↦ inl (inr (
            true_from e.falls_through out.falls_through (sym j.falls_through) falls_through.0,
            place_inj ops len laid n (i + 1) le (omega arith) falls_through.1,
            new.1,
          ))
          | inr goes ↦ inr (target_from ops len i n laid e.jump out.target j.target le goes.0, new.1)
        ]
      ] in
      describes_same (get_or new n Unreached) P2 (Comes kind ops len (i + 1) (place ops len n)) to from d2

le_right : (n a b : ℕ) → n ≡ b → n ≤ max a b
le_right n a b e = omega arith

le_left : (n a b c : ℕ) → n ≤ a → n ≤ max (max a b) c
le_left n a b c le = omega arith

-- the depth of the first i + 1 operations, from the depth of the first i
depth_more : (kind : Kind) (ops : List Placed) (len i d : ℕ) (h : StackState) (x : Placed) → slice_get ops i ≡ Some x
    → Reaches kind ops len x.0 h → ((g : StackState) → Reaches kind ops len x.0 g → g ≡ h) → DepthBelow kind ops len i d
    → DepthBelow kind ops len (i + 1) (max (max d h.height) (height_after (effect_of x.1) h))
depth_more kind ops len i d h x s r one below = record { touched = touched; greatest = greatest }
  where
    old : (n : ℕ) → n ≡ d → TouchesBelow kind ops len (i + 1) n
    old n e =
        elim below.touched [
          | inl same ↦ inl (e ∙ same)
          | inr t ↦ inr (t.0, t.1, t.2, t.3, t.4, elim t.5 [ inl same ↦ inl (e ∙ same) | inr same ↦ inr (e ∙ same) ], omega (arith, t.6))
        ]

    touched : TouchesBelow kind ops len (i + 1) (max (max d h.height) (height_after (effect_of x.1) h))
    touched =
        let a : ℕ = height_after (effect_of x.1) h in
        elim (cases_lt (max d h.height) a) [
          | inl less ↦ let e : max (max d h.height) a ≡ a = omega arith in inr (i, x, h, s, r, inr e, omega arith)
          | inr more ↦ elim (cases_lt d h.height) [
            | inl less ↦ let e : max (max d h.height) a ≡ h.height = omega arith in inr (i, x, h, s, r, inl e, omega arith)
            | inr most ↦ old (max (max d h.height) a) (omega arith)
          ]
        ]

    at_i : (n : ℕ) (y : Placed) (g : StackState) → y ≡ x → Reaches kind ops len y.0 g
        → (n ≡ g.height) ⊎ (n ≡ height_after (effect_of y.1) g) → n ≤ max (max d h.height) (height_after (effect_of x.1) h)
    at_i n y g e reached is =
        let same : g ≡ h = one g (subst (λ (z : Placed). Reaches kind ops len z.0 g) e reached) in
        elim is [
          | inl before ↦ let is_h : n ≡ h.height = before ∙ ap (λ (s : StackState). s.height) same in omega arith
          | inr past ↦ let b : n ≡ height_after (effect_of x.1) h = past ∙ ap (λ (z : Placed). height_after (effect_of z.1) g) e
              ∙ ap (height_after (effect_of x.1)) same in le_right n (max d h.height) (height_after (effect_of x.1) h) b
        ]

    greatest : (n : ℕ) → TouchesBelow kind ops len (i + 1) n → n ≤ max (max d h.height) (height_after (effect_of x.1) h)
    greatest n t =
        elim t [
          | inl same ↦ let le : n ≤ d = below.greatest n (inl same) in le_left n d h.height (height_after (effect_of x.1) h) le
          | inr u ↦ elim (cases_lt u.0 i) [
            | inl less ↦ let le : n ≤ d = below.greatest n (inr (u.0, u.1, u.2, u.3, u.4, u.5, less)) in
                le_left n d h.height (height_after (effect_of x.1) h) le
            | inr more ↦
                let k_is : u.0 ≡ i = omega (arith, u.6, more) in
                at_i n u.1 u.2 (same_Some u.1 x (sym u.3 ∙ ap (slice_get ops) k_is ∙ s)) u.4 u.5
          ]
        ]

-- the number of pieces with one more operation; b tells whether that operation is a piece
pub count_more : (ops : List Placed) (i pieces : ℕ) (x : Placed) (b : Bool) → slice_get ops i ≡ Some x → b ≡ is_piece (effect_of x.1).role
    → pieces ≡ pieces_before ops i → (pieces + cond b 1 0) ≡ pieces_before ops (i + 1)
count_more ops i pieces x true s is counted =
    let read : get_or ops i x ≡ x = get_or_from_slice_get ops i x x s in
    let yes : is_piece (effect_of (get_or ops i x).1).role ≡ true = ap (λ (y : Placed). is_piece (effect_of y.1).role) read ∙ sym is in
    let more = count_by_more_yes (λ (y : Placed). is_piece (effect_of y.1).role) ops i x (slice_get_within ops i x s) yes in
    ap (λ (n : ℕ). n + 1) counted ∙ sym more
count_more ops i pieces x false s is counted =
    let read : get_or ops i x ≡ x = get_or_from_slice_get ops i x x s in
    let other : is_piece (effect_of (get_or ops i x).1).role ≡ false = ap (λ (y : Placed). is_piece (effect_of y.1).role) read ∙ sym is in
    let more = count_by_more_no (λ (y : Placed). is_piece (effect_of y.1).role) ops i x (slice_get_within ops i x s) other in
    let plain : pieces + 0 ≡ pieces = omega arith in
    plain ∙ counted ∙ sym more

few_more : (pieces : ℕ) (b c : Bool) → b ≡ c → (c ≡ true → pieces < MAX_PIECES) → pieces ≤ MAX_PIECES → pieces + cond b 1 0 ≤ MAX_PIECES
few_more pieces true c is few le = let lt = few (sym is) in omega (arith, lt)
few_more pieces false c is few le = omega (arith, le)

module _ (kind : Kind) (ops : List Placed) (len : ℕ) (laid : IsLaidOut ops len) (given : Option (List State)) where
  -- `Walked` holds before any operation is checked
  pub walked_start : (in_states : List InState) → length in_states ≡ length ops + 1 → get_or in_states 0 Unreached ≡ Known (start_of kind)
      → ((j : ℕ) → 0 < j → j ≤ length ops → get_or in_states j Unreached ≡ Unreached)
      → Walked kind ops len given 0 [] in_states (start_of kind).height 0
  walked_start in_states wide first others = record {
    long = refl;
    accepted = λ k s e. absurd (none k s e);
    wide = wide;
    described = described;
    deepest = record {
      touched = inl refl;
      greatest = λ h t. elim t [
        | inl same ↦ omega (arith, same)
        | inr u ↦ absurd
            (omega (arith, u.6))
      ];
    };
    counted = refl;
    few = omega arith;
  }
    where
      none : (k : ℕ) (s : State) → slice_get [] k ≡ Some s → ⊥
      none k s e = cc

      at_first : (j : ℕ) → 0 ≡ j → Describes (get_or in_states j Unreached) (Comes kind ops len 0 (place ops len j))
      at_first j e =
          let d : Describes (Known (start_of kind)) (Comes kind ops len 0 (place ops len 0)) =
          (inl (sym laid.first, refl), λ h c. elim c [ inl same ↦ sym same.1 | inr before ↦ absurd (omega (arith, before.below)) ]) in
          subst (λ (n : ℕ). Describes (get_or in_states n Unreached) (Comes kind ops len 0 (place ops len n))) e
          (describes_is (Known (start_of kind)) (get_or in_states 0 Unreached) (Comes kind ops len 0 (place ops len 0)) (sym first) d)

      at_other : (j : ℕ) → 0 < j → j ≤ length ops → Describes (get_or in_states j Unreached) (Comes kind ops len 0 (place ops len j))
      at_other j pos le =
          let d : Describes Unreached (Comes kind ops len 0 (place ops len j)) =
          λ h c. elim c [
            | inl same ↦ absurd (omega
                (arith, same.0, laid.first, place_mono ops len laid 0 j pos le))
            | inr before ↦ absurd (omega (arith, before.below))
          ] in
          describes_is Unreached (get_or in_states j Unreached) (Comes kind ops len 0 (place ops len j)) (sym (others j pos le)) d

      described : (j : ℕ) → 0 ≤ j → j ≤ length ops → Describes (get_or in_states j Unreached) (Comes kind ops len 0 (place ops len j))
      described j low le = elim (cases_lt 0 j) [ inl pos ↦ at_other j pos le | inr low_end ↦ at_first j (omega arith) ]

  -- if an `InState` is `Known`, its state is the only one with which paths reach the operation
  pub one_state : (i : ℕ) (s : StackState) (a : InState) → i ≤ length ops → a ≡ Known s
      → Describes a (Comes kind ops len i (place ops len i)) → Reaches kind ops len (place ops len i) s
      × ((t : StackState) → Reaches kind ops len (place ops len i) t → t ≡ s)
  one_state i s a le e d =
      let d' : Describes (Known s) (Comes kind ops len i (place ops len i)) =
      describes_is a (Known s) (Comes kind ops len i (place ops len i)) e d in
      (reaches_from_comes kind ops len laid i (place ops len i) s d'.0, λ t r. d'.1 t (comes_from_reaches kind ops len laid i t le r))

  -- `Walked` still holds after one more operation is checked
  pub walked_step : (i : ℕ) (states : List State) (old new : List InState) (depth pieces : ℕ) (done : Done) → i < length ops
      → Walked kind ops len given i states old depth pieces → Stepped kind ops len given i pieces old done new
      → Walked kind ops len given (i + 1) (states ++ at_offset (place ops len i) done.state ∷ []) new
      (max (max depth done.state.height) done.height) (pieces + cond done.piece 1 0)
  walked_step i states old new depth pieces done lt w s = record {
    long = simp length-append (omega (arith, w.long));
    accepted = accepted;
    wide = length-passed old new i s.out s.passes ∙ w.wide;
    described = described;
    deepest = subst (λ (n : ℕ). DepthBelow kind ops len (i + 1) (max (max depth done.state.height) n))
        (sym s.checked.height ∙ sym s.height) deepest;
    counted = count_more ops i pieces s.checked.placed done.piece s.checked.stands (s.piece ∙ s.checked.piece) w.counted;
    few = few_more pieces done.piece (is_piece (effect_of s.checked.placed.1).role) (s.piece ∙ s.checked.piece) s.checked.few w.few;
  }
    where
      here : Reaches kind ops len (place ops len i) done.state
          × ((t : StackState) → Reaches kind ops len (place ops len i) t → t ≡ done.state)
      here = one_state i done.state (get_or old i Unreached) (omega arith) s.one (w.described i (omega arith) (omega arith))

      fine : Fine kind ops len i s.checked.placed done.state
      fine = record {
        allowed = s.checked.allowed;
        alone = s.checked.alone;
        needs = s.checked.needs;
        limit = subst (λ (n : ℕ). n ≤ MAX_HEIGHT) s.checked.height s.checked.limit;
        few = λ is. subst (λ (n : ℕ). n < MAX_PIECES) w.counted (s.checked.few is);
        ahead = λ z jump back. target_ahead ops len i z (effect_of s.checked.placed.1).jump s.out.target s.checked.target jump back;
        target = λ t goes. target_is_target ops len i t (effect_of s.checked.placed.1).jump s.out.target s.checked.target goes;
      }

      accept : Accepted kind ops len given i done.state
      accept = record {
        reached = here.0;
        one = here.1;
        given_is = s.given_is;
        fine = λ x e. subst (λ (y : Placed). Fine kind ops len i y done.state) (same_Some s.checked.placed x (sym s.checked.stands ∙ e)) fine;
      }

      accepted : (k : ℕ) (t : State) → slice_get (states ++ at_offset (place ops len i) done.state ∷ []) k ≡ Some t
          → (g : StackState) × (t ≡ at_offset (place ops len k) g) × Accepted kind ops len given k g
      accepted k t e =
          elim (get_push states (at_offset (place ops len i) done.state) k t e) [
            | inl before ↦ w.accepted k t before
            | inr last ↦
                let k_is : i ≡ k = sym w.long ∙ sym last.0 in
                subst (λ (n : ℕ). (g : StackState) × (t ≡ at_offset (place ops len n) g) × Accepted kind ops len given n g) k_is
                (done.state, sym last.1, accept)
          ]

      described : (n : ℕ) → i + 1 ≤ n → n ≤ length ops → Describes (get_or new n Unreached) (Comes kind ops len (i + 1) (place ops len n))
      described n low le =
          described_passed kind ops len laid given i pieces done.state s.out lt s.checked old new n w.wide s.passes le here.0 here.1
          (w.described n (omega arith) le)

      at : place ops len i ≡ s.checked.placed.0
      at = place_of_some ops len i s.checked.placed s.checked.stands

      deepest : DepthBelow kind ops len (i + 1) (max (max depth done.state.height) (height_after (effect_of s.checked.placed.1) done.state))
      deepest = depth_more kind ops len i depth done.state s.checked.placed s.checked.stands
          (reach_from kind ops len (place ops len i) s.checked.placed.0 done.state done.state at refl here.0)
          (λ g r. here.1 g (reach_from kind ops len s.checked.placed.0 (place ops len i) g g (sym at) refl r)) w.deepest
