-- The states that `states_to` computes for an operation are exactly the states with which earlier
-- operations lead to it.
use Rattle.std.proofs.Common.{◌≡◌, ◌∙◌, ℕ, ℤ, negsuc, zero, suc, ◌+◌, ◌≤◌, ◌<◌, ◌⊎◌, Bool, true, false, eqb, List, [], ◌∷◌, ◌++◌, length}
use Rattle.std.proofs.Common.{map, Option, Some, None, refl, sym, ap, subst, inl, inr, arith, IsTrue, eq-eqb}
use Rattle.std.specs.Prelude.{slice_get, if◌then◌else◌}
use Rattle.std.specs.List.{flat_map}
use Rattle.std.proofs.lemmas.Bool.{cases_eq, cases_lt, cond-true, cond-false, ne_eqb}
use Rattle.std.proofs.lemmas.Option.{slice_get_within, same_Some}
use Rattle.dw_stack.specs.declared.effect.StackEffect.{StackEffect}
use Rattle.dw_stack.specs.declared.state.StackState.{StackState}
use Rattle.dw_stack.specs.declared.state.Kind.{Kind}
use Rattle.dw_stack.specs.Effects.{effect_of}
use Rattle.dw_stack.specs.States.{start_of, state_after}
use Rattle.dw_stack.specs.Paths.{Placed, place, IsLaidOut, jump_target, branch_target_of, Leads}
use Rattle.dw_stack.specs.FirstFault.{offsets_to, offsets_after, states_at, onward, arrivals, states_to}
use Rattle.dw_stack.proofs.Places.{place_of_some, later_place}
use Rattle.dw_stack.proofs.paths.Routes.{reach_from, Comes, reaches_from_comes, comes_from_reaches}

-- ---- elements of a list

abbrev pub Has : {X : Type 0} → List X → X → Type 0
Has [] y = ⊥
Has (x ∷ xs) y = (x ≡ y) ⊎ Has xs y

has_left : {X : Type 0} (xs ys : List X) (y : X) → Has xs y → Has (xs ++ ys) y
has_left [] ys y h = absurd h
has_left (x ∷ xs) ys y h = elim h [ inl here ↦ inl here | inr later ↦ inr (has_left xs ys y later) ]

has_right : {X : Type 0} (xs ys : List X) (y : X) → Has ys y → Has (xs ++ ys) y
has_right [] ys y h = h
has_right (x ∷ xs) ys y h = inr (has_right xs ys y h)

has_split : {X : Type 0} (xs ys : List X) (y : X) → Has (xs ++ ys) y → Has xs y ⊎ Has ys y
has_split [] ys y h = inr h
has_split (x ∷ xs) ys y h = elim h [
  | inl here ↦ inl (inl here)
  | inr later ↦ elim (has_split xs ys y later) [ inl left ↦ inl (inr left) | inr right ↦ inr right ]
]

has_map : {X Y : Type 0} (g : X → Y) (xs : List X) (x : X) → Has xs x → Has (map g xs) (g x)
has_map g [] x h = absurd h
has_map g (z ∷ xs) x h = elim h [ inl here ↦ inl (ap g here) | inr later ↦ inr (has_map g xs x later) ]

map_has : {X Y : Type 0} (g : X → Y) (xs : List X) (y : Y) → Has (map g xs) y → (x : X) × Has xs x × (g x ≡ y)
map_has g [] y h = absurd h
map_has g (z ∷ xs) y h = elim h [
  | inl here ↦ (z, inl refl, here)
  | inr later ↦ let m = map_has g xs y later in (m.0, inr m.1, m.2)
]

has_flat_map : {X Y : Type 0} (f : X → List Y) (xs : List X) (x : X) (y : Y) → Has xs x → Has (f x) y → Has (flat_map f xs) y
has_flat_map {X} f [] x y h there = absurd h
has_flat_map {X} f (z ∷ xs) x y h there = elim h [
  | inl here ↦ has_left (f z) (flat_map f xs) y (subst (λ (w : X). Has (f w) y) (sym here) there)
  | inr later ↦ has_right (f z) (flat_map f xs) y (has_flat_map f xs x y later there)
]

flat_map_has : {X Y : Type 0} (f : X → List Y) (xs : List X) (y : Y) → Has (flat_map f xs) y → (x : X) × Has xs x × Has (f x) y
flat_map_has f [] y h = absurd h
flat_map_has f (z ∷ xs) y h = elim (has_split (f z) (flat_map f xs) y h) [
  | inl here ↦ (z, inl refl, here)
  | inr later ↦ let m = flat_map_has f xs y later in (m.0, inr m.1, m.2)
]

-- ---- the states that `states_at` gives at an offset

abbrev paired : ℕ → StackState → ℕ × StackState
paired at s = (at, s)

has_state : (at : ℕ) (come : List (ℕ × StackState)) (s : StackState) → Has come (at, s) → Has (states_at at come) s
has_state at [] s h = absurd h
has_state at (c ∷ come) s h = elim (cases_eq c.0 at) [
  | inl here ↦ subst (λ (l : List StackState). Has l s)
      (sym (cond-true (eqb c.0 at) (c.1 ∷ states_at at come) (states_at at come) (eq-eqb c.0 at here)))
      (elim h [ inl same ↦ inl (ap (λ (p : ℕ × StackState). p.1) same) | inr later ↦ inr (has_state at come s later) ])
  | inr other ↦ subst (λ (l : List StackState). Has l s)
      (sym (cond-false (eqb c.0 at) (c.1 ∷ states_at at come) (states_at at come) (ne_eqb c.0 at other)))
      (elim h [ inl same ↦ absurd (other (ap (λ (p : ℕ × StackState). p.0) same)) | inr later ↦ has_state at come s later ])
]

state_has : (at : ℕ) (come : List (ℕ × StackState)) (s : StackState) → Has (states_at at come) s → Has come (at, s)
state_has at [] s h = absurd h
state_has at (c ∷ come) s h = elim (cases_eq c.0 at) [
  | inl here ↦
      let it : Has (c.1 ∷ states_at at come) s =
      subst (λ (l : List StackState). Has l s)
      (cond-true (eqb c.0 at) (c.1 ∷ states_at at come) (states_at at come) (eq-eqb c.0 at here)) h in
      elim it [
        | inl same ↦ inl (ap (λ (n : ℕ). paired n c.1) here ∙ ap (λ (t : StackState). paired at t) same)
        | inr later ↦ inr
            (state_has at come s later)
      ]
  | inr other ↦
      inr (state_has at come s (subst (λ (l : List StackState). Has l s)
      (cond-false (eqb c.0 at) (c.1 ∷ states_at at come) (states_at at come) (ne_eqb c.0 at other)) h))
]

-- ---- the offsets that an operation leads to

has_next : (falls_through : Bool) (n b : ℕ) → IsTrue falls_through → b ≡ n → Has (if falls_through then n ∷ [] else []) b
has_next true n b is e = inl (sym e)
has_next false n b is e = absurd (cc)

next_has : (falls_through : Bool) (n b : ℕ) → Has (if falls_through then n ∷ [] else []) b → IsTrue falls_through × (b ≡ n)
next_has true n b h = elim h [ inl e ↦ (refl, sym e) | inr none ↦ absurd none ]
next_has false n b h = absurd h

has_target : (o : Option ℕ) (b : ℕ) → o ≡ Some b → Has (offsets_to o) b
has_target None b e = absurd (cc)
has_target (Some t) b e = inl (same_Some t b e)

target_has : (o : Option ℕ) (b : ℕ) → Has (offsets_to o) b → o ≡ Some b
target_has None b h = absurd h
target_has (Some t) b h = elim h [ inl e ↦ ap (λ (n : ℕ). Some n) e | inr none ↦ absurd none ]

aimed_ahead : (next b : ℕ) (o : Option ℤ) → jump_target next o ≡ Some b → next ≤ b
aimed_ahead next b None e = absurd (cc)
aimed_ahead next b (Some (negsuc n)) e = absurd (cc)
aimed_ahead next b (Some z) e = let same = same_Some _ b e in omega (arith, same)

module _ (kind : Kind) (ops : List Placed) (len : ℕ) (laid : IsLaidOut ops len) where
  weaker : (i b : ℕ) (s : StackState) → Comes kind ops len i b s → Comes kind ops len (suc i) b s
  weaker i b s c = elim c [
    | inl same ↦ inl same
    | inr before ↦ inr
        (record { last = before.last; below = let le = before.below in omega (arith, le) })
  ]

  leads_to : (i j b : ℕ) (e : StackEffect) → i < length ops → j ≤ length ops → place ops len j ≡ b → Has (offsets_after ops len i e) b
      → Leads ops len i e b
  leads_to i j b e lt le at h = elim (has_split (if e.falls_through then place ops len (i + 1) ∷ [] else [])
      (offsets_to (branch_target_of ops len i e)) b h) [
        | inl falls_through ↦ inl (next_has e.falls_through (place ops len (i + 1)) b falls_through)
        | inr goes ↦
            let to = target_has (branch_target_of ops len i e) b goes in
            let ahead = aimed_ahead (place ops len (i + 1)) b e.jump to in
            inr (to, record { number = j; later = later_place ops len laid i j lt (omega (arith, ahead, at)); within = le; there = at })
      ]

  leads_has : (i b : ℕ) (e : StackEffect) → Leads ops len i e b → Has (offsets_after ops len i e) b
  leads_has i b e leads = elim leads [
    | inl falls_through ↦ has_left (if e.falls_through then place ops len (i + 1) ∷ [] else [])
        (offsets_to (branch_target_of ops len i e)) b (has_next e.falls_through (place ops len (i + 1)) b falls_through.0 falls_through.1)
    | inr goes ↦ has_right (if e.falls_through then place ops len (i + 1) ∷ [] else []) (offsets_to (branch_target_of ops len i e)) b
        (has_target (branch_target_of ops len i e) b goes.0)
  ]

  abbrev from_state : ℕ → Placed → StackState → List (ℕ × StackState)
  from_state i x t = map (λ (b : ℕ). paired b (state_after (effect_of x.1) t)) (offsets_after ops len i (effect_of x.1))

  arrivals_come : (i j b : ℕ) (s : StackState) → i ≤ length ops → j ≤ length ops → place ops len j ≡ b
      → Has (arrivals kind ops len i) (b, s) → Comes kind ops len i b s
  arrivals_come zero j b s le lej at h = elim h [
    | inl e ↦ inl
        (ap (λ (p : ℕ × StackState). p.0) e, ap (λ (p : ℕ × StackState). p.1) e)
    | inr none ↦ absurd none
  ]
  arrivals_come (suc i) j b s le lej at h =
      elim (has_split (arrivals kind ops len i) (onward ops len i (slice_get ops i) (states_to kind ops len i)) (b, s) h) [
        | inl old ↦ weaker i b s (arrivals_come i j b s (omega arith) lej at old)
        | inr new ↦ over (slice_get ops i) refl (λ t has. arrivals_come i i (place ops len i) t (omega arith) (omega arith) refl has) new
      ]
    where
      over : (o : Option Placed) → slice_get ops i ≡ o
          → ((t : StackState) → Has (arrivals kind ops len i) (place ops len i, t) → Comes kind ops len i (place ops len i) t)
          → Has (onward ops len i o (states_to kind ops len i)) (b, s) → Comes kind ops len (suc i) b s
      over None is before new = absurd new
      over (Some x) is before new =
          let f = flat_map_has (from_state i x) (states_to kind ops len i) (b, s) new in
          let m = map_has (λ (n : ℕ). paired n (state_after (effect_of x.1) f.0)) (offsets_after ops len i (effect_of x.1)) (b, s) f.2 in
          let to : m.0 ≡ b = ap (λ (p : ℕ × StackState). p.0) m.2 in
          let here = before f.0 (state_has (place ops len i) (arrivals kind ops len i) f.0 f.1) in
          let leads = leads_to i j b (effect_of x.1) (slice_get_within ops i x is) lej at
          (subst (λ (n : ℕ). Has (offsets_after ops len i (effect_of x.1)) n) to m.1) in
          inr (record {
            last = record {
              a = place ops len i;
              h = f.0;
              reached = reaches_from_comes kind ops len laid i (place ops len i) f.0 here;
              edge = record {
                number = i;
                placed = x;
                stands = is;
                from = sym (place_of_some ops len i x is);
                leads = leads;
                state = sym (ap (λ (p : ℕ × StackState). p.1) m.2);
              };
            };
            below = omega arith;
          })

  comes_arrivals : (i b : ℕ) (s : StackState) → i ≤ length ops → Comes kind ops len i b s → Has (arrivals kind ops len i) (b, s)
  comes_arrivals zero b s le c = elim c [
    | inl same ↦ inl (ap (λ (n : ℕ). paired n (start_of kind)) same.0 ∙ ap (λ (t : StackState). paired b t) same.1)
    | inr before ↦ absurd (omega (arith, before.below))
  ]
  comes_arrivals (suc i) b s le c = elim c [
    | inl same ↦ old (comes_arrivals i b s (omega arith) (inl same))
    | inr before ↦ elim (cases_lt before.last.edge.number i) [
      | inl below ↦ old (comes_arrivals i b s (omega arith) (inr (record { last = before.last; below = below })))
      | inr above ↦
          let e = before.last.edge in
          let same : e.number ≡ i = omega (arith, before.below, above) in
          let stands : slice_get ops i ≡ Some e.placed = ap (slice_get ops) (sym same) ∙ e.stands in
          let at : before.last.a ≡ place ops len i = sym e.from ∙ sym (place_of_some ops len i e.placed stands) in
          let here = comes_arrivals i (place ops len i) before.last.h (omega arith)
          (comes_from_reaches kind ops len laid i before.last.h (omega arith)
          (reach_from kind ops len before.last.a (place ops len i) before.last.h before.last.h at refl before.last.reached)) in
          let leads = leads_has i b (effect_of e.placed.1) (subst (λ (n : ℕ). Leads ops len n (effect_of e.placed.1) b) same e.leads) in
          let there = has_map (λ (n : ℕ). paired n (state_after (effect_of e.placed.1) before.last.h))
          (offsets_after ops len i (effect_of e.placed.1)) b leads in
          let it : Has (from_state i e.placed before.last.h) (b, s) =
          subst (λ (t : StackState). Has (from_state i e.placed before.last.h) (b, t)) (sym e.state) there in
          let new = has_flat_map (from_state i e.placed) (states_to kind ops len i) before.last.h (b, s)
          (has_state (place ops len i) (arrivals kind ops len i) before.last.h here) it in
          has_right (arrivals kind ops len i) (onward ops len i (slice_get ops i) (states_to kind ops len i)) (b, s)
          (subst (λ (o : Option Placed). Has (onward ops len i o (states_to kind ops len i)) (b, s)) (sym stands) new)
    ]
  ]
    where
      old : Has (arrivals kind ops len i) (b, s) → Has (arrivals kind ops len (suc i)) (b, s)
      old h = has_left (arrivals kind ops len i) (onward ops len i (slice_get ops i) (states_to kind ops len i)) (b, s) h

  pub states_come : (j : ℕ) (s : StackState) → j ≤ length ops → Has (states_to kind ops len j) s → Comes kind ops len j (place ops len j) s
  states_come j s le h = arrivals_come j j (place ops len j) s le le refl (state_has (place ops len j) (arrivals kind ops len j) s h)

  pub come_states : (j : ℕ) (s : StackState) → j ≤ length ops → Comes kind ops len j (place ops len j) s → Has (states_to kind ops len j) s
  come_states j s le c = has_state (place ops len j) (arrivals kind ops len j) s (comes_arrivals j (place ops len j) s le c)
