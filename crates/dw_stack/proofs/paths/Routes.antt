-- Paths, edge by edge, and the states with which earlier operations lead to an operation.
use Rattle.std.proofs.Common.{◌≡◌, ℕ, ◌+◌, ◌<◌, ◌≤◌, ◌⊎◌, List, [], ◌∷◌, ◌++◌, length, Some, refl, sym, ◌∙◌, subst, inl, inr, arith}
use Rattle.std.specs.Prelude.{slice_get}
use Rattle.std.proofs.lemmas.Option.{slice_get_within}
use Rattle.dw_stack.specs.Paths.{Placed}
use Rattle.dw_stack.specs.declared.state.StackState.{StackState}
use Rattle.dw_stack.specs.declared.state.Kind.{Kind}
use Rattle.dw_stack.specs.Effects.{effect_of}
use Rattle.dw_stack.specs.States.{start_of}
use Rattle.dw_stack.specs.Paths.{place, IsLaidOut, Leads, Edge, Follows, Reaches}
use Rattle.dw_stack.proofs.Places.{place_inj}

-- a path to offset b and state g, as its last edge and the path before that edge
pub record LastEdge (kind : Kind) (ops : List Placed) (len b : ℕ) (g : StackState) : Type 0 where
  pub a : ℕ
  pub h : StackState
  pub reached : Reaches kind ops len a h
  pub edge : Edge ops len a h b g

module _ (kind : Kind) (ops : List Placed) (len : ℕ) where
  move_from : (a a' : ℕ) (h h' : StackState) (b : ℕ) (g : StackState) → a ≡ a' → h ≡ h' → Edge ops len a h b g → Edge ops len a' h' b g
  move_from a a' h h' b g ea eh e =
      subst (λ (x : ℕ). Edge ops len x h' b g) ea (subst (λ (x : StackState). Edge ops len a x b g) eh e)

  pub reach_from : (b b' : ℕ) (h h' : StackState) → b ≡ b' → h ≡ h' → Reaches kind ops len b h → Reaches kind ops len b' h'
  reach_from b b' h h' eb eh r =
      subst (λ (x : ℕ). Reaches kind ops len x h') eb (subst (λ (x : StackState). Reaches kind ops len b x) eh r)

  longer : (path : List ℕ) (a : ℕ) (h : StackState) (b : ℕ) (g : StackState) (c : ℕ) (k : StackState) → Follows ops len a h path b g
      → Edge ops len b g c k → Follows ops len a h (path ++ c ∷ []) c k
  longer [] a h b g c k f e = (k, move_from b a g h c k (sym f.0) (sym f.1) e, (refl, refl))
  longer (d ∷ path) a h b g c k f e = (f.0, f.1, longer path d f.0 b g c k f.2 e)

  -- a path followed by an edge is a path
  pub extend : (b : ℕ) (g : StackState) (c : ℕ) (k : StackState) → Reaches kind ops len b g → Edge ops len b g c k
      → Reaches kind ops len c k
  extend b g c k r e = record { path = r.path ++ c ∷ []; follows = longer r.path 0 (start_of kind) b g c k r.follows e }

  pub at_start : Reaches kind ops len 0 (start_of kind)
  at_start = record { path = []; follows = (refl, refl) }

  last_from : (path : List ℕ) (a : ℕ) (h : StackState) (b : ℕ) (g : StackState) → Reaches kind ops len a h → Follows ops len a h path b g
      → ((a ≡ b) × (h ≡ g)) ⊎ LastEdge kind ops len b g
  last_from [] a h b g r f = inl f
  last_from (c ∷ path) a h b g r f =
      elim (last_from path c f.0 b g (extend a h c f.0 r f.1) f.2) [
        | inl same ↦
            inr (record {
              a = a;
              h = h;
              reached = r;
              edge = subst (λ (x : ℕ). Edge ops len a h x g) same.0
                  (subst (λ (x : StackState). Edge ops len a h c x) same.1 f.1);
            })
        | inr last ↦ inr last
      ]

  -- a path has no edge and is at the start of the expression, or it has a last edge
  pub last_edge : (b : ℕ) (g : StackState) → Reaches kind ops len b g → ((0 ≡ b) × (start_of kind ≡ g)) ⊎ LastEdge kind ops len b g
  last_edge b g r = last_from r.path 0 (start_of kind) b g at_start r.follows

-- b is the offset of an operation with a number above k, or the end of the expression
pub record Lands (ops : List Placed) (len k b : ℕ) : Type 0 where
  pub number : ℕ
  pub later : k < number
  pub within : number ≤ length ops
  pub there : place ops len number ≡ b

pub lands : (ops : List Placed) (len k : ℕ) (x : Placed) (b : ℕ) → slice_get ops k ≡ Some x → Leads ops len k (effect_of x.1) b
    → Lands ops len k b
lands ops len k x b s leads =
    let within = slice_get_within ops k x s in
    elim leads [
      | inl falls_through ↦ record { number = k + 1; later = omega arith; within = omega arith; there = sym falls_through.1 }
      | inr goes ↦ record { number = goes.1.number; later = goes.1.later; within = goes.1.within; there = goes.1.there }
    ]

pub edge_lands : (ops : List Placed) (len a : ℕ) (h : StackState) (b : ℕ) (g : StackState) (e : Edge ops len a h b g)
    → Lands ops len e.number b
edge_lands ops len a h b g e = lands ops len e.number e.placed b e.stands e.leads

-- a path reaches offset b with state h, and its last edge is from an operation numbered below i
pub record Before (kind : Kind) (ops : List Placed) (len i b : ℕ) (h : StackState) : Type 0 where
  pub last : LastEdge kind ops len b h
  pub below : last.edge.number < i

abbrev pub Comes : Kind → List Placed → ℕ → ℕ → ℕ → StackState → Type 0
Comes kind ops len i b h = ((0 ≡ b) × (start_of kind ≡ h)) ⊎ Before kind ops len i b h

module _ (kind : Kind) (ops : List Placed) (len : ℕ) (laid : IsLaidOut ops len) where
  pub reaches_from_comes : (i b : ℕ) (h : StackState) → Comes kind ops len i b h → Reaches kind ops len b h
  reaches_from_comes i b h c =
      elim c [
        | inl same ↦ reach_from kind ops len 0 b (start_of kind) h same.0 same.1 (at_start kind ops len)
        | inr before ↦ extend kind ops len before.last.a before.last.h b h before.last.reached before.last.edge
      ]

  -- a path to the operation numbered i, or to the end, has no edge, or its last edge is from an
  -- operation with a lower number
  pub comes_from_reaches : (i : ℕ) (h : StackState) → i ≤ length ops → Reaches kind ops len (place ops len i) h
      → Comes kind ops len i (place ops len i) h
  comes_from_reaches i h le r =
      elim (last_edge kind ops len (place ops len i) h r) [
        | inl same ↦ inl same
        | inr last ↦
            let l = edge_lands ops len last.a last.h (place ops len i) h last.edge in
            let same : l.number ≡ i = place_inj ops len laid l.number i l.within le l.there in
            inr (record { last = last; below = omega (arith, l.later) })
      ]

  -- a path leads to the offset of an operation, or to the end
  pub reached_place : (b : ℕ) (h : StackState) → Reaches kind ops len b h → (j : ℕ) × (j ≤ length ops) × (place ops len j ≡ b)
  reached_place b h r =
      elim (last_edge kind ops len b h r) [
        | inl same ↦ (0, omega arith, laid.first ∙ same.0)
        | inr last ↦
            let l = edge_lands ops len last.a last.h b h last.edge in
            (l.number, l.within, l.there)
      ]
