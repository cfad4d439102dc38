-- No stack height on a path of a good expression (`IsGood`) is above the limit.
use Rattle.std.proofs.Math.Logic.{∥∥₁_elim}
use Rattle.std.specs.Coded.{le_prop}
use Rattle.std.proofs.Common.{ℕ, ◌≤◌, Bool, List, refl, sym, ap, inl, inr, arith}
use Rattle.dw_stack.specs.declared.effect.Role.{Role}
use Rattle.dw_stack.specs.declared.effect.Role.TheVariants as role
use Rattle.dw_stack.specs.declared.operation_check.TheConstants.{MAX_HEIGHT}
use Rattle.dw_stack.specs.declared.state.StackState.{StackState}
use Rattle.dw_stack.specs.declared.state.Kind.{Kind}
use Rattle.dw_stack.specs.declared.state.Kind.TheVariants.{FrameCfa, FrameRegister, Location}
use Rattle.dw_stack.specs.Effects.{effect_of}
use Rattle.dw_stack.specs.States.{start_of, next_mode, height_after}
use Rattle.dw_stack.specs.Paths.{Placed, Reaches, IsGood, Touches, IsDepth}
use Rattle.dw_stack.proofs.paths.Routes.{last_edge, reach_from}

start_within : (kind : Kind) → (start_of kind).height ≤ MAX_HEIGHT
start_within FrameCfa = omega arith
start_within FrameRegister = omega arith
start_within Location = omega arith

-- the stack height in the next state is at most h, the height after the operation but before a
-- piece clears the stack: the next height is 0 for a piece, and h for any other operation
pub next_height_le : (r : Role) (h : ℕ) (b : Bool) → (next_mode r h b).height ≤ h
next_height_le role.Piece h b = omega arith
next_height_le role.Plain h b = omega arith
next_height_le role.Register h b = omega arith
next_height_le role.Bytes h b = omega arith
next_height_le role.Top h b = omega arith

module _ (kind : Kind) (ops : List Placed) (len : ℕ) (good : IsGood kind ops len) where
  height_within : (b : ℕ) (s : StackState) → Reaches kind ops len b s → s.height ≤ MAX_HEIGHT
  height_within b s r = elim (last_edge kind ops len b s r) [
    | inl same ↦ let start = start_within kind in let e = ap (λ (t : StackState). t.height) same.1 in omega (arith, start, e)
    | inr last ↦
        let x = last.edge.placed in
        let limit = good.limit last.edge.number x last.h last.edge.stands
        (reach_from kind ops len last.a x.0 last.h last.h (sym last.edge.from) refl last.reached) in
        let low = next_height_le (effect_of x.1).role (height_after (effect_of x.1) last.h) last.h.pieced in
        let is = ap (λ (t : StackState). t.height) last.edge.state in
        omega (arith, limit, low, is)
  ]

  touched_within : (h : ℕ) → Touches kind ops len h → h ≤ MAX_HEIGHT
  touched_within h touches = elim touches [
    | inl start ↦ let e = start_within kind in omega (arith, start, e)
    | inr there ↦ elim there.5 [
      | inl before ↦ let e = height_within there.1.0 there.2 there.4 in omega (arith, before, e)
      | inr after ↦ let e = good.limit there.0 there.1 there.2 there.3 there.4 in omega (arith, after, e)
    ]
  ]

  pub depth_within : (d : ℕ) → IsDepth kind ops len d → d ≤ MAX_HEIGHT
  depth_within d deep = ∥∥₁_elim deep.touched le_prop (λ t. touched_within d t)
