-- The first fault of an expression is inside it, or at its end.
use Rattle.std.proofs.Common.{◌≡◌, ◌∙◌, ℕ, zero, suc, ◌≤◌, List, [], ◌∷◌, length, refl, ap, subst, arith, inl, inr}
use Rattle.std.specs.Prelude.{Option, Some, None, Result, Ok, Err, Contains, slice_get}
use Rattle.dw_bytes.specs.declared.target.Target.{Target}
use Rattle.dw_bytes.specs.declared.fault.Fault.{Fault}
use Rattle.dw_bytes.specs.declared.fault.FaultKind.{FaultKind}
use Rattle.dw_bytes.specs.declared.fault.FaultKind.TheVariants as fault
use Rattle.dw_bytes.specs.Answers.{fault_in}
use Rattle.dw_bytes.specs.Reading.{ReadPosition}
use Rattle.dw_bytes.specs.Sequence.{located_read}
use Rattle.dw_bytes.proofs.Bounds.{Stays, end-of, located-stays, each-along}
use Rattle.dw_bytes.proofs.CodeBounds.{coded-stays}
use Rattle.dw_ops.specs.Opcodes.{line_of, operation_at, operations_of}
use Rattle.dw_stack.specs.declared.state.Kind.{Kind}
use Rattle.dw_stack.specs.declared.state.State.{State}
use Rattle.dw_stack.specs.declared.state.StackState.{StackState}
use Rattle.dw_stack.specs.Paths.{Placed, IsLaidOut, Reaches}
use Rattle.dw_stack.specs.Faults.{Refuses}
use Rattle.dw_stack.specs.Expressions.{operations_in, reading_fault}
use Rattle.dw_stack.specs.FirstFault.{expression_fault}
use Rattle.dw_stack.proofs.Places.{place_of_some, place_le}
use Rattle.dw_stack.proofs.paths.Routes.{reached_place}
use Rattle.dw_stack.proofs.Encoded.{laid_if_read}
use Rattle.dw_stack.proofs.Named.{first_if_some}

-- ---- faults of reading

operation-stays : (r : ReadPosition) → Stays r.position r (operation_at r)
unfolding operation_at
operation-stays r = coded-stays line_of fault.UnknownOperation r

abbrev IsUpTo : ℕ → Result Placed Fault → Type 0
IsUpTo end (Ok x) = Unit {0}
IsUpTo end (Err f) = f.at ≤ end

read-up-to : (r : ReadPosition) (item : Result Placed Fault) → Contains (operations_of r) item → IsUpTo (end-of r) item
unfolding operations_of
read-up-to whole item h =
    each-along (located_read operation_at) (λ r. end-of r ≡ end-of whole) (IsUpTo (end-of whole))
    (λ r x after on is.
    let stays : Stays r.position r (Ok (x, after)) = subst (Stays r.position r) is (located-stays operation_at r (operation-stays r)) in
    (tt, stays.1 ∙ on))
    (λ r f on is.
    let stays : Stays {X = Placed} r.position r (Err f) =
    subst (Stays r.position r) is (located-stays operation_at r (operation-stays r)) in
    omega (arith, stays.1, on))
    whole item refl h

refused-among : {X : Type 0} (items : List (Result X Fault)) (f : Fault) → fault_in items ≡ Some f → Contains items (Err f)
refused-among [] f e = let no : None ≡ Some f = e in cc
refused-among (Err g ∷ items) f e = let same : g ≡ f = cc in (zero, omega arith, ap Err same)
refused-among (Ok x ∷ items) f e = let rest = refused-among items f e in (suc rest.0, omega (arith, rest.1), rest.2)

unread-inside : (target : Target) (bytes : List ℕ) (f : Fault) → reading_fault target bytes ≡ Some f → f.at ≤ length bytes
unread-inside target bytes f is =
    let r : ReadPosition = record { target = target; position = 0; rest = bytes } in
    let inside : f.at ≤ end-of r = read-up-to r (Err f) (refused-among (operations_of r) f is) in
    omega (arith, inside)

-- ---- faults of operations and of the end

module _ (kind : Kind) (ops : List Placed) (len : ℕ) (laid : IsLaidOut ops len) where
  placed-inside : (k : ℕ) (x : Placed) (at : ℕ) → slice_get ops k ≡ Some x → x.0 ≡ at → at ≤ len
  placed-inside k x at stands here = omega (arith, place_le ops len laid k, place_of_some ops len k x stands, here)

  reached-inside : (at : ℕ) (s : StackState) → Reaches kind ops len at s → at ≤ len
  reached-inside at s there =
      let p = reached_place kind ops len laid at s there in
      omega (arith, place_le ops len laid p.0, p.2)

  refused-inside : (given : Option (List State)) (f : FaultKind) (at : ℕ) → Refuses kind ops len given f at → at ≤ len
  refused-inside given fault.Unreachable at r = placed-inside r.0 r.1 at r.2 r.3
  refused-inside given fault.Mismatch at r = reached-inside at r.0 r.2
  refused-inside given fault.EndsEmpty at r = omega (arith, r.0)
  refused-inside given fault.CertState at r = reached-inside at r.2 r.5
  refused-inside given f at r = reached-inside at r.2 r.5

-- ---- the law

pub fault-inside : (kind : Kind) (target : Target) (bytes : List ℕ) (f : Fault) → expression_fault kind target bytes ≡ Some f
    → f.at ≤ length bytes
fault-inside kind target bytes f is = elim (first_if_some kind target bytes f is) [
  | inl unread ↦ unread-inside target bytes f unread
  | inr rest ↦ elim rest [
    | inl count ↦ absurd (count.1)
    | inr checked ↦ refused-inside kind (operations_in target bytes) (length bytes) (laid_if_read target bytes checked.0) None f.kind f.at
        checked.2.refuses
  ]
]
