-- Reading a code and its operands goes forward, and reports faults inside the bytes that are left
-- or at their end.
use Rattle.std.proofs.Common.{◌≡◌, ℕ, ◌≤◌, Bool, true, false, cond, List, [], ◌∷◌, Option, Some, None, Result, Ok, Err, refl, arith}
use Rattle.std.specs.Int.{byte_len, cast_signed}
use Rattle.dw_bytes.specs.declared.target.Target.{Target}
use Rattle.dw_bytes.specs.declared.fault.Fault.{Fault}
use Rattle.dw_bytes.specs.declared.fault.FaultKind.{FaultKind}
use Rattle.dw_bytes.specs.Reading.{ReadPosition, ◌>>=◌, take_at, fixed_at, uleb_at}
use Rattle.dw_bytes.specs.Operands.{OperandKind, address, fixed, signed_fixed, unsigned, signed, register_number, read_size, piece_size}
use Rattle.dw_bytes.specs.Operands.{Block, operand_at, fits, range_fault, Operands, values_at, in_range, in_ranges, operands_in_range_at}
use Rattle.dw_bytes.specs.Operands.{Line, line, block, operands_at, coded_at}
use Rattle.dw_bytes.proofs.Bounds.{Stays, AlwaysStays, bind-stays, made-stays, fixed-stays, address-stays, uleb-stays, sleb-stays}
use Rattle.dw_bytes.proofs.Bounds.{take-stays}

abbrev block-of : ℕ → Target → List ℕ → Block
block-of offset target bytes = record { offset = offset; target = target; bytes = bytes }

abbrev block-past : Target → ℕ → ReadPosition → Result (Block × ReadPosition) Fault
block-past target n s = take_at n s >>= λ b. Ok (block-of s.position target b.0, b.1)

block-stays : (from : ℕ) (target : Target) (n : ℕ) → AlwaysStays from (block-past target n)
block-stays from target n s h = bind-stays from s (take_at n s) (λ b t. Ok (block-of s.position target b, t)) h (take-stays from n s h)
    (λ b. made-stays from (block-of s.position target b))

pub operand-stays : (from : ℕ) (kind : OperandKind) → AlwaysStays from (operand_at kind)
operand-stays from address = address-stays from
operand-stays from (fixed n) = fixed-stays from n
operand-stays from (signed_fixed w) = λ r h. bind-stays from r (fixed_at (byte_len w) r) (λ n s. Ok (cast_signed w n, s)) h
    (fixed-stays from (byte_len w) r h) (λ n. made-stays from (cast_signed w n))
operand-stays from unsigned = uleb-stays from
operand-stays from signed = sleb-stays from
operand-stays from register_number = uleb-stays from
operand-stays from read_size = fixed-stays from 1
operand-stays from piece_size = uleb-stays from
operand-stays from block = λ r h. bind-stays from r (uleb_at r) (block-past r.target) h (uleb-stays from r h) (block-stays from r.target)

values-stay : (from : ℕ) (kinds : List OperandKind) → AlwaysStays from (values_at kinds)
values-stay from [] = λ r h. (omega arith, refl)
values-stay from (kind ∷ kinds) = λ r h.
    bind-stays from r (operand_at kind r) (λ v s. values_at kinds s >>= λ vs. Ok ((v, vs.0), vs.1)) h (operand-stays from kind r h)
    (λ v s k. bind-stays from s (values_at kinds s) (λ vs t. Ok ((v, vs), t)) k (values-stay from kinds s k)
    (λ vs. made-stays {A = Operands (kind ∷ kinds)} from (v, vs)))

-- ---- the ranges of operands, whose faults are reported at the code

abbrev IsAt : {A : Type 0} → ℕ → Result A Fault → Type 0
IsAt at (Ok a) = Unit {0}
IsAt at (Err fault) = fault.at ≡ at

bind-at : {A B : Type 0} (at : ℕ) (x : Result A Fault) (f : A → Result B Fault) → IsAt at x → ((a : A) → IsAt at (f a)) → IsAt at (x >>= f)
bind-at at (Ok a) f h k = k a
bind-at at (Err fault) f h k = h

range-at : {A : Type 0} (at : ℕ) (b : Bool) (a : A) (kind : FaultKind)
    → IsAt {A = A} at (cond b (Ok a) (Err (record { kind = kind; at = at })))
range-at at true a kind = tt
range-at at false a kind = refl

ranges-at : (target : Target) (at : ℕ) (kinds : List OperandKind) (vs : Operands kinds) → IsAt at (in_ranges target at kinds vs)
ranges-at target at [] vs = tt
ranges-at target at (kind ∷ kinds) vs =
    bind-at at (in_range target at kind vs.0) (λ v. in_ranges target at kinds vs.1 >>= λ others. Ok (v, others))
    (range-at at (fits target kind vs.0) vs.0 (range_fault kind))
    (λ v. bind-at at (in_ranges target at kinds vs.1) (λ others. Ok (v, others)) (ranges-at target at kinds vs.1) (λ others. tt))

checked-stays : {A : Type 0} (at : ℕ) (r : ReadPosition) (x : Result A Fault) → at ≤ r.position → IsAt at x
    → Stays {X = A} at r (x >>= λ a. Ok (a, r))
checked-stays at r (Ok a) h k = (omega arith, refl)
checked-stays at r (Err fault) h k = (omega (arith, k), omega (arith, k))

given-stays : (at : ℕ) (kinds : List OperandKind) → AlwaysStays at (operands_in_range_at at kinds)
given-stays at kinds r h =
    bind-stays at r (values_at kinds r) (λ vs s. in_ranges r.target at kinds vs >>= λ given. Ok (given, s)) h (values-stay at kinds r h)
    (λ vs s k. checked-stays at s (in_ranges r.target at kinds vs) k (ranges-at r.target at kinds vs))

operands-stay : {I : Type 0} (unknown : FaultKind) (at : ℕ) (of : Option (Line I)) → AlwaysStays at (operands_at unknown at of)
operands-stay unknown at None r h = (omega arith, omega arith)
operands-stay unknown at (Some (line kinds make)) r h = bind-stays at r (operands_in_range_at at kinds r) (λ vs s. Ok (make vs, s)) h
    (given-stays at kinds r h) (λ vs. made-stays at (make vs))

pub coded-stays : {I : Type 0} (table : ℕ → Option (Line I)) (unknown : FaultKind) (r : ReadPosition)
    → Stays r.position r (coded_at table unknown r)
coded-stays table unknown r = bind-stays r.position r (fixed_at 1 r) (λ code. operands_at unknown r.position (table code)) (omega arith)
    (fixed-stays r.position 1 r (omega arith)) (λ code. operands-stay unknown r.position (table code))
