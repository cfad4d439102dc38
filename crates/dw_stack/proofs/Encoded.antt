-- The bytes of an expression that are read without a fault are the encodings of its operations,
-- laid out one after another.
use Rattle.std.proofs.Common.{◌≡◌, ◌∙◌, ℕ, zero, suc, ◌+◌, ◌<◌, List, [], ◌∷◌, length, map, None, Result, Ok, Err, refl, ap, subst, arith}
use Rattle.std.proofs.Common.{length-append}
use Rattle.dw_bytes.specs.declared.target.Target.{Target}
use Rattle.dw_bytes.specs.declared.fault.Fault.{Fault}
use Rattle.dw_bytes.specs.Answers.{values_in, fault_in}
use Rattle.dw_bytes.specs.Reading.{ReadPosition}
use Rattle.dw_ops.specs.Opcodes.{AreOperations, operations_of}
use Rattle.dw_ops.proofs.Exact.{some-bytes}
use Rattle.dw_ops.proofs.Lists.{expressions-are-operations}
use Rattle.dw_stack.specs.Paths.{Placed, place, IsLaidOut}
use Rattle.dw_stack.specs.Expressions.{operations_in, reading_fault}

pub first_place : (target : Target) (at : ℕ) (bytes : List ℕ) (ops : List Placed) → AreOperations target at bytes ops
    → place ops (at + length bytes) 0 ≡ at
first_place target at bytes [] are = let none = ap length are in omega (arith, none)
first_place target at bytes (x ∷ xs) (first, rest, parts, encoded, others) = encoded.0

next_place : (target : Target) (at : ℕ) (bytes : List ℕ) (ops : List Placed) → AreOperations target at bytes ops → (j : ℕ) → j < length ops
    → place ops (at + length bytes) j < place ops (at + length bytes) (suc j)
next_place target at bytes [] are j lt = absurd (omega arith)
next_place target at bytes (x ∷ xs) (first, rest, parts, encoded, others) zero lt =
    let some = some-bytes target at first x.1 encoded.1 in
    let next = first_place target (at + length first) rest xs others in
    let same : place xs (at + length bytes) 0 ≡ place xs (at + length first + length rest) 0 =
    ap (λ (n : ℕ). place xs n 0) (omega (arith, ap length parts, length-append first rest)) in
    omega (arith, some, next, same, encoded.0)
next_place target at bytes (x ∷ xs) (first, rest, parts, encoded, others) (suc j) lt =
    let step = next_place target (at + length first) rest xs others j (omega arith) in
    let long : at + length first + length rest ≡ at + length bytes = omega (arith, ap length parts, length-append first rest) in
    subst (λ (n : ℕ). place xs n j < place xs n (suc j)) long step

pub laid_out : (target : Target) (bytes : List ℕ) (ops : List Placed) → AreOperations target 0 bytes ops → IsLaidOut ops (length bytes)
laid_out target bytes ops are = subst (λ (n : ℕ). IsLaidOut ops n) (from_zero (length bytes)) (record {
  first = first_place target 0 bytes ops are;
  each = λ j lt. let e : place ops (0 + length bytes) (suc j) ≡ place ops (0 + length bytes) (j + 1) =
      ap (place ops (0 + length bytes)) (omega arith) in let step = next_place target 0 bytes ops are j lt in omega (arith, step, e);
})
  where
    from_zero : (n : ℕ) → 0 + n ≡ n
    from_zero n = omega arith

all_read : {X : Type 0} (items : List (Result X Fault)) → fault_in items ≡ None → items ≡ map Ok (values_in items)
all_read [] none = refl
all_read {X} (Ok x ∷ items) none = ap (λ (l : List (Result X Fault)). Ok x ∷ l) (all_read items none)
all_read (Err fault ∷ items) none = absurd (cc)

none_refused : {X : Type 0} (xs : List X) → fault_in (map {B = Result X Fault} Ok xs) ≡ None
none_refused [] = refl
none_refused (x ∷ xs) = none_refused xs

-- bytes that are read to the end without a fault are the encodings of operations, and bytes that
-- are encodings of operations are read to the end without a fault
pub encoded_of : (target : Target) (bytes : List ℕ) → reading_fault target bytes ≡ None
    → AreOperations target 0 bytes (operations_in target bytes)
encoded_of target bytes none =
    let r : ReadPosition = record { target = target; position = 0; rest = bytes } in
    (expressions-are-operations r (operations_in target bytes)).0 (all_read (operations_of r) none)

pub read_of : (target : Target) (bytes : List ℕ) (ops : List Placed) → AreOperations target 0 bytes ops → reading_fault target bytes ≡ None
read_of target bytes ops are =
    let r : ReadPosition = record { target = target; position = 0; rest = bytes } in
    ap fault_in ((expressions-are-operations r ops).1 are) ∙ none_refused ops

pub laid_if_read : (target : Target) (bytes : List ℕ) → reading_fault target bytes ≡ None
    → IsLaidOut (operations_in target bytes) (length bytes)
laid_if_read target bytes none = laid_out target bytes (operations_in target bytes) (encoded_of target bytes none)
