-- Reading the bytes at an operation's offset gives that operation, and ends where the next one
-- begins.
use Rattle.std.proofs.Common.{◌≡◌, ◌∙◌, ℕ, zero, suc, ◌+◌, List, [], ◌∷◌, length, drop, Some, Ok, refl, sym, ap, subst, arith}
use Rattle.std.proofs.Common.{length-append}
use Rattle.std.specs.Prelude.{slice_get}
use Rattle.std.proofs.lemmas.List.{drop-drop}
use Rattle.std.proofs.Math.Seq.{drop-append_seam}
use Rattle.std.proofs.lemmas.Option.{same_Some}
use Rattle.dw_bytes.specs.declared.target.Target.{Target}
use Rattle.dw_bytes.specs.Reading.{ReadPosition}
use Rattle.dw_ops.specs.Opcodes.{AreOperations, operation_at}
use Rattle.dw_ops.proofs.Lists.{exact-operation}
use Rattle.dw_stack.specs.Paths.{Placed, place}
use Rattle.dw_stack.specs.Expressions.{operations_in, reading_at}
use Rattle.dw_stack.proofs.Encoded.{first_place}

abbrev reading : Target → ℕ → List ℕ → ReadPosition
reading target at rest = record { target = target; position = at; rest = rest }

stands_from : (target : Target) (bytes : List ℕ) (at : ℕ) (rest : List ℕ) (ops : List Placed) → AreOperations target at rest ops
    → rest ≡ drop at bytes → (k : ℕ) (x : Placed) → slice_get ops k ≡ Some x
    → operation_at (reading_at target bytes x.0) ≡ Ok (x.1, reading_at target bytes (place ops (at + length rest) (suc k)))
stands_from target bytes at rest [] are here k x is = absurd (cc)
stands_from target bytes at rest (y ∷ ops) (first, others, parts, encoded, tail) here zero x is =
    let same : y ≡ x = same_Some y x is in
    let past : others ≡ drop (at + length first) bytes = sym (drop-append_seam first others)
    ∙ (ap (drop (length first)) (sym parts ∙ here) ∙ drop-drop (length first) at bytes) in
    let exact = (exact-operation (reading target at rest)).only y.1 (reading target (at + length first) others)
    (record { bytes = first; encoded = encoded.1; parts = parts; position = refl; target = refl }) in
    let long : at + length rest ≡ at + length first + length others = omega (arith, ap length parts, length-append first others) in
    let next : place ops (at + length rest) 0 ≡ at + length first = ap (λ (n : ℕ). place ops n 0) long
    ∙ first_place target (at + length first) others ops tail in
    let from : reading_at target bytes x.0 ≡ reading target at rest = ap (λ (p : Placed). reading_at target bytes p.0) (sym same)
    ∙ (ap (reading_at target bytes) encoded.0 ∙ ap (reading target at) (sym here)) in
    let to : reading target (at + length first) others ≡ reading_at target bytes (place ops (at + length rest) 0) =
    ap (reading target (at + length first)) past ∙ ap (reading_at target bytes) (sym next) in
    ap operation_at from ∙ (exact ∙ (ap (λ (r : ReadPosition). Ok (y.1, r)) to
    ∙ ap (λ (p : Placed). Ok (p.1, reading_at target bytes (place ops (at + length rest) 0))) same))
stands_from target bytes at rest (y ∷ ops) (first, others, parts, encoded, tail) here (suc k) x is =
    let past : others ≡ drop (at + length first) bytes = sym (drop-append_seam first others)
    ∙ (ap (drop (length first)) (sym parts ∙ here) ∙ drop-drop (length first) at bytes) in
    let later = stands_from target bytes (at + length first) others ops tail past k x is in
    let long : at + length first + length others ≡ at + length rest = omega (arith, ap length parts, length-append first others) in
    subst (λ (n : ℕ). operation_at (reading_at target bytes x.0) ≡ Ok (x.1, reading_at target bytes (place ops n (suc k)))) long later

pub stands_in : (target : Target) (bytes : List ℕ) → AreOperations target 0 bytes (operations_in target bytes) → (k : ℕ) (x : Placed)
    → slice_get (operations_in target bytes) k ≡ Some x
    → operation_at (reading_at target bytes x.0) ≡ Ok
    (x.1, reading_at target bytes (place (operations_in target bytes) (length bytes) (k + 1)))
stands_in target bytes are k x is =
    let here = stands_from target bytes 0 bytes (operations_in target bytes) are refl k x is in
    subst (λ (n : ℕ). operation_at (reading_at target bytes x.0) ≡ Ok
    (x.1, reading_at target bytes (place (operations_in target bytes) n (k + 1)))) (from_zero (length bytes))
    (subst (λ (n : ℕ). operation_at (reading_at target bytes x.0) ≡ Ok
    (x.1, reading_at target bytes (place (operations_in target bytes) (0 + length bytes) n))) (more k) here)
  where
    from_zero : (n : ℕ) → 0 + n ≡ n
    from_zero n = omega arith

    more : (n : ℕ) → suc n ≡ n + 1
    more n = omega arith
