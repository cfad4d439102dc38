-- How the fields of a header are described, as a value of type `Fields`. From one description come
-- both which bytes encode the fields (`Encodes`), and how the fields are read from left to right up
-- to the first fault (`fields_at`).
use Rattle.std.specs.Prelude.{◌≡◌, ◌+◌, ◌==◌, ℕ, Bool, if◌then◌else◌, List, [], ◌++◌, length, Option, Some, None, Result, Ok, Err}
use Rattle.dw_bytes.specs.declared.target.Target.{Target}
use Rattle.dw_bytes.specs.declared.fault.Fault.{Fault}
use Rattle.dw_bytes.specs.declared.fault.FaultKind.{FaultKind}
use Rattle.dw_bytes.specs.Reading.{ReadPosition, ◌>>=◌}
use Rattle.dw_bytes.specs.Operands.{OperandKind, fixed, Operand, IsOperand, operand_at}

-- `made v`: there are no more fields, and v is the value that they make. `field kind fault next`:
-- the next field is an operand of this kind; `fault` gives the kind of fault for a bad value of the
-- field, and None for a good value; `next` gives the fields after it, which may depend on its
-- value.
pub data Fields (B : Type 0) : Type 0 where
  made : B → Fields B
  field : (kind : OperandKind) → (Operand kind → Option FaultKind) → (Operand kind → Fields B) → Fields B

-- `any`: a field that may have any value. `unless`: None if the test holds, otherwise the fault.
-- `byte`: a field of one byte that must have the given value.
abbrev pub any : {B : Type 0} (kind : OperandKind) → (Operand kind → Fields B) → Fields B
any kind next = field kind (λ v. None) next

abbrev pub unless : Bool → FaultKind → Option FaultKind
unless test fault = if test then None else Some fault

abbrev pub byte : {B : Type 0} → FaultKind → ℕ → Fields B → Fields B
byte fault value next = field (fixed 1) (λ v. unless (v == value) fault) (λ v. next)

-- ---- which bytes encode the fields from offset `at` on, and which value the fields make

abbrev pub Encodes : {B : Type 0} → Target → Fields B → ℕ → List ℕ → B → Type 0
Encodes target (made b) at bytes v = (bytes ≡ []) × (v ≡ b)
Encodes target (field kind fault next) at bytes v = (x : Operand kind) × (first : List ℕ) × (rest : List ℕ) × (bytes ≡ first ++ rest)
    × IsOperand target kind at first x × (fault x ≡ None) × Encodes target (next x) (at + length first) rest v

-- ---- reading the fields: each is checked as soon as it is read, and its fault is reported at its
-- first byte

abbrev pub ok_unless : {X : Type 0} → Option FaultKind → ℕ → X → Result X Fault
ok_unless None at x = Ok x
ok_unless (Some fault) at x = Err (record { kind = fault; at = at })

abbrev pub field_at : (kind : OperandKind) → (Operand kind → Option FaultKind) → ReadPosition → Result (Operand kind × ReadPosition) Fault
field_at kind fault r = operand_at kind r >>= λ x. ok_unless (fault x.0) r.position x

abbrev pub byte_at : FaultKind → ℕ → ReadPosition → Result (ℕ × ReadPosition) Fault
byte_at fault value = field_at (fixed 1) (λ v. unless (v == value) fault)

abbrev pub fields_at : {B : Type 0} → Fields B → ReadPosition → Result (B × ReadPosition) Fault
fields_at (made b) r = Ok (b, r)
fields_at (field kind fault next) r = field_at kind fault r >>= λ x. fields_at (next x.0) x.1
