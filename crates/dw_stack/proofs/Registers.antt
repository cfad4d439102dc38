-- A location that is a single byte, DW_OP_reg0 to DW_OP_reg31, passes the check.
use Rattle.std.proofs.Common.{◌≡◌, ℕ, ◌+◌, ◌-◌, ◌<◌, ◌≤◌, true, false, List, [], ◌∷◌, length, drop, get_or, Some}
use Rattle.std.proofs.Common.{Ok, refl, sym, ap, arith, rules}
use Rattle.std.proofs.lemmas.Bool.{lt-ltb, le-ltb}
use Rattle.dw_bytes.specs.declared.target.Order.{Order}
use Rattle.dw_bytes.specs.declared.target.Order.TheVariants.{Little, Big}
use Rattle.dw_bytes.specs.Encoding.{number}
use Rattle.dw_bytes.specs.Reading.{ReadPosition, fixed_at}
use Rattle.dw_bytes.specs.Operands.{none}
use Rattle.dw_bytes.proofs.Fields.{fixed_exact}
use Rattle.dw_ops.specs.declared.expression.Expression.{Expression}
use Rattle.dw_ops.specs.Operations.{Operation, reg}
use Rattle.dw_ops.specs.Opcodes.{line_of, operation_at}
use Rattle.dw_ops.specs.Views.{bytes_of, target_of, reading_from}
use Rattle.dw_stack.specs.declared.state.Kind.TheVariants.{Location}
use Rattle.dw_stack.specs.Effects.{effect_of}
use Rattle.dw_stack.specs.States.{start_of, state_after}
use Rattle.dw_stack.specs.OperationCheck.{Suits}
use Rattle.dw_stack.specs.Expressions.{Checked, IsChecked}
use Rattle.dw_stack.proofs.paths.Unbranched.{begun, further, checked}

one_byte : (o : Order) (n : ℕ) → n ≡ number o 1 (n ∷ [])
one_byte Little n = omega arith
one_byte Big n = omega arith

-- in the table of operations, the codes 50 to 6f (hex) are DW_OP_reg0 to DW_OP_reg31
reg_line : (b : ℕ) → 0x50 ≤ b → b < 0x70 → line_of b ≡ Some (none (reg (b - 0x50)))
reg_line b low high =
    rw (le-ltb b 0x12 (omega arith), le-ltb b 0x20 (omega arith), le-ltb b 0x30 (omega arith), le-ltb b 0x50 low, lt-ltb b 0x70 high) refl

abbrev past : Expression → ReadPosition
past e = record { target = target_of e; position = 0 + 1; rest = [] }

reg_read : (e : Expression) (b : ℕ) → bytes_of e ≡ b ∷ [] → 0x50 ≤ b → b < 0x70
    → operation_at (reading_from e 0) ≡ Ok (reg (b - 0x50), reading_from e 1)
unfolding operation_at
reg_read e b is low high =
    let code : fixed_at 1 (reading_from e 0) ≡ Ok (b, past e) = (fixed_exact 1 (reading_from e 0)).only b (past e) (record {
      bytes = b ∷ [];
      encoded = record { count = refl; value = one_byte (target_of e).order b };
      parts = is;
      position = refl;
      target = refl;
    }) in
    let end : past e ≡ reading_from e 1 = ap (λ (bs : List ℕ). record { target = target_of e; position = 1; rest = bs })
    (sym (ap (drop 1) is)) in
    rw (code, reg_line b low high) (ap (λ (r : ReadPosition). Ok (reg (b - 0x50), r)) end)

-- a list of length 1 has just its first element
single : (bs : List ℕ) → length bs ≡ 1 → bs ≡ get_or bs 0 0 ∷ []
single [] is = absurd (omega arith)
single (b ∷ []) is = refl
single (b ∷ c ∷ bs) is = absurd (omega arith)

abbrev pub alone : Expression → Checked
alone e = record { kind = Location; target = target_of e; bytes = bytes_of e; depth = 0; count = 1 }

checked_byte : (e : Expression) (b : ℕ) → bytes_of e ≡ b ∷ [] → 0x50 ≤ b → b < 0x70 → IsChecked (alone e)
checked_byte e b is low high =
    let long : length (bytes_of e) ≡ 1 = ap length is in
    let op : Operation = reg (b - 0x50) in
    let suits : Suits Location (effect_of op) 0 (start_of Location) 0 = record {
      allowed = search rules;
      alone = search rules;
      needs = omega arith;
      limit = omega arith;
      few = λ (piece : false ≡ true). absurd (cc);
      height_is = refl;
    } in
    let first = begun Location e (start_of Location) refl in
    let all = further Location e 0 0 (start_of Location) 0 0 [] op 1 0 first (reg_read e b is low high) (omega arith) (omega (arith, long)) refl
    suits in
    checked Location e 1 1 (state_after (effect_of op) (start_of Location)) 0 0 _ all (omega (arith, long)) (search rules)

pub register_checked : (e : Expression) → length (bytes_of e) ≡ 1 → 0x50 ≤ get_or (bytes_of e) 0 0 → get_or (bytes_of e) 0 0 < 0x70
    → IsChecked (alone e)
register_checked e long low high = checked_byte e (get_or (bytes_of e) 0 0) (single (bytes_of e) long) low high
