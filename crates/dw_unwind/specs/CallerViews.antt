-- Translates the code's `Answer`, `Caller` and `Present` to the definitions of Caller.antt.
use Rattle.std.specs.Prelude.{ℕ, map, Option, None}
use Rattle.dw_eval.specs.World.{World}
use Rattle.dw_unwind.specs.declared.unwinding.Answer as declared_answer
use Rattle.dw_unwind.specs.declared.unwinding.Answer.TheVariants as answers
use Rattle.dw_unwind.specs.declared.unwinding.Caller as declared_caller
use Rattle.dw_unwind.specs.declared.rule_answers.Present.{Present}
use Rattle.dw_unwind.specs.Caller.{Answer, value, undefined, unreadable, division_by_zero, Caller, machine}

abbrev pub answer_in : declared_answer.Answer → Answer
answer_in (answers.Value n) = value n
answer_in answers.Undefined = undefined
answer_in answers.Unreadable = unreadable
answer_in answers.DivisionByZero = division_by_zero

-- a register number with its answer
abbrev pub found_in : ℕ × declared_answer.Answer → ℕ × Answer
found_in x = (x.0, answer_in x.1)

abbrev pub caller_in : declared_caller.Caller → Caller
caller_in c = record {
  cfa = answer_in c.cfa;
  registers = map found_in c.registers.items;
  return_address = answer_in c.return_address;
}

-- the `World` that has the target, registers and memory of a `Present`
abbrev pub machine_in : {R M : Type 0} → (R → ℕ → Option ℕ) → (M → ℕ → Option ℕ) → Present R M → World
machine_in contents bytes m = machine m.target (contents m.registers.now) (bytes m.memory.now)

-- the world `e` with `cfa` as its CFA, if any, and without a frame base or an object
abbrev pub with_optional_cfa : World → Option ℕ → World
with_optional_cfa e cfa =
    record { target = e.target; registers = e.registers; memory = e.memory; cfa = cfa; frame_base = None; object = None }
