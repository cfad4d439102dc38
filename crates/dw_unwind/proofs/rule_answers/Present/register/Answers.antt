use Rattle.std.proofs.Common.{◌≡◌, ℕ, refl, sym, ap, ◌∙◌}
use Rattle.dw_unwind.specs.declared.unwinding.Answer as declared
use Rattle.dw_unwind.specs.declared.unwinding.Answer.TheVariants as answers
use Rattle.dw_stack.specs.declared.state.Kind.TheVariants.{FrameRegister}
use Rattle.dw_stack.specs.Located.{located_of}
use Rattle.dw_unwind.specs.Caller.{Answer, if_value, word, with_cfa}
use Rattle.dw_unwind.specs.CallerViews.{answer_in, machine_in}
use Rattle.dw_unwind.proofs.Callers.{as_kind}
use Rattle.dw_unwind.proofs.rule_answers.Present.register.Goals as goal

-- `if_value` leaves an answer without a value unchanged
if_value_other : (a : declared.Answer) (f : ℕ → Answer) → ((n : ℕ) → a ≡ answers.Value n → ⊥) → answer_in a ≡ if_value (answer_in a) f
if_value_other (answers.Value n) f other = absurd (other n refl)
if_value_other answers.Undefined f other = refl
if_value_other answers.Unreadable f other = refl
if_value_other answers.DivisionByZero f other = refl

pub returns-in-Value-outcome : goal.returns-in-Value-outcome
returns-in-Value-outcome g c =
    let e = machine_in g.R.Registers.contents g.M.Memory.bytes c.args.self.now in
    let kind = rw c.in-Expression.is at c.requires in
    rw (c.in-Expression.is, c.in-Value-cfa-2.is) (
      answer_in c.outcome.result,
      as_kind (with_cfa e c.in-Value-cfa-2.cfa) FrameRegister (located_of (c.in-Expression.offset, c.in-Expression.expression))
          (answer_in c.outcome.result) kind (c.outcome.ensures c.in-Expression.offset),
      c.word-in-Value-outcome.ensures ∙ ap (λ (a : declared.Answer). if_value (answer_in a) (word e)) (sym c.in-Value-outcome.is),
    )

pub returns-in_default-outcome : goal.returns-in_default-outcome
returns-in_default-outcome g c =
    let e = machine_in g.R.Registers.contents g.M.Memory.bytes c.args.self.now in
    let kind = rw c.in-Expression.is at c.requires in
    rw (c.in-Expression.is, c.in-Value-cfa-2.is) (
      answer_in c.outcome.result,
      as_kind (with_cfa e c.in-Value-cfa-2.cfa) FrameRegister (located_of (c.in-Expression.offset, c.in-Expression.expression))
          (answer_in c.outcome.result) kind (c.outcome.ensures c.in-Expression.offset),
      if_value_other c.outcome.result (word e) c.in_default-outcome.not-Value,
    )

pub returns-in-Value-cfa-3 : goal.returns-in-Value-cfa-3
returns-in-Value-cfa-3 g c =
    let kind = rw c.in-ValExpression.is at c.requires in
    let e = machine_in g.R.Registers.contents g.M.Memory.bytes c.args.self.now in
    rw (c.in-ValExpression.is, c.in-Value-cfa-3.is)
    (as_kind (with_cfa e c.in-Value-cfa-3.cfa) FrameRegister (located_of (c.in-ValExpression.offset, c.in-ValExpression.expression))
    (answer_in c.outcome-in-Value-cfa-3.result) kind (c.outcome-in-Value-cfa-3.ensures c.in-ValExpression.offset))
