use Rattle.std.proofs.Common.{None, inl, inr}
use Rattle.dw_stack.proofs.Existing.{every_expression_has_a_verdict}
use Rattle.dw_stack.proofs.laws.every_expression_has_a_verdict.Goals as goal

pub returns : goal.returns
returns c = record {
  alone = λ kind target bytes. elim (every_expression_has_a_verdict kind target bytes None) [ inl good ↦ inl good.0 | inr bad ↦ inr bad ];
  given = every_expression_has_a_verdict;
}
