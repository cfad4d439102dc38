use Rattle.std.proofs.Common.{rules}
use Rattle.dw_check.proofs.Lined.{lined_none, lined_next, lined_front, lined_all}
use Rattle.dw_check.proofs.Writing.{writes_front}
use Rattle.dw_check.proofs.reports.write_list_expressions.Goals as goal

pub loop-offset-init : goal.loop-offset-init
loop-offset-init g c = record {
  same = search rules;
  runs = search rules;
  lined = λ text are. rw (c.into_iter-offset-iterator.ensures.into_iter_gives) (lined_none _ text c.args.expressions _ are);
}

pub loop-offset-preserved : goal.loop-offset-preserved
loop-offset-preserved g c = record {
  same = search rules;
  runs = search rules;
  lined = λ text are. lined_next _ text _ c.next.new.self (c.in-Some.offset, c.in-Some.checked) _ _ _ c.in-Some.ensures.steps
      (c.loop-offset.invariant.lined text are) c.in_ok-write_expression_line.ensures.written;
}

pub returns-in_err-write_expression_line-clause-written : goal.returns-in_err-write_expression_line-clause-written
returns-in_err-write_expression_line-clause-written g c = λ text are.
    writes_front _ _ _ _ c.from_residual.ensures.0
    (lined_front _ text _ c.next.new.self (c.in-Some.offset, c.in-Some.checked) _ _ _ c.in-Some.ensures.steps
    (c.loop-offset.invariant.lined text are) c.in_err-write_expression_line.ensures.written)

pub returns-clause-written : goal.returns-clause-written
returns-clause-written g c = λ text are.
    lined_all _ text _ _ _ c.in-None.ensures.steps.0 (c.loop-offset.invariant.lined text are)
