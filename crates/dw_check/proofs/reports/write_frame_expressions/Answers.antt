use Rattle.std.proofs.Common.{arith, rules}
use Rattle.dw_check.proofs.Sent.{sent_next, sent_front}
use Rattle.dw_check.proofs.Writing.{writes_front}
use Rattle.dw_check.proofs.Reported.{next_here}
use Rattle.dw_check.proofs.reports.write_frame_expressions.Goals as goal

pub loop-located-preserved : goal.loop-located-preserved
loop-located-preserved g c = record {
  same = search rules;
  runs = search rules;
  sent = sent_next _ _ _ _ _ _ _ _ (next_here c.args.expressions.now c.loop-located.located-index c.located-item.result
      (omega arith) c.located-item.is)
      c.loop-located.invariant.sent c.in_ok-write_expression_line.ensures.written;
}

pub returns-in_err-write_expression_line-clause-written : goal.returns-in_err-write_expression_line-clause-written
returns-in_err-write_expression_line-clause-written g c =
    writes_front _ _ _ _ c.from_residual.ensures.0
    (sent_front _ _ _ _ _ _ _ _ (next_here c.args.expressions.now c.loop-located.located-index c.located-item.result (omega arith)
    c.located-item.is)
    c.loop-located.invariant.sent c.in_err-write_expression_line.ensures.written)
