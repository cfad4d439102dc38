use Rattle.std.proofs.Common.{inr}
use Rattle.std.proofs.lemmas.Result.{err_from_is_err_and}
use Rattle.dw_eh_rows.proofs.SignalsRead.{signals-more, signals-end, signals-refused, signals-whole}
use Rattle.dw_eh_frame.specs.Records.{eh_fde}
use Rattle.dw_eh_frame.specs.Views.{eh_record_of, fde_with_cie}
use Rattle.dw_eh_rows.proofs.signals.signal_frames.Goals as goal

pub returns-in_err-record-clause-answer : goal.returns-in_err-record-clause-answer
returns-in_err-record-clause-answer c =
    let p = err_from_is_err_and c.from_residual-in_err-record.result c.from_residual-in_err-record.ensures.1 in rw (p.1, p.2)
    (inr (signals-refused c.args.is_aarch64 c.args.bases c.args.target c.args.section.now c.loop-at.at c.loop-at.ranges.items _
    c.loop-at.invariant.ranges
    (c.records_come_in_order.ensures.fault c.args.is_aarch64 c.args.bases c.args.target c.args.section.now c.loop-at.at _
    c.loop-at-test.true c.in_err-record.ensures.exact)))

pub loop-at-preserved : goal.loop-at-preserved
loop-at-preserved c = record {
  ranges = signals-more c.args.is_aarch64 c.args.bases c.args.target c.args.section.now c.loop-at.at c.in_ok-record.next
      (eh_record_of c.in_ok-record.record) c.loop-at.ranges.items c.push_signal_frame.new.ranges.items c.loop-at.invariant.ranges
      (c.records_come_in_order.ensures.entry c.args.is_aarch64 c.args.bases c.args.target c.args.section.now c.loop-at.at c.in_ok-record.next
      (eh_record_of c.in_ok-record.record) c.in_ok-record.ensures.exact)
      c.in_ok-record.ensures.forward.1 c.in_ok-push_signal_frame.ensures.pushed;
  last = c.cie_after-last.ensures c.args.is_aarch64 c.args.target c.args.section.now c.in_ok-record.ensures.cie c.loop-at.invariant.last;
}

pub loop-at-preserved-in-loop-at : goal.loop-at-preserved-in-loop-at
loop-at-preserved-in-loop-at c = record {
  ranges = signals-more c.args.is_aarch64 c.args.bases c.args.target c.args.section.now c.loop-at.at c.in-Some-usual_fde.next
      (eh_fde (fde_with_cie c.in-Some.cie c.in-Some-usual_fde.fde)) c.loop-at.ranges.items c.push_signal_fde.new.ranges.items
      c.loop-at.invariant.ranges
      (c.records_come_in_order.ensures.entry c.args.is_aarch64 c.args.bases c.args.target c.args.section.now c.loop-at.at
      c.in-Some-usual_fde.next (eh_fde (fde_with_cie c.in-Some.cie c.in-Some-usual_fde.fde)) c.in-Some-usual_fde.ensures.exact)
      c.in-Some-usual_fde.ensures.forward.1 c.in_ok-push_signal_fde.ensures.pushed;
  last = c.loop-at.invariant.last;
}

pub returns : goal.returns
returns c =
    let end = c.records_come_in_order.ensures.nothing c.args.is_aarch64 c.args.bases c.args.target c.args.section.now c.loop-at.at
    c.loop-at-test.false in
    record {
      answer = signals-whole c.args.is_aarch64 c.args.bases c.args.target c.args.section.now c.loop-at.at c.loop-at.ranges.items
          c.loop-at.invariant.ranges end;
      frames = signals-end c.args.is_aarch64 c.args.bases c.args.target c.args.section.now c.loop-at.at c.loop-at.ranges.items
          c.loop-at.invariant.ranges end;
    }
