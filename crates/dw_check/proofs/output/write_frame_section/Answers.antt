use Rattle.std.proofs.Common.{◌≤◌, length, arith, rules}
use Rattle.std.proofs.lemmas.Bool.Decides.{nat_tests}
use Rattle.dw_frame.specs.Views.{fde_of}
use Rattle.dw_check.specs.Text.{frame_text}
use Rattle.dw_check.proofs.Sent.{sent_none, sent_next, sent_front, sent_all, sent_place, next_seen, none_seen}
use Rattle.dw_check.proofs.Writing.{writes_front}
use Rattle.dw_check.proofs.output.write_frame_section.Goals as goal

pub loop-fde-init : goal.loop-fde-init
loop-fde-init g c = record {
  same = search rules;
  runs = search rules;
  sent = sent_none _ _ _ _ c.fdes-fdes.ensures.fdes;
}

pub loop-fde-preserved : goal.loop-fde-preserved
loop-fde-preserved g c = record {
  same = search rules;
  runs = search rules;
  sent = sent_next _ _ _ _ _ _ _ _ (next_seen fde_of c.fdes-fdes.result.now c.loop-fde.fde-index c.fde-item.result
      (omega arith) c.fde-item.is)
      c.loop-fde.invariant.sent c.in_ok-write_fde_and_rows.ensures.written;
}

pub write_fde_and_rows-requires-clause-inside : goal.write_fde_and_rows-requires-clause-inside
write_fde_and_rows-requires-clause-inside g c =
    sent_place _ _ _ _ _ _ _ (next_seen fde_of c.fdes-fdes.result.now c.loop-fde.fde-index c.fde-item.result
    (omega arith) c.fde-item.is) c.loop-fde.invariant.sent

pub write_fde_and_rows-requires-clause-fits : goal.write_fde_and_rows-requires-clause-fits
write_fde_and_rows-requires-clause-fits g c =
    c.fdes-fdes.ensures.fit (fde_of c.fde-item.result)
    (sent_place _ _ _ _ _ _ _ (next_seen fde_of c.fdes-fdes.result.now c.loop-fde.fde-index c.fde-item.result
    (omega arith) c.fde-item.is) c.loop-fde.invariant.sent)

pub returns-in_err-write_fde_and_rows-clause-written : goal.returns-in_err-write_fde_and_rows-clause-written
unfolding frame_text
returns-in_err-write_fde_and_rows-clause-written g c =
    writes_front _ _ _ _ c.from_residual.ensures.0
    (sent_front _ _ _ _ _ _ _ _ (next_seen fde_of c.fdes-fdes.result.now c.loop-fde.fde-index c.fde-item.result (omega arith) c.fde-item.is)
    c.loop-fde.invariant.sent c.in_err-write_fde_and_rows.ensures.written)

pub returns-clause-written : goal.returns-clause-written
unfolding frame_text
returns-clause-written g c =
    sent_all _ _ _ _ _ (none_seen fde_of c.fdes-fdes.result.now c.loop-fde.fde-index (omega arith)) c.loop-fde.invariant.sent

pub returns-then-is_empty-clause-written : goal.returns-then-is_empty-clause-written
unfolding frame_text
returns-then-is_empty-clause-written g c =
    let none : length c.fdes-fdes.result.now ≤ 0 = grind (arith, nat_tests) in
    sent_all _ _ _ _ _ (none_seen fde_of c.fdes-fdes.result.now 0 none) (sent_none _ _ _ _ c.fdes-fdes.ensures.fdes)
