use Rattle.std.proofs.Common.{refl, rules, subst, sym}
use Rattle.dw_check.specs.Text.{Fits}
use Rattle.dw_check.proofs.Sent.{sent_none, sent_next, sent_front, sent_place, all_here}
use Rattle.dw_check.proofs.Writing.{writes_front}
use Rattle.dw_check.proofs.output.write_rows.Goals as goal

pub rows-init : goal.rows-init
rows-init g c = record {
  same = search rules;
  runs = search rules;
  sent = sent_none _ _ _ _ refl;
}

pub rows-preserved : goal.rows-preserved
rows-preserved g c = record {
  same = search rules;
  runs = search rules;
  sent = sent_next _ _ _ _ _ _ _ _ c.rows-test.ensures.some c.rows.invariant.sent
      (rw c.rows.invariant.same.1 at c.in_ok-write_row.ensures.written);
}

pub write_row-requires-clause-fits : goal.write_row-requires-clause-fits
write_row-requires-clause-fits g c =
    let size = c.args.out.now.size in
    let fits : Fits size c.next_into.new.row =
    all_here (λ row. Fits size row) c.args.rows.now c.next_into.new.row c.requires.fit
    (sent_place _ _ _ _ _ _ _ c.rows-test.ensures.some c.rows.invariant.sent) in
    subst (λ s. Fits s c.next_into.new.row) (sym c.rows.invariant.same.1) fits

pub returns-in_err-write_row-clause-written : goal.returns-in_err-write_row-clause-written
returns-in_err-write_row-clause-written g c =
    writes_front _ _ _ _ c.from_residual.ensures.0
    (sent_front _ _ _ _ _ _ _ _ c.rows-test.ensures.some c.rows.invariant.sent
    (rw c.rows.invariant.same.1 at c.in_err-write_row.ensures.written))
