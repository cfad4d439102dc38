use Rattle.std.proofs.Common.{◌≡◌, false, length}
use Rattle.dw_check.specs.Text.{row_line}
use Rattle.dw_check.specs.WriteResults.{IsSame}
use Rattle.dw_check.proofs.Sent.{Sent}
use Rattle.dw_check.proofs.output.write_rows.Given as goal

abbrev pub invariant-rows : goal.invariant-rows
invariant-rows g l = record {
  same : IsSame l.fn.out l.out;
  runs : g.S.Sink.has_stopped l.out.sink.now ≡ false;
  sent : Sent (row_line l.fn.out.size) l.fn.rows l.rows (g.S.Sink.taken l.fn.out.sink.now) (g.S.Sink.taken l.out.sink.now);
}

abbrev pub decreases-rows : goal.decreases-rows
decreases-rows g l = length l.rows
