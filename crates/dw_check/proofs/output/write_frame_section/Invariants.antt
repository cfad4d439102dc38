use Rattle.std.proofs.Common.{◌≡◌, false, map, drop}
use Rattle.dw_frame.specs.Views.{fde_of}
use Rattle.dw_check.specs.Text.{fde_text}
use Rattle.dw_check.specs.WriteResults.{IsSame}
use Rattle.dw_check.proofs.Sent.{Sent}
use Rattle.dw_check.proofs.output.write_frame_section.Given as goal

abbrev pub invariant-loop-fde : goal.invariant-loop-fde
invariant-loop-fde g l = record {
  same : IsSame l.fn.out l.out;
  runs : g.S.Sink.has_stopped l.out.sink.now ≡ false;
  sent : Sent (fde_text l.frame) l.frame.fdes (map fde_of (drop l.fde-index l.fdes)) (g.S.Sink.taken l.fn.out.sink.now)
      (g.S.Sink.taken l.out.sink.now);
}
