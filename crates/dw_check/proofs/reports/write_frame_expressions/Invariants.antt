use Rattle.std.proofs.Common.{◌≡◌, false, drop}
use Rattle.dw_check.specs.ReportViews.{line_of}
use Rattle.dw_sections.specs.declared.section.Section.TheVariants as sections
use Rattle.dw_check.specs.WriteResults.{IsSame}
use Rattle.dw_check.proofs.Sent.{Sent}
use Rattle.dw_check.proofs.reports.write_frame_expressions.Given as goal

abbrev pub invariant-loop-located : goal.invariant-loop-located
invariant-loop-located g l = record {
  same : IsSame l.fn.out l.out;
  runs : g.S.Sink.has_stopped l.out.sink.now ≡ false;
  sent : Sent (line_of sections.Frame) l.expressions (drop l.located-index l.expressions) (g.S.Sink.taken l.fn.out.sink.now)
      (g.S.Sink.taken l.out.sink.now);
}
