use Rattle.std.proofs.Common.{◌≡◌, ℕ, List, false}
use Rattle.dw_check.specs.Report.{AreLines}
use Rattle.dw_check.specs.WriteResults.{IsSame}
use Rattle.dw_sections.specs.declared.section.Section.TheVariants as sections
use Rattle.dw_check.proofs.Lined.{Lined}
use Rattle.dw_check.proofs.reports.write_list_expressions.Given as goal

abbrev pub invariant-loop-offset : goal.invariant-loop-offset
invariant-loop-offset g l = record {
  same : IsSame l.fn.out l.out;
  runs : g.S.Sink.has_stopped l.out.sink.now ≡ false;
  lined : (text : List ℕ) → AreLines sections.Lists l.fn.expressions text
      → Lined sections.Lists text l.offset-iterator (g.S.Sink.taken l.fn.out.sink.now) (g.S.Sink.taken l.out.sink.now);
}
