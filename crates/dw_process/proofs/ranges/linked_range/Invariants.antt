use Rattle.std.specs.Prelude.{take, MatchOption}
use Rattle.dw_process.specs.Ranges.{CoversNone, IsSpanOf}
use Rattle.dw_process.proofs.ranges.linked_range.Given as goal

abbrev pub invariant-loop-fde : goal.invariant-loop-fde
invariant-loop-fde l = MatchOption l.range (CoversNone (take l.fde-index l.frame.fdes)) (IsSpanOf (take l.fde-index l.frame.fdes))
