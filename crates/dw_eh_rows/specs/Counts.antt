-- What a checked section contains, in numbers.
use Rattle.std.specs.Prelude.{◌≡◌, length}
use Rattle.dw_rows.specs.Section.{FrameSection, row_count}
use Rattle.dw_eh_rows.specs.declared.counts.SectionCounts.{SectionCounts}

-- These are the numbers of the section's CIEs, FDEs, rows and expressions.
pub record AreCountsOf (s : FrameSection) (counts : SectionCounts) : Type 0 where
  pub cies : counts.cies ≡ length s.cies
  pub fdes : counts.fdes ≡ length s.fdes
  pub rows : counts.rows ≡ row_count s
  pub expressions : counts.expressions ≡ length s.expressions
