-- What a section says of its addresses, as linked, besides their rows.
use Rattle.std.specs.Prelude.{List, []}
use Rattle.dw_eh_rows.specs.declared.signals.SignalRange.{SignalRange}
use Rattle.dw_signed_rows.specs.declared.signed_range.SignedRange.{SignedRange}
use Rattle.dw_process.specs.declared.shared_marks.FrameMarks.{FrameMarks}

-- the addresses of the signal frames, and those at which return addresses are signed
pub record Marks : Type 0 where
  pub signals : List SignalRange
  pub signed : List SignedRange

-- those of a section that says nothing of either
abbrev pub no_marks : Marks
no_marks = record { signals = []; signed = [] }

abbrev pub marks_of : FrameMarks → Marks
marks_of m = record { signals = m.signals.items; signed = m.signed }
