use Rattle.std.proofs.Common.{◌≡◌}
use Rattle.dw_frame.specs.Sections.{records_of, cie_among}
use Rattle.dw_frame.proofs.sections.cie_at.Given as goal

abbrev pub invariant-loop-entry : goal.invariant-loop-entry
invariant-loop-entry l = cie_among l.offset l.entry-iterator ≡ cie_among l.offset (records_of l.fn.target l.section)
