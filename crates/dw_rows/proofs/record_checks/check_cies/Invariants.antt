use Rattle.std.proofs.Common.{◌≡◌, ◌++◌, map, take, drop}
use Rattle.dw_frame.specs.Views.{cie_of}
use Rattle.dw_rules.specs.Expressions.{cie_expressions}
use Rattle.dw_rules.specs.ProgramFault.{cie_fault}
use Rattle.dw_rows.specs.Section.{first_fault}
use Rattle.dw_rules.specs.Initial.{AreLeftBy}
use Rattle.dw_rows.proofs.record_checks.check_cies.Given as goal

abbrev pub invariant-loop-cie : goal.invariant-loop-cie
invariant-loop-cie l = record {
  fault : first_fault cie_fault (map cie_of l.cies) ≡ first_fault cie_fault (map cie_of (drop l.cie-index l.cies));
  left : AreLeftBy (map cie_of (take l.cie-index l.cies)) l.left;
  kept : l.fn.checked ++ cie_expressions (map cie_of l.cies) ≡ l.checked ++ cie_expressions (map cie_of (drop l.cie-index l.cies));
}
