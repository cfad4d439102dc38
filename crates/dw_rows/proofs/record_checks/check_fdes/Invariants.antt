use Rattle.std.proofs.Common.{◌≡◌, ◌≤◌, ◌+◌, ◌*◌, ◌^◌, ◌++◌, length, map, drop, IfSome}
use Rattle.std.specs.List.{flat_map}
use Rattle.dw_frame.specs.Views.{cie_of, fde_of}
use Rattle.dw_rules.specs.Expressions.{fde_expressions}
use Rattle.dw_rows.specs.AddressIndex.{IsLeftAt}
use Rattle.dw_rows.specs.Section.{first_fault, program_fault, placed_rows}
use Rattle.dw_rows.proofs.record_checks.check_fdes.Given as goal

abbrev pub invariant-loop-place : goal.invariant-loop-place
invariant-loop-place l = record {
  fault : first_fault (program_fault (map cie_of l.cies)) (map fde_of l.fdes) ≡ first_fault (program_fault (map cie_of l.cies))
      (map fde_of (drop l.place l.fdes));
  last : IfSome l.last (λ place. IsLeftAt (map cie_of l.cies) place l.context.initial_rules);
  kept : l.fn.checked ++ fde_expressions (map fde_of l.fdes) ≡ l.checked ++ fde_expressions (map fde_of (drop l.place l.fdes));
  counted : l.rows + length (flat_map (placed_rows (map cie_of l.cies)) (map fde_of (drop l.place l.fdes)))
      ≡ length (flat_map (placed_rows (map cie_of l.cies)) (map fde_of l.fdes));
  small : l.rows ≤ l.place * 2 ^ 64;
}
