use Rattle.std.proofs.Common.{◌≡◌, map, drop}
use Rattle.dw_frame.specs.Views.{cie_of, fde_of}
use Rattle.dw_rows.specs.Section.{first_fault, pointer_fault}
use Rattle.dw_rows.proofs.record_checks.check_pointers.Given as goal

abbrev pub invariant-loop-fde : goal.invariant-loop-fde
invariant-loop-fde l = first_fault (pointer_fault (map cie_of l.cies)) (map fde_of l.fdes) ≡ first_fault (pointer_fault (map cie_of l.cies))
    (map fde_of (drop l.fde-index l.fdes))
