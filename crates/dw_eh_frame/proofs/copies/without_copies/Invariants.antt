use Rattle.std.proofs.Common.{◌≡◌, ◌≤◌, ◌++◌, [], drop, length, map}
use Rattle.dw_frame.specs.Views.{fde_of}
use Rattle.dw_eh_frame.specs.Copies.{without_copies}
use Rattle.dw_eh_frame.specs.CopySearch.{AreFirsts}
use Rattle.dw_eh_frame.proofs.copies.without_copies.Given as goal

abbrev pub invariant-loop-fde : goal.invariant-loop-fde
invariant-loop-fde l = record {
  firsts : AreFirsts l.firsts (map fde_of l.kept.items);
  few : length l.kept.items ≤ l.fde-index;
  kept : without_copies [] (map fde_of l.fdes) ≡ map fde_of l.kept.items ++ without_copies (map fde_of l.kept.items) (map fde_of (drop l.fde-index l.fdes));
}
