use Rattle.std.proofs.Common.{◌+◌, ◌-◌, ◌≤◌, List, ◌∷◌, length}
use Rattle.dw_frame.specs.Views.{cie_of, fde_of}
use Rattle.dw_rules.specs.RuleSet.{StoredRules}
use Rattle.dw_rows.specs.RowCursors.{cursor_at, Seeks, above}
use Rattle.dw_rows.proofs.lookup.+seek_in_bracket.Given as goal

abbrev pub decreases-seek_in_bracket : goal.decreases-seek_in_bracket
decreases-seek_in_bracket l = length l.instructions.now

abbrev pub invariant-loop-start : goal.invariant-loop-start
invariant-loop-start l = record {
  seeks : (ks : List StoredRules) → Seeks (cie_of l.cie) (fde_of l.fde) l.address
      (above (l.initial.state.current ∷ ks)
      (cursor_at (cie_of l.cie) l.limit l.initial.state l.initial.instructions))
      → Seeks (cie_of l.cie) (fde_of l.fde) l.address
      (above (l.rules ∷ ks) (cursor_at (cie_of l.cie) l.limit l.state l.instructions));
  location : l.initial.state.location ≤ l.state.location;
  shorter : length l.instructions ≤ length l.initial.instructions;
}

abbrev pub decreases-loop-start : goal.decreases-loop-start
decreases-loop-start l = l.limit - l.state.location + length l.instructions
