use Rattle.std.proofs.Common.{ℕ, ◌<◌, ◌≤◌, ◌-◌, get_or, length, map}
use Rattle.dw_frame.specs.Views.{fde_of}
use Rattle.dw_frame.specs.Records.{Fde}
use Rattle.dw_rows.specs.AddressIndex.{fde_at, ClashWithin, ApartWithin}
use Rattle.dw_rows.proofs.index.first_overlap.Given as goal

abbrev pub invariant-loop-low : goal.invariant-loop-low
invariant-loop-low l = record {
  order : l.low ≤ l.high;
  within : l.high < length l.fdes;
  clash : (d : Fde) → ClashWithin (map (fde_at (map fde_of l.fdes)) l.index) (get_or (map fde_of l.fdes) l.high d).offset;
  apart : (k : ℕ) (d : Fde) → k < l.low → ApartWithin (map (fde_at (map fde_of l.fdes)) l.index) (get_or (map fde_of l.fdes) k d).offset;
}

abbrev pub decreases-loop-low : goal.decreases-loop-low
decreases-loop-low l = l.high - l.low
