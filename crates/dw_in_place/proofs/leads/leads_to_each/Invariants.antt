use Rattle.std.proofs.Common.{◌≡◌, ℕ, ◌<◌, get_or}
use Rattle.dw_frame.specs.Views.{fde_of}
use Rattle.dw_frame.specs.declared.entry.FrameDescriptionEntry.{FrameDescriptionEntry}
use Rattle.dw_in_place.specs.LookUps.{LeadsTo}
use Rattle.dw_in_place.specs.Views.{table_of}
use Rattle.dw_in_place.proofs.leads.leads_to_each.Given as goal

abbrev pub invariant-loop-fde : goal.invariant-loop-fde
invariant-loop-fde l = (k : ℕ) (x : FrameDescriptionEntry) → k < l.fde-index → get_or l.fdes k x ≡ x → 0 < x.address_range
    → LeadsTo (table_of l.table) l.start (fde_of x)
