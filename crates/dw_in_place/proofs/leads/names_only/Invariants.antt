use Rattle.std.proofs.Common.{◌≡◌, ℕ, ◌<◌, Contains, map}
use Rattle.dw_frame.specs.Records.{Fde}
use Rattle.dw_frame.specs.Views.{fde_of}
use Rattle.dw_in_place.specs.LookUps.{record_offset}
use Rattle.dw_in_place.specs.Views.{table_of}
use Rattle.dw_in_place.proofs.leads.names_only.Given as goal

abbrev pub invariant-loop-entry : goal.invariant-loop-entry
invariant-loop-entry l =
    (k : ℕ) → k < l.entry → (f : Fde) × Contains (map fde_of l.fdes) f × (record_offset (table_of l.table) l.start k ≡ f.offset)
