use Rattle.std.proofs.Common.{◌≡◌, Contains, map, refl}
use Rattle.dw_frame.specs.Records.{Fde}
use Rattle.dw_frame.specs.Views.{fde_of}
use Rattle.dw_in_place.specs.LookUps.{record_offset}
use Rattle.dw_in_place.specs.Views.{table_of}
use Rattle.dw_in_place.proofs.leads.names_only.Goals as goal
use borrow.Author.Count.{below_more}

pub loop-entry-preserved : goal.loop-entry-preserved
loop-entry-preserved c = below_more
    (λ k. (f : Fde) × Contains (map fde_of c.args.fdes.now) f × (record_offset (table_of c.args.table.now) c.args.start k ≡ f.offset))
    c.loop-entry.entry c.loop-entry.invariant (c.if-not-names_one.ensures.0 refl)
