use Rattle.std.proofs.Common.{Option, subst}
use Rattle.std.specs.Prelude.{IfSome}
use Rattle.dw_eh_frame.specs.declared.record.EhFde.{EhFde}
use Rattle.dw_eh_frame.specs.Views.{eh_fde_of}
use Rattle.dw_compact_rows.specs.CompactRules.{stored_in}
use Rattle.dw_compact_rows.specs.CompactRuns.{state_with}
use Rattle.dw_in_place.specs.Known.{IsRead}
use Rattle.dw_in_place.specs.Views.{section_of}
use Rattle.dw_in_place.proofs.InForce.{quick}
use Rattle.dw_in_place.proofs.compact.compact_row_in_place.Goals as goal

pub returns-in-Some-compact_row_of_fde : goal.returns-in-Some-compact_row_of_fde
returns-in-Some-compact_row_of_fde c =
    let s = section_of c.args.section.now in
    let row = c.in-Some-compact_row_of_fde.row in
    let is = c.in-Some-compact_row_of_fde.ensures in
    let read = subst (λ (o : Option EhFde). IfSome o (λ fde. IsRead s c.args.at (eh_fde_of fde))) c.in-Some.is c.in-Ok.ensures.read in
    let q = quick s c.args.at (eh_fde_of c.in-Some.fde) c.args.address (row.start, row.end) (state_with is.initial (stored_in row.rules))
    read is.cie is.plain is.sought in
    (q.found, record { covers = q.row.covers; checked = q.row.checked; has = q.row.row })
