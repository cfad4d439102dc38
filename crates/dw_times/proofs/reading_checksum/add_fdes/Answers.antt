use Rattle.std.proofs.Common.{◌∙◌, ◌<◌, ap, length, map, subst, sym}
use Rattle.std.specs.List.{Contains}
use Rattle.std.proofs.lemmas.List.{get_or-map, length-map}
use Rattle.dw_frame.specs.Views.{fde_of}
use Rattle.dw_times.proofs.reading_checksum.add_fdes.Goals as goal

-- `rows_into` requires an FDE of the section, and the loop takes its FDEs from the section
pub rows_into-requires : goal.rows_into-requires
rows_into-requires c =
    let items = c.fdes-fde-items.result.now in
    let at = c.loop-fde.fde-index in
    let within : at < length (map fde_of items) = subst (λ n. at < n) (sym (length-map items fde_of)) c.loop-fde-test.true in
    subst (λ fdes. Contains fdes (fde_of c.fde-item.result)) c.fdes-fde-items.ensures.fdes
    (at, within, get_or-map fde_of items at c.fde-item.result _ c.loop-fde-test.true ∙ ap fde_of (sym c.fde-item.is))
