use Rattle.std.proofs.Common.{◌⊎◌, ℕ, subst}
use Rattle.dw_compact_rows.specs.CompactRuns.{row_of_compact}
use Rattle.dw_eh_frame.specs.Views.{eh_fde_of}
use Rattle.dw_cached_rows.specs.CachedRows.{Holds}
use Rattle.dw_in_place.specs.declared.compact.CompactAnswer.{CompactAnswer}
use Rattle.dwcheck_c.specs.CachedFills.{IsOfFill}
use Rattle.dwcheck_c.specs.InPlaceLookUps.{IsLookedUpCompactly}
use Rattle.dwcheck_c.proofs.CachedFills.{of-fill}
use Rattle.dwcheck_c.proofs.cached_walks.dwcheck_rows_fill_compact.Goals as goal

pub returns-in-Ok-default-Row-clause-only : goal.returns-in-Ok-default-Row-clause-only
returns-in-Ok-default-Row-clause-only c = λ other at held is.
    let found = c.in-Ok-default-Row in
    let old = c.args.rows.now.rows in
    let m = c.args.module.now in
    let h = c.args.header.now in
    let has = subst (λ (answer : CompactAnswer). IsLookedUpCompactly m h c.args.address found.target answer) found.field-0-1-is
    found.ensures.found in
    subst (λ (slot : ℕ). Holds old other at held ⊎ IsOfFill m h slot c.args.address other at held) c.slot_of.ensures
    (of-fill old m h found.target (eh_fde_of found.fde) c.slot_of.result c.args.address (row_of_compact found.row) other at held has
    (c.keep_compact_row.ensures.only other at held is))
