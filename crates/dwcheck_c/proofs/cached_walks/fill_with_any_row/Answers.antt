use Rattle.std.proofs.Common.{◌⊎◌, ℕ, subst}
use Rattle.std.specs.Prelude.{IfSome, Option}
use Rattle.dw_eh_frame.specs.Views.{eh_fde_of}
use Rattle.dw_cached_rows.specs.CachedRows.{Holds}
use Rattle.dwcheck_c.specs.CachedFills.{IsOfFill}
use Rattle.dwcheck_c.specs.InPlaceLookUps.{HasRow}
use Rattle.dwcheck_c.specs.declared.in_place.FoundInPlace.{FoundInPlace}
use Rattle.dwcheck_c.proofs.CachedFills.{of-fill}
use Rattle.dwcheck_c.proofs.cached_walks.fill_with_any_row.Goals as goal

pub returns-in-Ok-Some-clause-only : goal.returns-in-Ok-Some-clause-only
returns-in-Ok-Some-clause-only c = λ other at held is.
    let found = c.in-Ok-Some.found in
    let old = c.args.rows.now.rows in
    let m = c.args.module.now in
    let h = c.args.header.now in
    let has = subst (λ (o : Option FoundInPlace). IfSome o (λ f. HasRow m h c.args.address f.target (eh_fde_of f.fde) f.row))
    c.in-Ok-Some.field-0-is c.in-Ok-Some.ensures.row in
    subst (λ (slot : ℕ). Holds old other at held ⊎ IsOfFill m h slot c.args.address other at held) c.slot_of.ensures
    (of-fill old m h found.target (eh_fde_of found.fde) c.slot_of.result c.args.address found.row other at held has
    (c.keep_row.ensures.only other at held is))
