use Rattle.std.proofs.Common.{◌%◌, ◌⊎◌, arith, subst}
use Rattle.dw_cached_rows.specs.CachedRows.{Holds}
use Rattle.dw_cached_rows.specs.declared.cached_rows.CachedRows.{CachedRows}
use Rattle.dw_cached_rows.specs.declared.packed_row.TheConstants.{SLOTS}
use Rattle.dwcheck_c.specs.CachedFills.{IsOfFill}
use Rattle.dwcheck_c.proofs.cached_walks.dwcheck_rows_fill.Goals as goal

pub returns-then-status-eq-NO_ROOM-clause-dropped : goal.returns-then-status-eq-NO_ROOM-clause-dropped
returns-then-status-eq-NO_ROOM-clause-dropped c = λ dropped other at held is.
    let compact = c.dwcheck_rows_fill_compact-status in
    let same = compact.ensures.same (λ done. omega (arith, done, c.if-status-eq-NO_ROOM.true))
    (λ placed. omega (arith, placed, c.if-status-eq-NO_ROOM.true)) in
    subst (λ (cached : CachedRows). Holds cached.rows other at held) same (c.fill_with_any_row.ensures.dropped dropped other at held is)

pub returns-then-status-eq-NO_ROOM-clause-only : goal.returns-then-status-eq-NO_ROOM-clause-only
returns-then-status-eq-NO_ROOM-clause-only c = λ other at held is.
    let compact = c.dwcheck_rows_fill_compact-status in
    let same = compact.ensures.same (λ done. omega (arith, done, c.if-status-eq-NO_ROOM.true))
    (λ placed. omega (arith, placed, c.if-status-eq-NO_ROOM.true)) in
    subst (λ (cached : CachedRows). Holds cached.rows other at held
    ⊎ IsOfFill c.args.module.now c.args.header.now (c.args.slot % SLOTS) c.args.address other at held) same
    (c.fill_with_any_row.ensures.only other at held is)
