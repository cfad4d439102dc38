use Rattle.std.proofs.Common.{◌≡◌, rules}
use Rattle.dw_eh_frame.specs.Views.{eh_fde_of}
use Rattle.dw_cached_rows.specs.PackedRows.{little_64}
use Rattle.dwcheck_c.proofs.CachedFills.{usable-kept}
use Rattle.dwcheck_c.proofs.cached_walks.keep_row.Goals as goal

pub returns-then-keep-clause-only : goal.returns-then-keep-clause-only
returns-then-keep-clause-only c = λ other at held is.
    let found = c.args.found.now in
    let same : found.target ≡ little_64 = search rules in
    usable-kept c.args.rows.now.rows found.target (eh_fde_of found.fde) c.args.slot c.args.address found.row other at held same
    (c.keep.ensures.only other at held is)

pub returns-else-keep-clause-only : goal.returns-else-keep-clause-only
returns-else-keep-clause-only c = λ other at held is.
    let found = c.args.found.now in
    let same : found.target ≡ little_64 = search rules in
    usable-kept c.args.rows.now.rows found.target (eh_fde_of found.fde) c.args.slot c.args.address found.row other at held same
    (c.keep.ensures.only other at held is)

pub returns-then-keep-clause-held : goal.returns-then-keep-clause-held
returns-then-keep-clause-held c = λ done.
    let found = c.args.found.now in
    let same : found.target ≡ little_64 = search rules in (
      c.keep.ensures.held c.if-keep.true,
      record { target_is = same; column = c.keep.ensures.column c.if-keep.true; called = c.keep.ensures.called c.if-keep.true },
    )
