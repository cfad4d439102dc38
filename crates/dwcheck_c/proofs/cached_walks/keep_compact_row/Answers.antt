use Rattle.std.proofs.Common.{◌≡◌, rules}
use Rattle.dw_compact_rows.specs.CompactRuns.{row_of_compact}
use Rattle.dw_eh_frame.specs.Views.{eh_fde_of}
use Rattle.dw_cached_rows.specs.PackedRows.{little_64}
use Rattle.dwcheck_c.proofs.CachedFills.{usable-kept}
use Rattle.dwcheck_c.proofs.cached_walks.keep_compact_row.Goals as goal

pub returns-then-keep_compact-clause-only : goal.returns-then-keep_compact-clause-only
returns-then-keep_compact-clause-only c = λ other at held is.
    let same : c.args.target ≡ little_64 = search rules in
    usable-kept c.args.rows.now.rows c.args.target (eh_fde_of c.args.fde.now) c.args.slot c.args.address (row_of_compact c.args.row.now) other
    at held same (c.keep_compact.ensures.only other at held is)

pub returns-else-keep_compact-clause-only : goal.returns-else-keep_compact-clause-only
returns-else-keep_compact-clause-only c = λ other at held is.
    let same : c.args.target ≡ little_64 = search rules in
    usable-kept c.args.rows.now.rows c.args.target (eh_fde_of c.args.fde.now) c.args.slot c.args.address (row_of_compact c.args.row.now) other
    at held same (c.keep_compact.ensures.only other at held is)

pub returns-then-keep_compact-clause-held : goal.returns-then-keep_compact-clause-held
returns-then-keep_compact-clause-held c = λ done.
    let same : c.args.target ≡ little_64 = search rules in (
      c.keep_compact.ensures.held c.if-keep_compact.true,
      record {
        target_is = same;
        column = c.keep_compact.ensures.column c.if-keep_compact.true;
        called = c.keep_compact.ensures.called c.if-keep_compact.true;
      },
    )
