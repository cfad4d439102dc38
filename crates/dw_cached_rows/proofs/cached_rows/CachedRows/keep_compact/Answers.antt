use Rattle.dw_compact_rows.specs.CompactRuns.{row_of_compact}
use Rattle.dw_cached_rows.proofs.Packing.{packed-compactly, still-of}
use Rattle.dw_cached_rows.proofs.cached_rows.CachedRows.keep_compact.Goals as goal

pub returns-clause-only : goal.returns-clause-only
returns-clause-only c =
    still-of c.args.slot c.args.address c.args.return_register (row_of_compact c.args.row.now) c.args.is_signal_frame
    c.packed_compact.result c.args.self.now.rows c.put.new.self.rows
    (packed-compactly c.packed_compact.result c.args.address c.args.return_register (row_of_compact c.args.row.now) c.args.is_signal_frame
    c.packed_compact.ensures) c.put.ensures.only
