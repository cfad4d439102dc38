use Rattle.dw_cached_rows.proofs.Packing.{still-of}
use Rattle.dw_cached_rows.proofs.cached_rows.CachedRows.keep.Goals as goal

pub returns-clause-only : goal.returns-clause-only
returns-clause-only c =
    still-of c.args.slot c.args.address c.args.return_register c.args.row.now c.args.is_signal_frame c.packed.result c.args.self.now.rows
    c.put.new.self.rows c.packed.ensures c.put.ensures.only
