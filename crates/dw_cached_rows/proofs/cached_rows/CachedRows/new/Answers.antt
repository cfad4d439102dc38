use Rattle.dw_cached_rows.proofs.Entries.{none-held}
use Rattle.dw_cached_rows.proofs.cached_rows.CachedRows.new.Goals as goal

pub returns : goal.returns
returns c = λ slot address row held. none-held 1024 c.none.result slot address row c.none.ensures held
