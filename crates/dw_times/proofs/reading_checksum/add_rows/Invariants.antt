use Rattle.std.proofs.Common.{length}
use Rattle.dw_times.proofs.reading_checksum.add_rows.Given as goal

abbrev pub decreases-rows : goal.decreases-rows
decreases-rows l = length l.rows
