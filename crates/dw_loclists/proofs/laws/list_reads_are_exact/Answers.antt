use Rattle.std.proofs.Common.{refl}
use Rattle.dw_loclists.proofs.EachEntry.{entry-exact}
use Rattle.dw_loclists.proofs.EachTable.{table-found, table-only}
use Rattle.dw_loclists.proofs.Standing.{list-exact}
use Rattle.dw_loclists.proofs.laws.list_reads_are_exact.Goals as goal

pub returns : goal.returns
returns c = record {
  entries = λ r. entry-exact r.target r refl;
  lists = list-exact;
  tables =
      λ r. record { found = table-found r; only = table-only r };
}
