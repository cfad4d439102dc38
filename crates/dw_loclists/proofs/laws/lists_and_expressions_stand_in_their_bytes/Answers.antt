use Rattle.dw_loclists.proofs.EachEntry.{entry-within}
use Rattle.dw_loclists.proofs.Located.{among-tables}
use Rattle.dw_loclists.proofs.laws.lists_and_expressions_stand_in_their_bytes.Goals as goal

pub returns : goal.returns
returns c = record { expressions = entry-within; lists = among-tables }
