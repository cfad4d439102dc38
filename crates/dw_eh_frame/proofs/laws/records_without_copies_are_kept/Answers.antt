use Rattle.dw_eh_frame.proofs.Distinct.{distinct-all}
use Rattle.dw_eh_frame.proofs.laws.records_without_copies_are_kept.Goals as goal

pub returns : goal.returns
returns c = distinct-all
