use Rattle.dw_signed_rows.proofs.NegatedPrograms.{negated-cie}
use Rattle.dw_signed_rows.proofs.laws.signatures_of_cies.Goals as goal

pub returns : goal.returns
returns c = negated-cie
