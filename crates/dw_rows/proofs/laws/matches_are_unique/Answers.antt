use Rattle.dw_rows.proofs.programs.OneMatch.{one-restore, one-remember}
use Rattle.dw_rows.proofs.laws.matches_are_unique.Goals as goal

pub returns : goal.returns
returns c = record { restore = one-restore; remember = one-remember }
