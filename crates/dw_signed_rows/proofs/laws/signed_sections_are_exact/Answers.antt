use Rattle.dw_signed_rows.proofs.ExactSections.{signed-where-covered, unsigned-elsewhere}
use Rattle.dw_signed_rows.proofs.laws.signed_sections_are_exact.Goals as goal

pub returns : goal.returns
returns c = record { covered = signed-where-covered; others = unsigned-elsewhere }
