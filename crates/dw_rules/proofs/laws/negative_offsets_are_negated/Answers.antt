use Rattle.dw_rules.proofs.NegativeOffsets.{overflows-alike, saves-negated}
use Rattle.dw_rules.proofs.laws.negative_offsets_are_negated.Goals as goal

pub returns : goal.returns
returns c = record { overflow = overflows-alike; saved = saves-negated }
