use Rattle.dw_bytes.proofs.Padded.{hex_padded, hex_last}
use Rattle.dw_bytes.proofs.laws.hex_holes_are_padded.Goals as goal

pub returns : goal.returns
returns c = record { padded = hex_padded; last = hex_last }
