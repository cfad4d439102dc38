use Rattle.dw_bytes.proofs.Bodies.{framed-found, framed-only, framed-refused}
use Rattle.dw_bytes.proofs.laws.bodies_are_exact.Goals as goal

pub returns : goal.returns
returns c = record { found = framed-found; only = framed-only; refused = framed-refused }
