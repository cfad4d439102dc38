use Rattle.std.proofs.Common.{arith, append_assoc, ◌<◌, ◌^◌}
use Rattle.dw_bytes.specs.Text.{fault_text, kind_text}
use Rattle.dw_bytes.proofs.Padded.{hex_padded}
use Rattle.dw_bytes.proofs.names.FaultDisplay.fmt.Goals as goal

pub returns-clause-writes : goal.returns-clause-writes
unfolding fault_text kind_text
returns-clause-writes g c =
    let bound : c.args.self.now.at < 16 ^ 8 = omega arith in
    let digits = hex_padded 7 c.args.self.now.at (omega arith) bound in
    let written = rw (c.laid_out.ensures, c.in_radix.ensures, digits, c.number.ensures, c.name.ensures) at c.write.ensures.writes in
    λ plain ok. simp append_assoc (written plain ok)
