use Rattle.std.proofs.Common.{◌≡◌, ◌%◌, ◌^◌, refl}
use Rattle.dw_bytes.specs.Text.{hex_digits}
use Rattle.dw_bytes.proofs.Padded.{hex_last}
use Rattle.dw_check.proofs.numbers.push_address.Goals as goal

pub returns-in-Four : goal.returns-in-Four
returns-in-Four c =
    let a = c.args.address in
    let last : hex_digits 8 (a % 2 ^ 32) ≡ hex_digits 8 a = hex_last 8 a (a % 2 ^ 32) refl in
    rw c.in-Four.is (rw last at c.push_short_address.ensures)
