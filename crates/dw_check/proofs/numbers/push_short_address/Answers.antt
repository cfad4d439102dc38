use Rattle.dw_check.proofs.HexBytes.{short_text}
use Rattle.dw_check.proofs.numbers.push_short_address.Goals as goal

pub push_digits-requires : goal.push_digits-requires
push_digits-requires c = rw c.short_digits.ensures (short_text c.args.address)
