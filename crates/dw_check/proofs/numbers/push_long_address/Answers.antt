use Rattle.dw_check.proofs.HexBytes.{long_text}
use Rattle.dw_check.proofs.numbers.push_long_address.Goals as goal

pub push_digits-requires : goal.push_digits-requires
push_digits-requires c = rw c.long_digits.ensures (long_text c.args.address)
