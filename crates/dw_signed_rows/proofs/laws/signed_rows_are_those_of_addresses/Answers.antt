use Rattle.dw_signed_rows.proofs.SignedAddresses.{signed-by-last, unsigned-outside}
use Rattle.dw_signed_rows.proofs.laws.signed_rows_are_those_of_addresses.Goals as goal

pub returns : goal.returns
returns c = record { covered = signed-by-last; others = unsigned-outside }
