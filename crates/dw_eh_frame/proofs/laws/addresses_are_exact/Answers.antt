use Rattle.dw_eh_frame.proofs.ExactPointers.{pointer-own, range-own}
use Rattle.dw_eh_frame.proofs.laws.addresses_are_exact.Goals as goal

pub returns : goal.returns
returns c = record { initial = pointer-own; range = range-own }
