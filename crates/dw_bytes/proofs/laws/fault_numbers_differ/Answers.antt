use Rattle.dw_bytes.proofs.OneKind.{one_kind}
use Rattle.dw_bytes.proofs.laws.fault_numbers_differ.Goals as goal

pub returns : goal.returns
returns c = one_kind
