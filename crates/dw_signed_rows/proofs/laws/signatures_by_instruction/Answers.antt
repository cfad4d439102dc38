use Rattle.dw_signed_rows.proofs.SignaturesByInstruction.{are-signatures, only-signatures}
use Rattle.dw_signed_rows.proofs.laws.signatures_by_instruction.Goals as goal

pub returns : goal.returns
returns c = record { meet = are-signatures; only = only-signatures }
