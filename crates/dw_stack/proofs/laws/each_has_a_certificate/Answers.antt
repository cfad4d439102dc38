use Rattle.dw_stack.proofs.Existing.{each_has_a_certificate}
use Rattle.dw_stack.proofs.laws.each_has_a_certificate.Goals as goal

pub returns : goal.returns
returns c = each_has_a_certificate
