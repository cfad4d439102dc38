use Rattle.std.proofs.Common.{ap, refl}
use Rattle.dw_rules.specs.InForce.{implied_cfa}
use Rattle.dw_rows.proofs.laws.cie_programs_begin_with_no_rules.Goals as goal

pub returns : goal.returns
returns c = record {
  rules = λ cie register. refl;
  cfa = λ cie is. ap (λ d. implied_cfa d cie.program.rest) is;
}
