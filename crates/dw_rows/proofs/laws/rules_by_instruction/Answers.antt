use Rattle.std.proofs.Common.{length}
use Rattle.dw_rows.specs.GoodPrograms.{rule_after, cfa_after}
use Rattle.dw_rows.proofs.programs.InForce.{are_rules, agree}
use Rattle.dw_rows.proofs.laws.rules_by_instruction.Goals as goal

pub returns : goal.returns
returns c = record {
  meet = are_rules;
  only = λ s p rule cfa a m k le. agree s p rule (rule_after s p) cfa (cfa_after s p) a (are_rules s p) m (length p) k le le;
}
