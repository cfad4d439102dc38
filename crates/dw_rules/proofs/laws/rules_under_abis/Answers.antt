use Rattle.dw_rules.specs.Abi.{rule_under}
use Rattle.dw_rules.proofs.Tables.{rule_list-each, rule_in-rule_list, IsTable-rule_list}
use Rattle.dw_rules.proofs.Under.{either-alone}
use Rattle.dw_rules.proofs.laws.rules_under_abis.Goals as goal

pub returns : goal.returns
returns c = record {
  each = λ abi rules. rule_list-each (rule_under abi rules);
  all = λ abi rules r h. rule_in-rule_list (rule_under abi rules) r h;
  table = λ abi rules. IsTable-rule_list (rule_under abi rules);
  none = either-alone;
}
