use Rattle.dw_rules.proofs.Tables.{rule_list-table, rule_in-rule_list, IsTable-rule_list}
use Rattle.dw_rules.proofs.laws.rule_lists_are_rules.Goals as goal

pub returns : goal.returns
returns c = record { list = rule_list-table; rules = rule_in-rule_list; table = IsTable-rule_list }
