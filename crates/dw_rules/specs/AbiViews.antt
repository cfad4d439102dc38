-- The ABI (`Abi`, Abi.antt) that a value of the code's type `Abi` stands for. The code stores a
-- rule for each register that the ABI names. Here the register's role is derived from that rule.
use Rattle.std.specs.Prelude.{◌≡◌, ℕ, List}
use Rattle.dw_rules.specs.Abi.{Abi, Role, unnamed, kept, stack_pointer, rule_of_role}
use Rattle.dw_rules.specs.Rules.{PlacedRule, default, val_offset, rule_in}

abbrev pub role_of_rule : PlacedRule → Role
role_of_rule default = unnamed
role_of_rule (val_offset n) = stack_pointer
role_of_rule rule = kept

abbrev pub roles_of : List (ℕ × PlacedRule) → Abi
roles_of rules r = role_of_rule (rule_in rules r)

-- the rule of each register (default if the table has none) is the rule that `rule_of_role` gives
-- for the register's role
abbrev pub AreRoles : List (ℕ × PlacedRule) → Type 0
AreRoles rules = (r : ℕ) → rule_in rules r ≡ rule_of_role (roles_of rules r)
