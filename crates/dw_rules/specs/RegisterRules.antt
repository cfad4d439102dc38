-- The index of a register's rule in a list of rules in order of register.
use Rattle.std.specs.Prelude.{ℕ, ◌+◌, nat_lt, if◌then◌else◌, List, [], ◌∷◌}
use Rattle.dw_rules.specs.Rules.{PlacedRule}

-- how many entries at the front of the table have a register below r
abbrev pub rule_index : ℕ → List (ℕ × PlacedRule) → ℕ
rule_index r [] = 0
rule_index r (entry ∷ entries) = if nat_lt entry.0 r then rule_index r entries + 1 else 0
