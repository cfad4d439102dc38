-- The bytes of a rule's expression.
use Rattle.std.specs.Prelude.{ℕ, ◌==◌, if◌then◌else◌, nat_le, List, Option, Some, None}
use Rattle.std.specs.Option.{option_and_then}
use Rattle.dw_rules.specs.Rules.{Rule, Cfa, Row, cfa_expression, expression, rule_in, val_expression}
use Rattle.dw_process.specs.Processes.{ProcessState}
use Rattle.dw_c_types.specs.Rows.{found_in}

-- the bytes of the expression that a register's rule has
abbrev pub rule_bytes : Rule → Option (List ℕ)
rule_bytes (expression e) = Some e.bytes
rule_bytes (val_expression e) = Some e.bytes
rule_bytes _ = None

-- the bytes of the expression that the CFA's rule has
abbrev pub cfa_bytes : Option Cfa → Option (List ℕ)
cfa_bytes (Some (cfa_expression e)) = Some e.bytes
cfa_bytes _ = None

-- C's number n stands for the rule of register n, which is below 65536, or for the CFA's rule if it
-- is 65536.
abbrev pub bytes_in_row : Row → ℕ → Option (List ℕ)
bytes_in_row row n =
    if n == 65536 then cfa_bytes row.cfa else if nat_le n 65535 then rule_bytes (rule_in row.rules n) else None

-- the bytes of that expression in the row of an address as loaded
abbrev pub bytes_at : Option ProcessState → ℕ → ℕ → Option (List ℕ)
bytes_at held address n = option_and_then (λ found. bytes_in_row found.row n) (found_in held address)
