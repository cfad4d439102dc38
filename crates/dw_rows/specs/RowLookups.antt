-- What a look-up of an address finds: the row of the address in a section, and its return address
-- register.
use Rattle.std.specs.Prelude.{◌≡◌, ℕ, All, Contains, IfSome, Option, Some, None}
use Rattle.dw_bytes.specs.declared.target.Target.{Target}
use Rattle.dw_frame.specs.Records.{Fde}
use Rattle.dw_stack.specs.Located.{LocatedExpression}
use Rattle.dw_rules.specs.Rules.{Row, Rule, Cfa, expression, val_expression, cfa_expression}
use Rattle.dw_rows.specs.Section.{FrameSection, Covers, IsReturnRegister, row_of}

-- What was found at an address is the section's row there, with the return address register that
-- the CIE of the covering FDE names. If nothing was found, no FDE covers the address.
abbrev pub IsFoundAt : FrameSection → ℕ → Option (Row × ℕ) → Type 0
IsFoundAt s address None = (f : Fde) → Contains s.fdes f → ¬ Covers f address
IsFoundAt s address (Some found) = (row_of s address ≡ Some found.0) × IsReturnRegister s address found.1

-- ---- the target that the expressions in a row were read with

abbrev pub IsUnder : Target → LocatedExpression → Type 0
IsUnder target e = e.target ≡ target

abbrev pub IsRuleUnder : Target → Rule → Type 0
IsRuleUnder target (expression e) = IsUnder target e
IsRuleUnder target (val_expression e) = IsUnder target e
IsRuleUnder target _ = Unit {0}

abbrev pub IsCfaUnder : Target → Cfa → Type 0
IsCfaUnder target (cfa_expression e) = IsUnder target e
IsCfaUnder target _ = Unit {0}

abbrev pub IsEntryUnder : Target → ℕ × Rule → Type 0
IsEntryUnder target entry = IsRuleUnder target entry.1

pub record IsRowUnder (target : Target) (row : Row) : Type 0 where
  pub cfa : IfSome row.cfa (IsCfaUnder target)
  pub rules : All (IsEntryUnder target) row.rules
