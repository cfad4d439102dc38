-- One row that has been looked up, with its target and its return address register.
use Rattle.std.specs.Prelude.{ℕ}
use Rattle.dw_bytes.specs.declared.target.Target.{Target}
use Rattle.dw_rules.specs.Rules.{Row}

pub record LookedUpRow : Type 0 where
  pub target : Target
  pub row : Row
  pub return_register : ℕ
