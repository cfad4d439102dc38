use Rattle.std.proofs.Common.{◌≤◌, ℕ, subst}
use Rattle.std.specs.Prelude.{IsSome, Option}
use Rattle.dwcheck_c.proofs.cursor.dwcheck_cursor_init.Goals as goal

pub returns-then-not-has_places-clause-lacks : goal.returns-then-not-has_places-clause-lacks
returns-then-not-has_places-clause-lacks c = λ _.
    subst (λ (f : ℕ → Option ℕ). (r : ℕ) × (96 ≤ r) × IsSome (f r)) c.registers-registers.ensures c.if-not-has_places.ensures.lacks
