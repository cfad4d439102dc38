use Rattle.std.proofs.Common.{◌≡◌, ◌<◌, ℕ, false}
use Rattle.dw_rules.specs.Rules.{default}
use Rattle.dw_compact_rows.specs.Slots.{rule_in_slots}
use Rattle.dw_cached_rows.specs.PackedRows.{is_packed}
use Rattle.dw_cached_rows.proofs.packed_compact.rules_others.Given as goal

abbrev pub invariant-loop-register : goal.invariant-loop-register
invariant-loop-register l = (r : ℕ) → r < l.register → is_packed r ≡ false → rule_in_slots l.slots r ≡ default
