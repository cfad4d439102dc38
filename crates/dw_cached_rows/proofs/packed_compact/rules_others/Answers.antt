use Rattle.std.proofs.Common.{arith}
use Rattle.dw_compact_rows.specs.CompactRules.{stored_in}
use Rattle.dw_cached_rows.proofs.CompactPacking.{others-free}
use Rattle.dw_cached_rows.proofs.packed_compact.rules_others.Goals as goal

pub returns : goal.returns
returns c =
    others-free (stored_in c.args.rules.now).rules c.slots-slots.result.now c.slots-slots.ensures.rules c.slots-slots.ensures.full
    (λ r within other. c.loop-register.invariant r (omega (arith, within, c.loop-register-test.false)) other)
