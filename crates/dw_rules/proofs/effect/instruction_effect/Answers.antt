-- Converting a factored offset, the product of an operand and the data alignment factor, to the
-- code's 128-bit integer and back gives the same number, since the product fits.
use Rattle.std.proofs.Common.{rules, ◌≡◌, ◌∙◌, ap, to_z, of_z}
use Rattle.std.specs.Int.{w128}
use Rattle.dw_rules.specs.Effects.{sets}
use Rattle.dw_rules.specs.Rules.{offset, val_offset}
use Rattle.dw_rules.proofs.effect.instruction_effect.Goals as goal

pub returns-in-Offset : goal.returns-in-Offset
returns-in-Offset c =
    let back : to_z w128 (of_z w128 c.data_aligned_offset.result) ≡ c.data_aligned_offset.result = search rules in
    rw c.in-Offset.is
    (ap (λ n. sets c.in-Offset.register (offset n)) (back ∙ c.data_aligned_offset.ensures))

pub returns-in-OffsetExtended : goal.returns-in-OffsetExtended
returns-in-OffsetExtended c =
    let back : to_z w128 (of_z w128 c.data_aligned_offset-in-OffsetExtended.result) ≡ c.data_aligned_offset-in-OffsetExtended.result
    = search rules in
    rw c.in-OffsetExtended.is
    (ap (λ n. sets c.in-OffsetExtended.register (offset n)) (back ∙ c.data_aligned_offset-in-OffsetExtended.ensures))

pub returns-in-ValOffset : goal.returns-in-ValOffset
returns-in-ValOffset c =
    let back : to_z w128 (of_z w128 c.data_aligned_offset-in-ValOffset.result) ≡ c.data_aligned_offset-in-ValOffset.result = search rules in
    rw c.in-ValOffset.is
    (ap (λ n. sets c.in-ValOffset.register (val_offset n)) (back ∙ c.data_aligned_offset-in-ValOffset.ensures))
