use Rattle.std.proofs.Common.{◌≡◌, ◌∙◌, ◌+◌, ◌-◌, ◌%◌, ◌^◌, ◌≤◌, ap, arith, drop, length, take, ℕ}
use Rattle.dw_bytes.specs.Encoding.{number}
use Rattle.dw_bytes.specs.declared.target.Order.TheVariants.{Little}
use Rattle.dw_c_types.proofs.FirstBlock.{word_in}
use Rattle.dw_c_types.proofs.memory.Blocks.read_word.Goals as goal

pub returns : goal.returns
returns c =
    let first = c.self.inside.first in
    let words = c.self.invariant.1 in
    let i = (c.args.address + (2 ^ 64 - first.base)) % 2 ^ 64 in
    let place : c.args.address ≡ first.base + i = omega (arith, words.below, c.if-offset-self.false, c.ranges.address.fits) in
    let inside : i + 8 ≤ length first.bytes.now = omega (arith, words.inside (omega (arith, c.if-offset-self.false)), c.if-offset-self.false) in
    let size : i + 8 - i ≡ 8 = omega arith in
    rw (← c.self.view_is) (word_in first c.self.inside.blocks.now c.args.address i c.read_u64.result c.self.invariant.0 place inside
    (c.read_u64.ensures ∙ ap (λ (n : ℕ). number Little 8 (take n (drop i first.bytes.now))) size))
