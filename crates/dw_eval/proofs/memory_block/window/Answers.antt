use Rattle.std.proofs.Common.{◌≡◌, ℕ, ◌+◌, ◌-◌, ◌∙◌, take, drop, Some, sym, ap, arith}
use Rattle.dw_eval.specs.World.{bytes_from}
use Rattle.dw_eval.specs.MemoryBlocks.{block_byte}
use Rattle.dw_eval.proofs.Windows.{window_in, window_past, window_below}
use Rattle.dw_eval.proofs.memory_block.window.Goals as goal

pub returns-then-address-base-clause-bytes : goal.returns-then-address-base-clause-bytes
returns-then-address-base-clause-bytes c =
    sym (window_below c.args.base c.args.bytes.now c.args.size c.args.address c.requires c.if-address-base.true)

pub returns-then-offset-bytes-clause-bytes : goal.returns-then-offset-bytes-clause-bytes
returns-then-offset-bytes-clause-bytes c =
    let place : c.args.address ≡ c.args.base + (c.args.address - c.args.base) = omega arith in
    sym (ap (λ (a : ℕ). bytes_from (block_byte c.args.base c.args.bytes.now) a c.args.size) place
    ∙ window_past c.args.base c.args.bytes.now c.args.size (c.args.address - c.args.base) c.requires (omega arith))

pub returns-then-bytes-at-clause-bytes : goal.returns-then-bytes-at-clause-bytes
returns-then-bytes-at-clause-bytes c =
    let place : c.args.address ≡ c.args.base + (c.args.address - c.args.base) = omega arith in
    sym (ap (λ (a : ℕ). bytes_from (block_byte c.args.base c.args.bytes.now) a c.args.size) place
    ∙ window_past c.args.base c.args.bytes.now c.args.size (c.args.address - c.args.base) c.requires (omega arith))

pub returns-clause-bytes : goal.returns-clause-bytes
returns-clause-bytes c =
    let i = c.args.address - c.args.base in
    let place : c.args.address ≡ c.args.base + i = omega arith in
    let size : i + c.args.size - i ≡ c.args.size = omega arith in
    ap (λ (n : ℕ). Some (take n (drop i c.args.bytes.now))) size
    ∙ sym (ap (λ (a : ℕ). bytes_from (block_byte c.args.base c.args.bytes.now) a c.args.size) place
    ∙ window_in c.args.base c.args.bytes.now c.args.size i (omega arith))
