use Rattle.std.proofs.Common.{◌≡◌, ℕ, rules}
use Rattle.dw_stack.specs.Located.{located_of}
use Rattle.dw_cached_rows.specs.PackedRows.{little_64}
use Rattle.dw_cached_rows.proofs.RealignedPacking.{address-read}
use Rattle.dw_cached_rows.proofs.realigned_row.words_of_address.Goals as goal

pub returns : goal.returns
returns c =
    let x = λ (at : ℕ). located_of (at, c.args.expression.now) in
    let target : (at : ℕ) → (x at).target ≡ little_64 = λ at. search rules in
    let same : (at : ℕ) → (x at).bytes ≡ c.bytes-bytes.result.now = λ at. search rules in
    address-read c.bytes-bytes.result.now x c.words_in.result c.if-bytes-ne2.false c.if-bytes-ne-BREG_RBP.false target same c.words_in.ensures
