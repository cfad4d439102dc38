use Rattle.std.proofs.Common.{◌≡◌, Ok, arith}
use Rattle.std.proofs.lemmas.Grind.{common_steps}
use Rattle.dw_bytes.specs.Reading.{fixed_at}
use Rattle.dw_bytes.specs.Operands.{block_of}
use Rattle.dw_loclists.proofs.Passing.{pair-passes}
use Rattle.dw_loclists.proofs.list.check_pair.Goals as goal

pub returns-else-not-keep_location-clause-exact : goal.returns-else-not-keep_location-clause-exact
returns-else-not-keep_location-clause-exact c = λ d.
    let code : fixed_at 1 c.args.cursor.now ≡ Ok (4, c.u8.new.self) = grind (arith, common_steps, c.in-Ok-eq4.ensures.exact) in
    pair-passes d c.args.cursor.now c.u8.new.self c.short_uleb.new.self c.short_uleb-in-Ok-eq4.new.self c.short_block.new.cursor
    c.in_ok-begin-in-Ok-eq4.begin c.in_ok-end-in-Ok-eq4.end (block_of c.in_ok-block-in-Ok-eq4.block) c.args.expressions.now.items
    c.keep_location.new.expressions.items code c.in_ok-begin-in-Ok-eq4.ensures.exact c.in_ok-end-in-Ok-eq4.ensures.exact
    c.in_ok-block-in-Ok-eq4.ensures.exact (omega (arith, c.if-end-begin.false)) c.if-not-keep_location.ensures.0
    c.if-not-keep_location.ensures.1
