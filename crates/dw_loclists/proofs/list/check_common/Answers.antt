use Rattle.std.proofs.Common.{◌≡◌, Ok, arith}
use Rattle.std.proofs.lemmas.Grind.{common_steps}
use Rattle.dw_bytes.specs.Reading.{fixed_at}
use Rattle.dw_bytes.specs.Operands.{block_of}
use Rattle.dw_loclists.proofs.Passing.{end-passes, base-passes, length-passes}
use Rattle.dw_loclists.proofs.list.check_common.Goals as goal

pub returns-in-Ok-eq0-clause-exact : goal.returns-in-Ok-eq0-clause-exact
returns-in-Ok-eq0-clause-exact c = λ d.
    let code : fixed_at 1 c.args.cursor.now ≡ Ok (0, c.u8.new.self) = grind (arith, common_steps, c.in-Ok-eq0.ensures.exact) in
    end-passes d c.args.cursor.now c.u8.new.self c.args.expressions.now.items code

pub returns-in_ok-skip_address-in-Ok-eq6-clause-exact : goal.returns-in_ok-skip_address-in-Ok-eq6-clause-exact
returns-in_ok-skip_address-in-Ok-eq6-clause-exact c = λ d.
    let code : fixed_at 1 c.args.cursor.now ≡ Ok (6, c.u8.new.self) = grind (arith, common_steps, c.in-Ok-eq6.ensures.exact) in
    base-passes d c.args.cursor.now c.u8.new.self c.skip_address.new.self c.in_ok-skip_address-in-Ok-eq6.ensures.exact.0 c.args.expressions.now.items code
    c.in_ok-skip_address-in-Ok-eq6.ensures.exact.1

pub returns-else-not-keep_location-clause-exact : goal.returns-else-not-keep_location-clause-exact
returns-else-not-keep_location-clause-exact c = λ d.
    let code : fixed_at 1 c.args.cursor.now ≡ Ok (8, c.u8.new.self) = grind (arith, common_steps, c.in-Ok-eq8.ensures.exact) in
    length-passes d c.args.cursor.now c.u8.new.self c.skip_address-in-Ok-eq8.new.self c.short_uleb.new.self
    c.short_block.new.cursor c.in_ok-skip_address-in-Ok-eq8.ensures.exact.0 c.in_ok-short_uleb-in-Ok-eq8.field-0
    (block_of c.in_ok-block-in-Ok-eq8.block) c.args.expressions.now.items c.keep_location.new.expressions.items code
    c.in_ok-skip_address-in-Ok-eq8.ensures.exact.1 c.in_ok-short_uleb-in-Ok-eq8.ensures.exact c.in_ok-block-in-Ok-eq8.ensures.exact
    c.if-not-keep_location.ensures.0 c.if-not-keep_location.ensures.1
