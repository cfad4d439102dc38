use Rattle.std.proofs.Common.{◌≡◌, ◌∷◌, ◌++◌, [], None, Some, arith}
use Rattle.std.proofs.lemmas.Grind.{common_steps}
use Rattle.dw_bytes.specs.Operands.{block_of}
use Rattle.dw_stack.specs.declared.state.Kind.TheVariants.{Location}
use Rattle.dw_stack.specs.FirstFault.{expression_fault}
use Rattle.dw_loclists.specs.Locations.{location_of}
use Rattle.dw_loclists.specs.Reading.{location_fault}
use Rattle.dw_loclists.proofs.EachEntry.{good-location}
use Rattle.dw_loclists.proofs.StoredLists.{keeps-one}
use Rattle.dw_stack.proofs.Named.{good_if_none}
use Rattle.dw_loclists.proofs.list.keep_any.Goals as goal

pub returns : goal.returns
returns c =
    let old = c.args.expressions.now.items in
    let x = block_of c.args.block in
    let fine : expression_fault Location c.args.block.target c.args.block.bytes.now ≡ None =
    grind (arith, common_steps, c.in-Ok.ensures.answer) in
    let none : location_fault (Some x) ≡ None = good-location (Some x) (good_if_none Location x.target x.bytes fine) in
    let pushed : c.push.new.self.items ≡ old ++ c.new.result ∷ [] = grind (arith, common_steps) in
    (none, keeps-one (location_of x) c.new.result old c.push.new.self.items c.new.ensures pushed)
