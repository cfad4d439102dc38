use Rattle.std.proofs.Common.{◌∙◌, ap}
use Rattle.std.specs.Prelude.{slice_set}
use Rattle.std.proofs.Math.ListN.{get_or}
use Rattle.dw_c_types.proofs.Putting.{puts_from}
use Rattle.dw_c_types.proofs.slots.write_all.Goals as goal

pub loop-index-preserved : goal.loop-index-preserved
loop-index-preserved c =
    let bytes = c.args.bytes.now in let i = c.loop-index.index in
    c.put.ensures ∙ ap (λ l. slice_set l i (get_or bytes i 0)) c.loop-index.invariant
    ∙ puts_from bytes c.args.slots.now i 0 c.loop-index-test.true
