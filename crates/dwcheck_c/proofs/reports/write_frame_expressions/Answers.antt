use Rattle.std.proofs.Common.{◌∙◌, ◌++◌, ◌∷◌, [], ℕ, List, ap, arith, sym}
use Rattle.std.specs.Prelude.{slice_set}
use Rattle.dw_stack.specs.declared.checked.CheckedExpression.{CheckedExpression}
use Rattle.dw_c_types.specs.declared.fault.TheConstants.{IN_FRAME}
use Rattle.dw_c_types.specs.Slots.{put_into}
use Rattle.dw_c_types.proofs.Putting.{puts_next}
use Rattle.dwcheck_c.specs.declared.reports.CExpression.{CExpression}
use Rattle.dwcheck_c.proofs.Shown.{shown-at, shown-count}
use Rattle.dwcheck_c.proofs.reports.write_frame_expressions.Goals as goal

pub loop-index-preserved : goal.loop-index-preserved
loop-index-preserved c =
    let xs = c.args.expressions.now in let i = c.loop-index.index in let out = c.c_expression_of.result in
    let old = c.args.slots.now in
    let x : ℕ × CheckedExpression = c.index-expressions-index.result in
    let k = c.loop-index.invariant in
    let few = shown-count IN_FRAME xs i k.shown (omega arith) k.are in
    record {
      shown = k.shown ++ out ∷ [];
      are = shown-at IN_FRAME xs i x k.shown out c.loop-index-test.true c.index-expressions-index.is k.are c.c_expression_of.ensures;
      written = c.put.ensures ∙ ap (λ (l : List CExpression). slice_set l i out) k.written
          ∙ ap (λ (n : ℕ). slice_set (put_into k.shown old) n out) (sym few) ∙ puts_next k.shown old out;
    }
