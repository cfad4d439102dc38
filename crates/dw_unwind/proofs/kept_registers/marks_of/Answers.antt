use Rattle.std.proofs.Common.{◌∙◌, get_or, refl}
use Rattle.dw_unwind.specs.declared.register_file.TheConstants.{PLACES}
use Rattle.dw_unwind.proofs.InPlace.{listed-all, marks-first, marks-next}
use Rattle.dw_unwind.proofs.kept_registers.marks_of.Goals as goal

pub loop-number-init : goal.loop-number-init
loop-number-init c = record { long = refl; each = λ r lt. marks-first c.args.numbers.now PLACES r }

pub loop-number-preserved : goal.loop-number-preserved
loop-number-preserved c = record {
  long = c.mark.ensures.length_is ∙ c.loop-number.invariant.long;
  each = λ r lt. marks-next c.loop-number.marks c.mark.new.marks c.args.numbers.now c.loop-number.number-index r c.loop-number-test.true
      (c.mark.ensures.each r lt) ∙ c.loop-number.invariant.each r lt;
}

pub returns : goal.returns
returns c = record {
  length_is = c.loop-number.invariant.long;
  each = λ r lt. listed-all c.args.numbers.now c.loop-number.number-index r 1 (get_or c.loop-number.marks r 0) _ c.loop-number-test.false
      (c.loop-number.invariant.each r lt);
}
