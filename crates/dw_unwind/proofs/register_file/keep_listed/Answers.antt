use Rattle.std.proofs.Common.{◌∙◌, get_or, refl}
use Rattle.dw_unwind.specs.declared.register_file.TheConstants.{PLACES}
use Rattle.dw_unwind.proofs.InPlace.{listed-all, listed-first, listed-next}
use Rattle.dw_unwind.proofs.register_file.keep_listed.Goals as goal

pub loop-number-init : goal.loop-number-init
loop-number-init c = record {
  long = refl;
  each = λ r lt. listed-first c.args.flags.now c.args.numbers.now PLACES r;
}

pub loop-number-preserved : goal.loop-number-preserved
loop-number-preserved c = record {
  long = c.restore.ensures.length_is ∙ c.loop-number.invariant.long;
  each = λ r lt. listed-next c.args.flags.now c.loop-number.flags c.restore.new.flags c.args.numbers.now c.loop-number.number-index r
      c.loop-number-test.true (c.restore.ensures.each r lt) ∙ c.loop-number.invariant.each r lt;
}

pub returns : goal.returns
returns c = record {
  length_is = c.loop-number.invariant.long;
  each = λ r lt. listed-all c.args.numbers.now c.loop-number.number-index r (get_or c.args.flags.now r 0) (get_or c.loop-number.flags r 0) _
      c.loop-number-test.false (c.loop-number.invariant.each r lt);
}
