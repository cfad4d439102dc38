use Rattle.std.proofs.Common.{◌≡◌, ◌∙◌, ◌++◌, ◌∷◌, [], Err, arith, add-one}
use Rattle.std.proofs.lemmas.Grind.{common_steps}
use Rattle.dw_bytes.specs.Reading.{offset_at}
use Rattle.dw_bytes.specs.Sequence.{exactly_of}
use Rattle.dw_bytes.proofs.Sequences.{exactly-more, exactly-stops}
use Rattle.dw_bytes.proofs.cursor.Cursor.skip_offsets.Goals as goal

pub loop-read-preserved : goal.loop-read-preserved
loop-read-preserved c =
    let before = c.loop-read.invariant in
    let step = c.in_ok-offset.ensures in
    record {
      within = omega arith;
      some = (
        before.some.0 ++ c.in_ok-offset.field-0 ∷ [],
        rw add-one (exactly-more
            (offset_at c.args.format) c.loop-read.read c.args.self.now c.loop-read.ahead c.offset.new.self before.some.0
            c.in_ok-offset.field-0 before.some.1 step.exact),
      );
      goes = record {
        forward = omega (arith, before.goes.forward, step.goes_on.forward);
        same_end = step.goes_on.same_end
            ∙ before.goes.same_end;
        same_target = step.goes_on.same_target ∙ before.goes.same_target;
      };
    }

pub returns-in_err-offset-clause-exact : goal.returns-in_err-offset-clause-exact
returns-in_err-offset-clause-exact c =
    let stop : exactly_of (offset_at c.args.format) c.args.count c.args.self.now ≡ Err c.in_err-offset.field-0.0 =
    exactly-stops
    (offset_at c.args.format) c.loop-read.read c.args.count c.args.self.now c.loop-read.ahead c.loop-read.invariant.some.0
    c.in_err-offset.field-0.0 (omega arith) c.loop-read.invariant.some.1 c.in_err-offset.ensures.exact.0 in
    grind (arith, common_steps, stop)
