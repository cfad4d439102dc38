use Rattle.std.proofs.Common.{◌≡◌, ◌+◌, ◌-◌, ◌/◌, arith, refl, sym, ap, ◌∙◌}
use Rattle.dw_stack.specs.Paths.{place}
use Rattle.dw_stack.specs.Views.{placed_in}
use Rattle.dw_stack.proofs.Lists.{placed_in_length, place_read}
use Rattle.dw_stack.proofs.Places.{nowhere}
use Rattle.dw_stack.proofs.target.place_at_target.Goals as goal

pub returns-else-from-target-2-clause-err : goal.returns-else-from-target-2-clause-err
returns-else-from-target-2-clause-err c =
    let ops = placed_in c.args.operations.now in
    let long = placed_in_length c.args.operations.now in
    let done : c.loop-low.low ≡ c.loop-low.high = omega arith in
    let same : place ops c.args.end c.loop-low.low ≡ place ops c.args.end c.loop-low.high = ap (place ops c.args.end) done in (
      refl,
      λ j le. nowhere ops c.args.end c.requires.laid c.loop-low.low c.args.target (omega arith)
          (omega (arith, long)) c.loop-low.invariant.below (λ lt. let le = c.loop-low.invariant.above (omega (arith, long)) in omega arith)
          (λ e. omega (arith, e, c.from-2.ensures, c.place_of_operation.ensures, c.if-from-target-2.false)) j (omega (arith, long)),
    )

pub loop-low-preserved-then-from-target : goal.loop-low-preserved-then-from-target
loop-low-preserved-then-from-target c = record {
  after = omega arith;
  within = omega arith;
  top = omega arith;
  below = let read = place_read c.args.operations.now c.args.end (c.loop-low.low + (c.loop-low.high - c.loop-low.low) / 2) _ (omega arith)
      ∙ sym c.from.ensures in
      let same : place (placed_in c.args.operations.now) c.args.end
      (c.loop-low.low + (c.loop-low.high - c.loop-low.low) / 2 + 1 - 1) ≡ place
      (placed_in c.args.operations.now) c.args.end (c.loop-low.low + (c.loop-low.high - c.loop-low.low) / 2) =
      ap (place (placed_in c.args.operations.now) c.args.end) (omega arith) in
      omega (arith, read, same, c.if-from-target.true);
  above = c.loop-low.invariant.above;
}
