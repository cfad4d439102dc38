use Rattle.std.proofs.Common.{◌∙◌, ap, sym, arith}
use Rattle.std.specs.Prelude.{◌||◌}
use Rattle.dw_frame.specs.Views.{cie_of, fde_of}
use Rattle.dw_signed_rows.specs.SignedRanges.{has_signed}
use Rattle.dw_signed_rows.specs.SignedRuns.{is_left_signed, is_signed_row}
use Rattle.dw_signed_rows.proofs.Programs.{begun-at, passed-forward, passed-last, passed-on}
use Rattle.dw_signed_rows.proofs.Ranges.{or-assoc}
use Rattle.dw_signed_rows.proofs.signed_rows.push_signed_rows.Goals as goal

pub loop-init : goal.loop-init
loop-init c =
    let begun = begun-at (cie_of c.args.cie.now) (fde_of c.args.fde.now) c.new-program.result c.instructions-instructions.result
    c.instructions-instructions.ensures c.new-program.ensures.run in
    record {
      run = begun.0;
      parted = λ a. ap (λ b. has_signed c.args.ranges.now.items a || b) (sym (begun.1 a));
      order = c.requires.order;
      low = omega (arith, c.requires.low, c.new-program.ensures.location);
    }

pub push_row-requires-clause-low : goal.push_row-requires-clause-low
push_row-requires-clause-low c =
    let run = c.loop.invariant.run in
    omega (arith, c.loop.invariant.low, (passed-forward _ _ _ _ run _ _ _ _ (c.pass_row-is_last.ensures run)).0)

pub push_row-requires-clause-forward : goal.push_row-requires-clause-forward
push_row-requires-clause-forward c =
    let run = c.loop.invariant.run in
    (passed-forward _ _ _ _ run _ _ _ _ (c.pass_row-is_last.ensures run)).1

pub returns-then-is_last-clause-pushed : goal.returns-then-is_last-clause-pushed
returns-then-is_last-clause-pushed c =
    let run = c.loop.invariant.run in
    let last = passed-last _ _ _ _ run _ _ _ _ c.if-is_last.true (c.pass_row-is_last.ensures run) in
    λ a. c.in_ok-push_row.ensures.pushed a
    ∙ (ap (λ b. has_signed c.loop.ranges.items a || b) (sym (last.whole a)) ∙ sym (c.loop.invariant.parted a))

pub returns-then-is_last-clause-end : goal.returns-then-is_last-clause-end
returns-then-is_last-clause-end c =
    let run = c.loop.invariant.run in
    let last = passed-last _ _ _ _ run _ _ _ _ c.if-is_last.true (c.pass_row-is_last.ensures run) in
    omega (arith, c.in_ok-push_row.ensures.end, last.end)

pub loop-smaller : goal.loop-smaller
loop-smaller c =
    let run = c.loop.invariant.run in
    (passed-on _ _ _ _ run _ _ _ _ c.if-is_last.false (c.pass_row-is_last.ensures run)).1

pub loop-preserved : goal.loop-preserved
loop-preserved c =
    let run = c.loop.invariant.run in
    let on = (passed-on _ _ _ _ run _ _ _ _ c.if-is_last.false (c.pass_row-is_last.ensures run)).0 in
    let row = c.pass_row-is_last.result.0 in
    let left = is_left_signed (cie_of c.args.cie.now) (fde_of c.args.fde.now) c.pass_row-is_last.new.instructions c.pass_row-is_last.new.self on.on in
    record {
      run = on.on;
      parted = λ a. c.loop.invariant.parted a
          ∙ (ap (λ b. has_signed c.loop.ranges.items a || b) (on.parted a)
          ∙ (sym (or-assoc (has_signed c.loop.ranges.items a) (is_signed_row row a) (left a))
          ∙ ap (λ b. b || left a) (sym (c.in_ok-push_row.ensures.pushed a))));
      order = c.in_ok-push_row.ensures.order;
      low = omega (arith, c.in_ok-push_row.ensures.end, on.end);
    }
