use Rattle.std.proofs.Common.{◌∙◌, ap, sym}
use Rattle.std.specs.Prelude.{◌||◌}
use Rattle.dw_frame.specs.Views.{cie_of, fde_of}
use Rattle.dw_signed_rows.specs.SignedRuns.{is_left_signed}
use Rattle.dw_signed_rows.proofs.Programs.{begun-at, passed-last, passed-on, passed-signed}
use Rattle.dw_signed_rows.proofs.signed_rows.is_signed_in.Goals as goal

pub loop-instructions-init : goal.loop-instructions-init
loop-instructions-init c =
    let begun = begun-at (cie_of c.args.cie.now) (fde_of c.args.fde.now) c.new-program.result c.instructions-instructions.result
    c.instructions-instructions.ensures c.new-program.ensures.run in
    record { run = begun.0; left = sym (begun.1 c.args.address) }

pub returns-then-is_signed_at : goal.returns-then-is_signed_at
returns-then-is_signed_at c =
    let run = c.loop-instructions.invariant.run in
    sym (c.loop-instructions.invariant.left ∙ passed-signed _ _ _ _ run _ _ _ _ (c.pass_row-is_last.ensures run) c.args.address
    (sym c.is_signed_at.ensures ∙ c.if-is_signed_at.true))

pub returns-then-is_last : goal.returns-then-is_last
returns-then-is_last c =
    let run = c.loop-instructions.invariant.run in
    let last = passed-last _ _ _ _ run _ _ _ _ c.if-is_last.true (c.pass_row-is_last.ensures run) in
    sym (c.loop-instructions.invariant.left ∙ (last.whole c.args.address ∙ (sym c.is_signed_at.ensures ∙ c.if-is_signed_at.false)))

pub loop-instructions-smaller : goal.loop-instructions-smaller
loop-instructions-smaller c =
    let run = c.loop-instructions.invariant.run in
    (passed-on _ _ _ _ run _ _ _ _ c.if-is_last.false (c.pass_row-is_last.ensures run)).1

pub loop-instructions-preserved : goal.loop-instructions-preserved
loop-instructions-preserved c =
    let run = c.loop-instructions.invariant.run in
    let on = (passed-on _ _ _ _ run _ _ _ _ c.if-is_last.false (c.pass_row-is_last.ensures run)).0 in
    record {
      run = on.on;
      left = c.loop-instructions.invariant.left
          ∙ (on.parted c.args.address
          ∙ ap (λ b. b || is_left_signed (cie_of c.args.cie.now) (fde_of c.args.fde.now) c.pass_row-is_last.new.instructions
          c.pass_row-is_last.new.self on.on c.args.address) (sym c.is_signed_at.ensures ∙ c.if-is_signed_at.false));
    }
