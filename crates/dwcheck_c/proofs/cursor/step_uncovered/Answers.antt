use Rattle.std.specs.Prelude.{None}
use Rattle.dw_c_types.specs.ProcessWalks.{through_held}
use Rattle.dwcheck_c.specs.WalkCursors.{looked_up_by, registers_in}
use Rattle.dwcheck_c.proofs.CursorSteps.{none-held, step-uncovered}
use Rattle.dwcheck_c.proofs.cursor.step_uncovered.Goals as goal

pub returns-clause-done : goal.returns-clause-done
returns-clause-done c = λ abi memory bits _.
    let old = c.args.cursor.now in
    step-uncovered (through_held abi memory bits None) old c.end_uncovered.new.cursor c.end_uncovered.new.out
    (none-held (registers_in old) (looked_up_by old.stage old.address)) c.end_uncovered.ensures.cursor c.end_uncovered.ensures.frame
