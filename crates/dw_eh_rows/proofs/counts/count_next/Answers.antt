use Rattle.dw_eh_frame.specs.Views.{fde_with_cie}
use Rattle.dw_eh_rows.proofs.CountedSteps.{counted-ascend, counted-fde}
use Rattle.dw_eh_rows.proofs.counts.count_next.Goals as goal

pub count_fde-requires-clause-order : goal.count_fde-requires-clause-order
count_fde-requires-clause-order c = counted-ascend c.requires.so_far

pub returns-then-branch-clause-counted : goal.returns-then-branch-clause-counted
returns-then-branch-clause-counted c =
    let read = c.in-Some-usual_fde.ensures in
    let taken = c.in_ok-count_fde.ensures in
    let found = taken.cie c.if-branch.true in (
      read.forward.0,
      counted-fde c.args.is_aarch64 c.args.bases c.args.target c.args.section.now c.args.at c.in-Some-usual_fde.next
          (fde_with_cie c.in-Some.cie c.in-Some-usual_fde.fde) found.0 c.args.tally.now c.count_fde.new.tally c.args.context.now
          c.count_fde.new.context c.requires.so_far read.exact read.sound read.forward.1 found.1 taken.cies (taken.counted c.if-branch.true)
          (taken.ready c.if-branch.true),
    )
