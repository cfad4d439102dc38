use Rattle.std.proofs.Common.{◌≤◌, subst}
use Rattle.dw_eh_rows.specs.Counting.{times_in}
use Rattle.dw_eh_rows.proofs.CountedWhole.{counted-first, whole-counts, whole-faultless}
use Rattle.dw_eh_rows.proofs.NoCopies.{CopyLaws}
use Rattle.dw_eh_rows.proofs.counts.count_records.Goals as goal

pub loop-at-init : goal.loop-at-init
loop-at-init c = record {
  counted = counted-first c.args.is_aarch64 c.args.bases c.args.target c.args.section.now c.in_ok-tally.tally c.new-context.result
      c.in_ok-tally.ensures.empty c.in_ok-tally.ensures.place;
  last = tt;
}

pub returns-then-are_apart-clause-faultless : goal.returns-then-are_apart-clause-faultless
returns-then-are_apart-clause-faultless c =
    let laws : CopyLaws = record { good = c.records_without_fault_are_good.ensures; kept = c.records_without_copies_are_kept.ensures } in
    whole-faultless laws c.args.is_aarch64 c.args.bases c.args.target c.args.section.now c.loop-at.at c.loop-at.tally c.loop-at.context
    c.loop-at.invariant.counted c.loop-at-test.false
    (λ base address. subst (λ ranges. times_in base address ranges ≤ 1) c.deref_mut.ensures.value (c.are_apart.ensures c.if-are_apart.true base address))

pub returns-then-are_apart-clause-counts : goal.returns-then-are_apart-clause-counts
returns-then-are_apart-clause-counts c =
    let laws : CopyLaws = record { good = c.records_without_fault_are_good.ensures; kept = c.records_without_copies_are_kept.ensures } in
    rw c.counted-counts.ensures
    (whole-counts laws c.args.is_aarch64 c.args.bases c.args.target c.args.section.now c.loop-at.at c.loop-at.tally c.loop-at.context
    c.loop-at.invariant.counted c.loop-at-test.false
    (λ base address. subst (λ ranges. times_in base address ranges ≤ 1) c.deref_mut.ensures.value (c.are_apart.ensures c.if-are_apart.true base address)))
