use Rattle.dw_process.proofs.Spans.{spans_both, spans_first}
use Rattle.dw_process.proofs.ranges.linked_range_of_both.Goals as goal

pub returns-in-Some-clause-span : goal.returns-in-Some-clause-span
returns-in-Some-clause-span c = spans_both c.args.debug_frame.now.fdes c.args.eh_frame.now.fdes c.linked_range-first.result c.in-Some.second c.wider.result
    (rw c.listed.ensures.listed at c.linked_range-first.ensures.span)
    (rw c.listed-2.ensures.listed at c.in-Some.ensures.span) c.wider.ensures.none c.wider.ensures.low c.wider.ensures.high
    c.wider.ensures.low_other c.wider.ensures.high_other

pub returns-in-None-clause-span : goal.returns-in-None-clause-span
returns-in-None-clause-span c = spans_first c.args.debug_frame.now.fdes c.args.eh_frame.now.fdes c.linked_range-first.result
    (rw c.listed.ensures.listed at c.linked_range-first.ensures.span)
    (rw c.listed-2.ensures.listed at c.in-None.ensures.span)
