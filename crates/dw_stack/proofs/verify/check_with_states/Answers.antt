use Rattle.std.proofs.Common.{◌∙◌, length, sym, ap, subst, arith, rules}
use Rattle.dw_ops.specs.Views.{bytes_of, target_of}
use Rattle.dw_stack.specs.InStates.{given_of}
use Rattle.dw_stack.specs.Views.{placed_in}
use Rattle.dw_stack.specs.Expressions.{Checked, IsChecked}
use Rattle.dw_stack.proofs.Lists.{placed_in_length}
use Rattle.dw_stack.proofs.Places.{count_le}
use Rattle.dw_stack.proofs.Whole.{same_count, laid_for, checked_for, fault_for, knows_for}
use Rattle.dw_stack.proofs.verify.check_with_states.Goals as goal

pub pass-requires-clause-laid : goal.pass-requires-clause-laid
pass-requires-clause-laid c =
    let e = c.args.expression in
    laid_for c.args.kind (target_of e) (bytes_of e) (placed_in c.as_slice.result.now)
    (length c.bytes.result.now) c.in_ok-operations.ensures.answer (ap placed_in c.as_slice.ensures ∙ c.in_ok-operations.ensures.list)
    (ap length c.bytes.ensures)

pub returns-in_err-passed-clause-fault : goal.returns-in_err-passed-clause-fault
returns-in_err-passed-clause-fault c =
    let e = c.args.expression in
    let are = ap placed_in c.as_slice.ensures ∙ c.in_ok-operations.ensures.list in
    let counted = c.len.ensures.value ∙ (sym (ap length c.as_slice.ensures)
    ∙ (sym (placed_in_length c.as_slice.result.now) ∙ ap length are)) in
    let same = same_count (target_of e) (bytes_of e) c.args.given c.len.result counted
    (c.are_as_many_states.ensures.0 c.if-not-are_as_many_states.false) in
    let fault = fault_for c.args.kind (target_of e) (bytes_of e) (placed_in c.as_slice.result.now)
    (length c.bytes.result.now) c.in_ok-operations.ensures.answer are (ap length c.bytes.ensures)
    (given_of c.args.given) c.in_err-passed.field-0.0 same c.in_err-passed.ensures.first in
    search rules

pub overflow_cast-count : goal.overflow_cast-count
overflow_cast-count c =
    let e = c.args.expression in
    let are = ap placed_in c.as_slice.ensures ∙ c.in_ok-operations.ensures.list in
    let laid = laid_for c.args.kind (target_of e) (bytes_of e) (placed_in c.as_slice.result.now)
    (length c.bytes.result.now) c.in_ok-operations.ensures.answer are (ap length c.bytes.ensures) in
    let few = count_le (placed_in c.as_slice.result.now) (length c.bytes.result.now) laid in
    let short = e.short in
    let long = ap length c.bytes.ensures in
    let same = placed_in_length c.as_slice.result.now in
    let items = ap length c.as_slice.ensures in
    let count = c.len-count.ensures.value in
    omega (arith, few, short, long, same, items, count)

pub new-requires : goal.new-requires
new-requires c =
    let e = c.args.expression in
    let are = ap placed_in c.as_slice.ensures ∙ c.in_ok-operations.ensures.list in
    checked_for c.args.kind (target_of e) (bytes_of e) (placed_in c.as_slice.result.now)
    (length c.bytes.result.now) c.in_ok-operations.ensures.answer are
    (ap length c.bytes.ensures) c.in_ok-passed.passed.depth c.len-count.result c.in_ok-passed.ensures.good c.in_ok-passed.ensures.depth
    (c.len-count.ensures.value ∙ (sym (ap length c.as_slice.ensures) ∙ sym (placed_in_length c.as_slice.result.now)))

pub returns-clause-known : goal.returns-clause-known
returns-clause-known c =
    let e = c.args.expression in
    let are = ap placed_in c.as_slice.ensures ∙ c.in_ok-operations.ensures.list in
    knows_for c.args.kind (target_of e) (bytes_of e) (placed_in c.as_slice.result.now)
    (length c.bytes.result.now) c.args.given c.len.result are (ap length c.bytes.ensures)
    (c.len.ensures.value ∙ (sym (ap length c.as_slice.ensures) ∙ sym (placed_in_length c.as_slice.result.now)))
    (c.are_as_many_states.ensures.0 c.if-not-are_as_many_states.false) c.in_ok-passed.ensures.known

pub returns-clause-checked : goal.returns-clause-checked
returns-clause-checked c =
    let e = c.args.expression in
    let are = ap placed_in c.as_slice.ensures ∙ c.in_ok-operations.ensures.list in
    let checked = checked_for c.args.kind (target_of e) (bytes_of e) (placed_in c.as_slice.result.now)
    (length c.bytes.result.now) c.in_ok-operations.ensures.answer are
    (ap length c.bytes.ensures) c.in_ok-passed.passed.depth c.len-count.result c.in_ok-passed.ensures.good c.in_ok-passed.ensures.depth
    (c.len-count.ensures.value ∙ (sym (ap length c.as_slice.ensures) ∙ sym (placed_in_length c.as_slice.result.now))) in
    subst (λ (x : Checked). IsChecked x) (sym c.new.ensures) checked
