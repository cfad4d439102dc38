use Rattle.std.proofs.Common.{◌≡◌, ◌∙◌, ℕ, ap, sym}
use Rattle.std.specs.Prelude.{Some, option_map, slice_get}
use Rattle.dw_unwind.specs.Caller.{Answer}
use Rattle.dw_unwind.specs.CallerViews.{answer_in, found_in}
use Rattle.dwcheck_c.proofs.ContentAt.{at-other, at-same}
use Rattle.dwcheck_c.proofs.listed_registers.content_among.Goals as goal

pub returns-then-found-number : goal.returns-then-found-number
returns-then-found-number c =
    let x : ℕ × Answer = (c.in_ok-found.found, answer_in c.in_ok-found.answer) in
    let is : slice_get c.args.list.now c.loop-index.index ≡ Some x = sym c.get.ensures ∙ ap (option_map found_in) c.in_ok-found.was in
    c.content.ensures ∙ sym (c.loop-index.invariant ∙ at-same c.args.list.now c.loop-index.index c.args.number x is c.if-found-number.true)

pub loop-index-preserved : goal.loop-index-preserved
loop-index-preserved c =
    let x : ℕ × Answer = (c.in_ok-found.found, answer_in c.in_ok-found.answer) in
    let is : slice_get c.args.list.now c.loop-index.index ≡ Some x = sym c.get.ensures ∙ ap (option_map found_in) c.in_ok-found.was in
    c.loop-index.invariant ∙ at-other c.args.list.now c.loop-index.index c.args.number x is c.if-found-number.false
