use Rattle.std.proofs.Common.{arith, rules}
use Rattle.dw_check.proofs.Growth.{keeps_more, front_of_take, piece_more}
use Rattle.dw_check.proofs.sink.write_all.Goals as goal

pub returns-in_err-n-clause-front : goal.returns-in_err-n-clause-front
returns-in_err-n-clause-front g c =
    let front = front_of_take _ _ _ _ (keeps_more _ _ _ _ c.loop-done.invariant.taken c.in_err-n.ensures.taken) in
    search (rules, front)

pub returns-then-n-eq0-clause-front : goal.returns-then-n-eq0-clause-front
returns-then-n-eq0-clause-front g c =
    front_of_take _ _ _ _ (piece_more _ _ _ _ _ _ c.loop-done.invariant.taken c.in_ok-n.ensures.taken)

pub loop-done-preserved : goal.loop-done-preserved
loop-done-preserved g c = record {
  within = omega (arith, c.in_ok-n.ensures.bound);
  runs = search (rules, c.in_ok-n.ensures.stops);
  taken = piece_more _ _ _ _ _ _ c.loop-done.invariant.taken c.in_ok-n.ensures.taken;
}
