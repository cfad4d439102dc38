use Rattle.std.proofs.Common.{◌≡◌, ◌-◌, ◌≤◌, false}
use Rattle.dw_rules.specs.AbiViews.{roles_of}
use Rattle.dw_unwind.specs.WalkSteps.{frame_at}
use Rattle.dw_check.specs.WriteResults.{IsSame}
use Rattle.dw_check.proofs.WrittenWalks.{Shown}
use Rattle.dw_check.proofs.walk_text.write_walk.Given as goal

abbrev pub invariant-loop-number : goal.invariant-loop-number
invariant-loop-number g l = record {
  same : IsSame l.fn.out l.out;
  runs : g.S.Sink.has_stopped l.out.sink.now ≡ false;
  over : l.walk.unwinder ≡ l.fn.walk.unwinder;
  abi : l.walk.abi ≡ l.fn.walk.abi;
  memory : l.walk.memory ≡ l.fn.walk.memory;
  shown : Shown (g.U.Unwinder.unwinds l.fn.walk.unwinder (roles_of l.fn.walk.abi) (g.M.Memory.bytes l.fn.walk.memory)) l.fn.out.size
      (frame_at l.fn.walk.progress) l.walk.progress l.number (g.S.Sink.taken l.fn.out.sink.now) (g.S.Sink.taken l.out.sink.now);
  few : l.number ≤ l.limit;
}

abbrev pub decreases-loop-number : goal.decreases-loop-number
decreases-loop-number g l = l.limit - l.number
