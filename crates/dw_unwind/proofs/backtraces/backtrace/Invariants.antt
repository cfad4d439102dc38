use Rattle.std.proofs.Common.{◌≡◌, ◌-◌, ◌≤◌, ◌<◌, ℕ, length}
use Rattle.std.specs.Prelude.{All}
use Rattle.dw_rules.specs.AbiViews.{roles_of}
use Rattle.dw_unwind.specs.CallerFits.{FrameFits, ProgressFits}
use Rattle.dw_unwind.specs.Walks.{first_place}
use Rattle.dw_unwind.specs.WalkViews.{frames_in}
use Rattle.dw_unwind.proofs.Walking.{UnderWay}
use Rattle.dw_unwind.proofs.backtraces.backtrace.Given as goal

abbrev pub invariant-loop-walk : goal.invariant-loop-walk
invariant-loop-walk g l = record {
  over : l.walk.unwinder ≡ l.fn.unwinder;
  abi : l.walk.abi ≡ l.abi;
  memory : l.walk.memory ≡ l.memory;
  under_way : UnderWay (g.U.Unwinder.unwinds l.fn.unwinder (roles_of l.abi) (g.M.Memory.bytes l.memory))
      (first_place l.address (g.R.Registers.contents l.registers)) (frames_in l.frames.items) l.walk.progress;
  few : length l.frames.items ≤ l.limit;
  fits : (bound : ℕ) → g.U.Unwinder.is_bound l.fn.unwinder bound → l.address < bound
      → ProgressFits bound l.walk.progress × All (FrameFits bound) (frames_in l.frames.items);
}

abbrev pub decreases-loop-walk : goal.decreases-loop-walk
decreases-loop-walk g l = l.limit - length l.frames.items
