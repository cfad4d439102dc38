use Rattle.std.proofs.Common.{◌≡◌, List, false}
use Rattle.std.specs.List.{All}
use Rattle.dw_check.specs.Lookups.{IsShowable}
use Rattle.dw_state.specs.StateFile.{StateFact, IsGivenBy}
use Rattle.dw_state.specs.StateViews.{known_state_of}
use Rattle.dw_check.specs.WriteResults.{IsSame}
use Rattle.dw_check.proofs.Showing.{Shown}
use Rattle.dw_check.proofs.locations.write_other_locations.Given as goal

abbrev pub invariant-loop-offset : goal.invariant-loop-offset
invariant-loop-offset g l = record {
  same : IsSame l.fn.out l.out;
  runs : g.S.Sink.has_stopped l.out.sink.now ≡ false;
  showable : All (λ x. IsShowable l.fn.out.size x) l.offset-iterator;
  shown : (gs : List StateFact) → IsGivenBy (known_state_of l.state) gs
      → Shown gs l.fn.locations l.offset-iterator (g.S.Sink.taken l.fn.out.sink.now) (g.S.Sink.taken l.out.sink.now);
}
