use Rattle.std.proofs.Common.{◌∙◌, arith, rules, length-set, subst, sym, take}
use Rattle.dw_cached_rows.specs.CachedWalks.{Passes, over_cached}
use Rattle.dw_cached_rows.specs.declared.stack_place.StackPlace.{StackPlace}
use Rattle.dw_cached_rows.proofs.Passing.{at-next, walks-on, written-next}
use Rattle.dw_cached_rows.proofs.cached_rows.CachedRows.pass_callers.Goals as goal

pub loop-count-init : goal.loop-count-init
loop-count-init g c =
    let memory = g.M.Memory.bytes c.args.memory.now in
    let u = over_cached c.args.self.now.rows c.args.confirmed memory in
    record {
      more = omega arith;
      few = c.requires.from;
      same_length = search rules;
      last = c.requires.after;
      rows = search rules;
      passes = λ begun before.
          subst (λ (here : StackPlace). Passes u memory begun (take c.args.from c.args.addresses.now) here) (sym c.as_caller-here.ensures) before;
      rest = search rules;
    }

pub loop-count-preserved : goal.loop-count-preserved
loop-count-preserved g c =
    let memory = g.M.Memory.bytes c.args.memory.now in
    let kept = c.loop-count.invariant in
    let here = c.loop-count.here in
    let xs = c.loop-count.addresses in
    let n = c.loop-count.count in
    let long = length-set xs n here.address in
    let found = c.in-Some.ensures.found in
    record {
      more = omega (arith, kept.more);
      few = omega (arith, long, c.loop-count-test.true);
      same_length = long ∙ kept.same_length;
      last = omega (arith, found.0);
      rows = kept.rows;
      passes = λ begun before. walks-on c.args.self.now.rows c.loop-count.self.rows c.args.confirmed c.in-Some.index memory begun here
          c.in-To.caller c.in-To.caller xs n c.usual_step.result (at-next memory c.in-To.caller) kept.rows
          (omega (arith, c.loop-count-test.true)) found.1 found.0 found.2
          c.usual_step.ensures.row c.in-To.is c.usual_step.ensures.step (kept.passes begun before);
      rest = written-next xs c.args.addresses.now n here.address (omega (arith, c.loop-count-test.true)) kept.rest;
    }
