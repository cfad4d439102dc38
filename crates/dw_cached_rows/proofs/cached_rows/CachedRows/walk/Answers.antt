use Rattle.std.proofs.Common.{◌∙◌, ◌+◌, List, arith, rules, length-set, set, subst, sym, take}
use Rattle.dw_unwind.specs.declared.frames.Stop.TheVariants.{ReturnUndefined, ReturnUnreadable}
use Rattle.dw_cached_rows.specs.CachedRows.{entry_at}
use Rattle.dw_cached_rows.specs.CachedWalks.{Passes, as_caller, over_cached}
use Rattle.dw_cached_rows.specs.declared.packed_row.PackedRow.{PackedRow}
use Rattle.dw_cached_rows.proofs.Passing.{at-caller, ends-undefined, ends-unreadable, passes-none, some-undefined, some-unreadable, walk-ends, walks-on, written-past}
use Rattle.dw_cached_rows.proofs.cached_rows.CachedRows.walk.Goals as goal

pub loop-count-init : goal.loop-count-init
loop-count-init g c =
    let memory = g.M.Memory.bytes c.args.memory.now in
    record {
      few = omega arith;
      same_length = search rules;
      last = omega arith;
      rows = search rules;
      passes = passes-none (over_cached c.args.self.now.rows c.args.confirmed memory) memory c.args.place.now;
      rest = search rules;
    }

pub loop-count-preserved : goal.loop-count-preserved
loop-count-preserved g c =
    let memory = g.M.Memory.bytes c.args.memory.now in
    let kept = c.loop-count.invariant in
    let here = c.loop-count.place in
    let from = c.args.place.now in
    let xs = c.loop-count.addresses in
    let n = c.loop-count.count in
    let long = length-set xs n here.address in
    let found = c.in-Some.ensures.found in
    let caller = c.in-To.caller in
    let passed = c.pass_callers-passed in
    let first = walks-on c.args.self.now.rows c.loop-count.self.rows c.args.confirmed c.in-Some.index memory from here caller
    (as_caller caller) xs n c.step_by.result (at-caller memory caller) kept.rows (omega (arith, c.loop-count-test.true)) found.1 found.0
    found.2 c.step_by.ensures.row c.in-To.is c.step_by.ensures.step kept.passes in
    let before = subst (λ (rows : List PackedRow). Passes (over_cached rows c.args.confirmed memory) memory from
    (take (n + 1) (set xs n here.address)) (as_caller caller)) (sym kept.rows) first in
    record {
      few = omega (arith, passed.ensures.few, passed.ensures.length);
      same_length = passed.ensures.length ∙ long ∙ kept.same_length;
      last = passed.ensures.last;
      rows = passed.ensures.same ∙ kept.rows;
      passes = subst (λ (rows : List PackedRow). Passes (over_cached rows c.args.confirmed memory) memory from
          (take passed.result.0 passed.new.addresses) passed.new.place) kept.rows (passed.ensures.passes from before);
      rest = passed.ensures.rest ∙ written-past xs c.args.addresses.now n passed.result.0 here.address
          (omega (arith, c.loop-count-test.true)) passed.ensures.more kept.rest;
    }

pub returns-in-ReturnUndefined-clause-ended : goal.returns-in-ReturnUndefined-clause-ended
returns-in-ReturnUndefined-clause-ended g c =
    let memory = g.M.Memory.bytes c.args.memory.now in
    let kept = c.loop-count.invariant in
    let found = c.in-Some.ensures.found in
    let entry = entry_at c.loop-count.self.rows c.in-Some.index in
    walk-ends c.args.self.now.rows c.loop-count.self.rows c.args.confirmed c.in-Some.index memory c.args.place.now c.loop-count.place
    c.loop-count.addresses c.loop-count.count c.step_by.result ReturnUndefined kept.rows (omega (arith, c.loop-count-test.true)) found.1 found.0
    found.2 (some-undefined entry c.step_by.result c.step_by.ensures.row c.in-ReturnUndefined.is) (ends-undefined c.step_by.result c.in-ReturnUndefined.is)
    c.step_by.ensures.step kept.passes

pub returns-in-ReturnUnreadable-clause-ended : goal.returns-in-ReturnUnreadable-clause-ended
returns-in-ReturnUnreadable-clause-ended g c =
    let memory = g.M.Memory.bytes c.args.memory.now in
    let kept = c.loop-count.invariant in
    let found = c.in-Some.ensures.found in
    let entry = entry_at c.loop-count.self.rows c.in-Some.index in
    walk-ends c.args.self.now.rows c.loop-count.self.rows c.args.confirmed c.in-Some.index memory c.args.place.now c.loop-count.place
    c.loop-count.addresses c.loop-count.count c.step_by.result ReturnUnreadable kept.rows (omega (arith, c.loop-count-test.true)) found.1 found.0
    found.2 (some-unreadable entry c.step_by.result c.step_by.ensures.row c.in-ReturnUnreadable.is) (ends-unreadable c.step_by.result c.in-ReturnUnreadable.is)
    c.step_by.ensures.step kept.passes
