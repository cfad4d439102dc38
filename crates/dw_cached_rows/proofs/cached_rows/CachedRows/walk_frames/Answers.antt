use Rattle.std.proofs.Common.{◌∙◌, ◌+◌, List, arith, refl, rules, length-set, set, subst, sym, take}
use Rattle.dw_cached_rows.specs.CachedWalks.{over_cached}
use Rattle.dw_cached_rows.specs.declared.packed_row.PackedRow.{PackedRow}
use Rattle.dw_cached_rows.specs.RegisterWalks.{IsOtherWith, WalksWith}
use Rattle.dw_unwind.specs.declared.frames.Stop.TheVariants.{ReturnUndefined, ReturnUnreadable}
use Rattle.dw_cached_rows.specs.CachedRows.{entry_at}
use Rattle.dw_cached_rows.specs.declared.register_place.FrameWithRegisters.{FrameWithRegisters}
use Rattle.dw_cached_rows.proofs.RegisterPassing.{ends-undefined, ends-unreadable, some-undefined, some-unreadable, walk-ends, walks-on, written-past}
use Rattle.dw_cached_rows.proofs.cached_rows.CachedRows.walk_frames.Goals as goal

pub loop-count-init : goal.loop-count-init
loop-count-init g c = record {
  few = omega arith;
  same_length = search rules;
  last = omega arith;
  rows = search rules;
  walks = λ p at. (p, refl, at);
  rest = search rules;
}

pub loop-count-preserved : goal.loop-count-preserved
loop-count-preserved g c =
    let memory = g.M.Memory.bytes c.args.memory.now in
    let kept = c.loop-count.invariant in
    let here = c.loop-count.place in
    let from = c.args.place.now in
    let xs = c.loop-count.frames in
    let n = c.loop-count.count in
    let caller = c.in-To.caller in
    let shown : FrameWithRegisters = record { place = here; cfa = caller.stack_pointer } in
    let long = length-set xs n shown in
    let found = c.in-Some.ensures.found in
    let passed = c.pass_frames-passed in
    let first = walks-on c.args.self.now.rows c.loop-count.self.rows c.args.confirmed c.in-Some.index memory from here caller
    xs n c.step_by.result kept.rows (omega (arith, c.loop-count-test.true)) found.1 found.0
    found.2 c.step_by.ensures.row c.in-To.is c.step_by.ensures.step kept.walks in
    let before = subst (λ (rows : List PackedRow). WalksWith (over_cached rows c.args.confirmed memory) from (take (n + 1) (set xs n shown))
    caller) (sym kept.rows) first in
    record {
      few = omega (arith, passed.ensures.few, passed.ensures.length);
      same_length = passed.ensures.length ∙ long ∙ kept.same_length;
      last = passed.ensures.last;
      rows = passed.ensures.same ∙ kept.rows;
      walks = subst (λ (rows : List PackedRow). WalksWith (over_cached rows c.args.confirmed memory) from
          (take passed.result.0 passed.new.frames) passed.new.place) kept.rows (passed.ensures.walks from before);
      rest = passed.ensures.rest ∙ written-past xs c.args.frames.now n passed.result.0 shown (omega (arith, c.loop-count-test.true))
          passed.ensures.more kept.rest;
    }

pub returns-in-ReturnUndefined-clause-ended : goal.returns-in-ReturnUndefined-clause-ended
returns-in-ReturnUndefined-clause-ended g c =
    let memory = g.M.Memory.bytes c.args.memory.now in
    let kept = c.loop-count.invariant in
    let found = c.in-Some.ensures.found in
    let entry = entry_at c.loop-count.self.rows c.in-Some.index in
    let cfa = c.in-ReturnUndefined.cfa in
    walk-ends c.args.self.now.rows c.loop-count.self.rows c.args.confirmed c.in-Some.index memory c.args.place.now c.loop-count.place
    c.loop-count.frames c.loop-count.count cfa c.step_by.result ReturnUndefined kept.rows (omega (arith, c.loop-count-test.true)) found.1
    found.0 found.2 (some-undefined entry c.step_by.result cfa c.step_by.ensures.row c.in-ReturnUndefined.is)
    (ends-undefined c.step_by.result cfa c.in-ReturnUndefined.is) c.step_by.ensures.step kept.walks

pub returns-in-ReturnUnreadable-clause-ended : goal.returns-in-ReturnUnreadable-clause-ended
returns-in-ReturnUnreadable-clause-ended g c =
    let memory = g.M.Memory.bytes c.args.memory.now in
    let kept = c.loop-count.invariant in
    let found = c.in-Some.ensures.found in
    let entry = entry_at c.loop-count.self.rows c.in-Some.index in
    let cfa = c.in-ReturnUnreadable.cfa in
    walk-ends c.args.self.now.rows c.loop-count.self.rows c.args.confirmed c.in-Some.index memory c.args.place.now c.loop-count.place
    c.loop-count.frames c.loop-count.count cfa c.step_by.result ReturnUnreadable kept.rows (omega (arith, c.loop-count-test.true)) found.1
    found.0 found.2 (some-unreadable entry c.step_by.result cfa c.step_by.ensures.row c.in-ReturnUnreadable.is)
    (ends-unreadable c.step_by.result cfa c.in-ReturnUnreadable.is) c.step_by.ensures.step kept.walks

pub returns-in-Other-clause-other : goal.returns-in-Other-clause-other
returns-in-Other-clause-other g c = λ other.
    let found = c.in-Some.ensures.found in
    subst (λ (rows : List PackedRow). IsOtherWith rows c.args.confirmed (g.M.Memory.bytes c.args.memory.now) c.loop-count.place)
    c.loop-count.invariant.rows
    (record { looked_up = found.1; index = c.in-Some.index; usable = found.2; needs = c.step_by.ensures.other c.in-Other.is })
