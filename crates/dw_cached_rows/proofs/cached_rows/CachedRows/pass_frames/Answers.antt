use Rattle.std.proofs.Common.{◌∙◌, arith, rules, length-set}
use Rattle.dw_cached_rows.specs.declared.register_place.FrameWithRegisters.{FrameWithRegisters}
use Rattle.dw_cached_rows.proofs.RegisterPassing.{walks-on, written-next}
use Rattle.dw_cached_rows.proofs.cached_rows.CachedRows.pass_frames.Goals as goal

pub loop-count-init : goal.loop-count-init
loop-count-init g c = record {
  more = omega arith;
  few = c.requires.from;
  same_length = search rules;
  last = c.requires.after;
  rows = search rules;
  walks = λ begun before. before;
  rest = search rules;
}

pub loop-count-preserved : goal.loop-count-preserved
loop-count-preserved g c =
    let memory = g.M.Memory.bytes c.args.memory.now in
    let kept = c.loop-count.invariant in
    let here = c.loop-count.place in
    let xs = c.loop-count.frames in
    let n = c.loop-count.count in
    let shown : FrameWithRegisters = record { place = here; cfa = c.in-To.caller.stack_pointer } in
    let long = length-set xs n shown in
    let found = c.in-Some.ensures.found in
    record {
      more = omega (arith, kept.more);
      few = omega (arith, long, c.loop-count-test.true);
      same_length = long ∙ kept.same_length;
      last = omega (arith, found.0);
      rows = kept.rows;
      walks = λ begun before. walks-on c.args.self.now.rows c.loop-count.self.rows c.args.confirmed c.in-Some.index memory begun here
          c.in-To.caller xs n c.usual_step.result kept.rows (omega (arith, c.loop-count-test.true)) found.1 found.0 found.2
          c.usual_step.ensures.row c.in-To.is c.usual_step.ensures.step (kept.walks begun before);
      rest = written-next xs c.args.frames.now n shown (omega (arith, c.loop-count-test.true)) kept.rest;
    }
