use Rattle.std.proofs.Common.{◌≡◌, ◌∙◌, ◌+◌, arith, ap, refl, rules, subst, sym}
use Rattle.std.specs.Io.KnownBytes.{Appends}
use Rattle.dw_rules.specs.AbiViews.{roles_of}
use Rattle.dw_unwind.specs.WalkSteps.{GivesFrame, frame_at}
use Rattle.dw_unwind.specs.WalkViews.{brief_in, brief_of}
use Rattle.dw_check.specs.SinkBytes.{AppendsFront}
use Rattle.dw_check.specs.WalkText.{brief_line}
use Rattle.dw_check.proofs.WrittenWalks.{ended_written, filled_written, front_written, shown_next, shown_none, Shown}
use Rattle.dw_check.proofs.walk_text.write_walk.Goals as goal

pub returns-in-Err-clause-written : goal.returns-in-Err-clause-written
returns-in-Err-clause-written g c = λ first some at.
    let walk = c.args.walk.now in
    let memory = g.M.Memory.bytes walk.memory in
    let u = g.U.Unwinder.unwinds walk.unwinder (roles_of walk.abi) memory in
    let begin = frame_at walk.progress in
    ended_written u c.args.out.now.size begin first c.args.limit
    (λ xs stop given why few. c.frames_that_are_given_are_a_walk.ensures.ends walk.unwinder (roles_of walk.abi) memory first begin
    c.args.limit xs stop at given why few)
    c.loop-number.walk.progress c.loop-number.number c.in-Err.stop _ _ _ c.write_stop.result c.loop-number.invariant.shown
    (omega (arith, c.loop-number-test.true)) c.in-Err.ensures.gives.0 c.write_stop.ensures.written

pub returns-clause-written : goal.returns-clause-written
returns-clause-written g c = λ first some at.
    let walk = c.args.walk.now in
    let memory = g.M.Memory.bytes walk.memory in
    let u = g.U.Unwinder.unwinds walk.unwinder (roles_of walk.abi) memory in
    let begin = frame_at walk.progress in
    filled_written u c.args.out.now.size begin first c.args.limit
    (λ xs given many. c.frames_that_are_given_are_a_walk.ensures.fills walk.unwinder (roles_of walk.abi) memory first begin c.args.limit
    xs at given many)
    c.loop-number.walk.progress c.loop-number.number _ _ _ c.write_stop-2.result c.loop-number.invariant.shown
    (omega (arith, c.loop-number-test.false, c.loop-number.invariant.few)) c.write_stop-2.ensures.written

pub returns-in_err-write_walked_frame-clause-written : goal.returns-in_err-write_walked_frame-clause-written
returns-in_err-write_walked_frame-clause-written g c = λ first some at.
    let walk = c.args.walk.now in
    let memory = g.M.Memory.bytes walk.memory in
    let u = g.U.Unwinder.unwinds walk.unwinder (roles_of walk.abi) memory in
    let begin = frame_at walk.progress in
    let size = c.args.out.now.size in
    let given = c.in-Ok.ensures.gives in
    let keeps = c.loop-number.invariant in
    let gives : GivesFrame u c.loop-number.walk.progress given.0 = rw (keeps.over, keeps.abi, keeps.memory) at given.1 in
    let brief : brief_in c.in-Ok.frame ≡ brief_of given.0 =
    c.in-Ok.ensures.brief ∙ ap (λ w. brief_of (frame_at w.progress)) given.2 in
    let old = g.S.Sink.taken c.args.out.now.sink.now in
    let mid = g.S.Sink.taken c.loop-number.out.sink.now in
    let new = g.S.Sink.taken c.write_walked_frame.new.out.sink.now in
    let line : AppendsFront mid new (brief_line size c.loop-number.number (brief_of given.0)) =
    rw (keeps.same.1, brief) at c.in_err-write_walked_frame.ensures.written in
    front_written u size begin (c.frames_that_are_given_are_a_walk.ensures.more walk.unwinder (roles_of walk.abi) memory) first c.args.limit
    (λ xs given few. c.frames_that_are_given_are_a_walk.ensures.begins walk.unwinder (roles_of walk.abi) memory first begin c.args.limit
    xs some at given few)
    c.loop-number.walk.progress c.loop-number.number given.0 old mid new c.from_residual.result c.from_residual.ensures.0 keeps.shown
    (omega (arith, c.loop-number-test.true)) gives line

pub loop-number-init : goal.loop-number-init
loop-number-init g c =
    let walk = c.args.walk.now in
    let u = g.U.Unwinder.unwinds walk.unwinder (roles_of walk.abi) (g.M.Memory.bytes walk.memory) in
    record {
      same = search rules;
      runs = search rules;
      over = refl;
      abi = refl;
      memory = refl;
      shown = shown_none u c.args.out.now.size (frame_at walk.progress) walk.progress (g.S.Sink.taken c.args.out.now.sink.now) c.requires.begins;
      few = omega arith;
    }

pub loop-number-preserved : goal.loop-number-preserved
loop-number-preserved g c =
    let walk = c.args.walk.now in
    let memory = g.M.Memory.bytes walk.memory in
    let u = g.U.Unwinder.unwinds walk.unwinder (roles_of walk.abi) memory in
    let begin = frame_at walk.progress in
    let size = c.args.out.now.size in
    let given = c.in-Ok.ensures.gives in
    let keeps = c.loop-number.invariant in
    let gives : GivesFrame u c.loop-number.walk.progress given.0 = rw (keeps.over, keeps.abi, keeps.memory) at given.1 in
    let brief : brief_in c.in-Ok.frame ≡ brief_of given.0 =
    c.in-Ok.ensures.brief ∙ ap (λ w. brief_of (frame_at w.progress)) given.2 in
    let old = g.S.Sink.taken c.args.out.now.sink.now in
    let mid = g.S.Sink.taken c.loop-number.out.sink.now in
    let new = g.S.Sink.taken c.write_walked_frame.new.out.sink.now in
    let line : Appends mid new (brief_line size c.loop-number.number (brief_of given.0)) =
    rw (keeps.same.1, brief) at c.in_ok-write_walked_frame.ensures.written in
    let more = shown_next u size begin (c.frames_that_are_given_are_a_walk.ensures.more walk.unwinder (roles_of walk.abi) memory)
    c.loop-number.walk.progress c.loop-number.number given.0 old mid new keeps.shown gives line in
    record {
      same = search rules;
      runs = search rules;
      over = ap (λ w. w.unwinder) given.2 ∙ keeps.over;
      abi = ap (λ w. w.abi) given.2 ∙ keeps.abi;
      memory = ap (λ w. w.memory) given.2 ∙ keeps.memory;
      shown = subst (λ p. Shown u size begin p (c.loop-number.number + 1) old new) (sym (ap (λ w. w.progress) given.2)) more;
      few = omega (arith, c.loop-number-test.true);
    }
