use Rattle.std.proofs.Common.{◌+◌, ◌∙◌, arith, subst, sym}
use Rattle.std.specs.Prelude.{slice_set}
use Rattle.std.proofs.lemmas.List.{length-set}
use Rattle.dw_rules.specs.Abi.{abi_of}
use Rattle.dw_unwind.specs.Contents.{File}
use Rattle.dw_c_types.specs.Frames.{IsLeftAt}
use Rattle.dw_c_types.specs.ProcessWalks.{Unwinding, through_process}
use Rattle.dwcheck_c.specs.declared.cursor.CCursor.{CCursor}
use Rattle.dwcheck_c.specs.WalkCursors.{IsStepBy, place_of}
use Rattle.dwcheck_c.proofs.CursorWalks.{step-place}
use Rattle.dwcheck_c.proofs.WrittenFrames.{gives, left-at}
use Rattle.dwcheck_c.proofs.backtrace.write_usual_steps.Goals as goal

pub loop-count-preserved : goal.loop-count-preserved
loop-count-preserved g c =
    let u : Unwinding =
    through_process (abi_of c.args.kept.now c.args.pointer) (g.M.Memory.bytes c.args.memory.now) c.args.bits c.args.process.now in
    let reserved = c.loop-count.cursor.reserved in
    let from : CCursor = record {
      registers = c.loop-count.cursor.registers;
      address = c.loop-count.address;
      stage = c.loop-count.stage;
      reserved = reserved;
    } in
    let to : CCursor = record {
      registers = c.usual_step.new.file;
      address = c.in-Some.step.address;
      stage = c.in-Some.step.stage;
      reserved = reserved;
    } in
    let slots = c.loop-count.slots in let count = c.loop-count.count in let frame = c.in-Some.step.frame in
    let h : IsStepBy u from to frame = c.in-Some.ensures.steps reserved in
    let long = length-set slots count frame in
    record {
      left = λ first old before.
          left-at u first (place_of from) (place_of to) h.walked old (slice_set slots count frame) (count + 1)
          (gives u first (place_of from) h.walked old slots count frame (c.loop-count.invariant.left first old before) h.is h.shown)
          (step-place u from to frame h c.in-Some.ensures.goes);
      begun = c.in-Some.ensures.goes;
      more = omega (arith, c.loop-count.invariant.more);
      few = omega (arith, c.loop-count-test.true, long);
      long = long ∙ c.loop-count.invariant.long;
    }

pub returns-in-None-clause-left : goal.returns-in-None-clause-left
returns-in-None-clause-left g c = λ first old before.
    let u : Unwinding =
    through_process (abi_of c.args.kept.now c.args.pointer) (g.M.Memory.bytes c.args.memory.now) c.args.bits c.args.process.now in
    let with : File → CCursor = λ f. record {
      registers = f;
      address = c.loop-count.address;
      stage = c.loop-count.stage;
      reserved = c.loop-count.cursor.reserved;
    } in
    subst (λ (f : File). IsLeftAt u first (place_of (with f)) old c.loop-count.slots c.loop-count.count) (sym (c.in-None.ensures.steps 0))
    (c.loop-count.invariant.left first old before)
