use Rattle.std.proofs.Common.{◌≡◌, ◌≢◌, ◌∙◌, ◌+◌, ◌≤◌, List, arith, subst, sym, ℕ}
use Rattle.std.specs.Prelude.{slice_set}
use Rattle.std.proofs.lemmas.List.{length-set}
use Rattle.dw_rules.specs.Abi.{abi_of}
use Rattle.dw_unwind.specs.Walks.{Place}
use Rattle.dw_unwind.specs.declared.frames.Stop.{Stop}
use Rattle.dw_c_types.specs.Frames.{stop_number}
use Rattle.dw_c_types.specs.ProcessWalks.{Unwinding, through_process}
use Rattle.dwcheck_c.specs.WalkCursors.{IsStepBy, place_of}
use Rattle.dwcheck_c.specs.declared.cursor.Stepped.{Stepped}
use Rattle.dwcheck_c.specs.declared.cursor.Stepped.TheVariants.{NoPlace, Written}
use Rattle.dwcheck_c.proofs.CursorWalks.{step-place, step-stop, step-why}
use Rattle.dwcheck_c.proofs.WrittenFrames.{ends, fills, full, gives, left-at}
use Rattle.dwcheck_c.proofs.backtrace.write_steps.Goals as goal

has-written : (s : Stepped) → s ≡ Written → s ≢ NoPlace
has-written s is none = let other : Written ≡ NoPlace = sym is ∙ none in cc

pub returns-then-count-slots : goal.returns-then-count-slots
returns-then-count-slots g c =
    let u : Unwinding =
    through_process (abi_of c.args.kept.now c.args.pointer) (g.M.Memory.bytes c.args.memory.now) c.args.bits c.args.process.now in
    let first : Place = place_of c.args.cursor.now in
    let w = c.write_usual_steps-count in
    full u first (place_of w.new.cursor) c.args.slots.now w.new.slots w.result (w.ensures.left first c.args.slots.now c.loop-count.invariant.left)
    c.if-count-slots.true

pub returns-then-count-slots-2 : goal.returns-then-count-slots-2
returns-then-count-slots-2 g c =
    let u : Unwinding =
    through_process (abi_of c.args.kept.now c.args.pointer) (g.M.Memory.bytes c.args.memory.now) c.args.bits c.args.process.now in
    let first : Place = place_of c.args.cursor.now in
    let w = c.write_usual_steps-count in
    let p : Place = place_of w.new.cursor in
    let slots = w.new.slots in let count = w.result in let out = c.other_step.new.out in
    let left = w.ensures.left first c.args.slots.now c.loop-count.invariant.left in
    let h : IsStepBy u w.new.cursor c.other_step.new.cursor out = subst (λ (kept : List ℕ). IsStepBy
    (through_process (abi_of kept c.args.pointer) (g.M.Memory.bytes c.args.memory.now) c.args.bits c.args.process.now) w.new.cursor
    c.other_step.new.cursor out) c.numbers-numbers.ensures (c.other_step.ensures.done (has-written c.other_step.result c.in-Written.is)) in
    fills u first p h.walked c.args.slots.now (slice_set slots count out) (count + 1)
    (gives u first p h.walked c.args.slots.now slots count out left h.is h.shown) c.if-count-slots-2.true

pub returns-in-Some : goal.returns-in-Some
returns-in-Some g c =
    let u : Unwinding =
    through_process (abi_of c.args.kept.now c.args.pointer) (g.M.Memory.bytes c.args.memory.now) c.args.bits c.args.process.now in
    let first : Place = place_of c.args.cursor.now in
    let w = c.write_usual_steps-count in
    let p : Place = place_of w.new.cursor in
    let slots = w.new.slots in let count = w.result in let out = c.other_step.new.out in
    let left = w.ensures.left first c.args.slots.now c.loop-count.invariant.left in
    let h : IsStepBy u w.new.cursor c.other_step.new.cursor out = subst (λ (kept : List ℕ). IsStepBy
    (through_process (abi_of kept c.args.pointer) (g.M.Memory.bytes c.args.memory.now) c.args.bits c.args.process.now) w.new.cursor
    c.other_step.new.cursor out) c.numbers-numbers.ensures (c.other_step.ensures.done (has-written c.other_step.result c.in-Written.is)) in
    let more : 2 ≤ c.other_step.new.cursor.stage = omega (arith, c.in-Some.ensures.ended) in
    let said = step-why u w.new.cursor c.other_step.new.cursor out h more in
    let same : c.in-Some.stop ≡ said.0 = c.in-Some.ensures.why said.0 said.1 in
    let stage : c.other_step.new.cursor.stage ≡ stop_number c.in-Some.stop + 1 =
    subst (λ (s : Stop). c.other_step.new.cursor.stage ≡ stop_number s + 1) (sym same) said.1 in
    ends u first p h.walked c.args.slots.now (slice_set slots count out) (count + 1) c.in-Some.stop
    (gives u first p h.walked c.args.slots.now slots count out left h.is h.shown)
    (omega (arith, w.ensures.within, c.if-count-slots.false, c.if-count-slots-2.false, length-set slots count out))
    (step-stop u w.new.cursor c.other_step.new.cursor out h c.in-Some.stop (stage, more))

pub loop-count-preserved : goal.loop-count-preserved
loop-count-preserved g c =
    let u : Unwinding =
    through_process (abi_of c.args.kept.now c.args.pointer) (g.M.Memory.bytes c.args.memory.now) c.args.bits c.args.process.now in
    let first : Place = place_of c.args.cursor.now in
    let w = c.write_usual_steps-count in
    let p : Place = place_of w.new.cursor in
    let slots = w.new.slots in let count = w.result in let out = c.other_step.new.out in
    let left = w.ensures.left first c.args.slots.now c.loop-count.invariant.left in
    let h : IsStepBy u w.new.cursor c.other_step.new.cursor out = subst (λ (kept : List ℕ). IsStepBy
    (through_process (abi_of kept c.args.pointer) (g.M.Memory.bytes c.args.memory.now) c.args.bits c.args.process.now) w.new.cursor
    c.other_step.new.cursor out) c.numbers-numbers.ensures (c.other_step.ensures.done (has-written c.other_step.result c.in-Written.is)) in
    let le : c.other_step.new.cursor.stage ≤ 1 = c.in_default.ensures.none in
    record {
      left = left-at u first p (place_of c.other_step.new.cursor) h.walked c.args.slots.now (slice_set slots count out) (count + 1)
          (gives u first p h.walked c.args.slots.now slots count out left h.is h.shown)
          (step-place u w.new.cursor c.other_step.new.cursor out h le);
      begun = le;
      few = omega (arith, w.ensures.within, c.if-count-slots.false, length-set slots count out);
    }
