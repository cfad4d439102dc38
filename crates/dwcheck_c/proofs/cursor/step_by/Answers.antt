use Rattle.std.proofs.Common.{◌∙◌, List, ap, subst, ℕ}
use Rattle.dw_rules.specs.Abi.{abi_of}
use Rattle.dw_unwind.specs.Contents.{File}
use Rattle.dw_unwind.specs.MissingPlaces.{LacksPlace}
use Rattle.dw_unwind.specs.Walks.{CallerRelation}
use Rattle.dw_c_types.specs.ProcessWalks.{Unwinding, over_process, through_process}
use Rattle.dwcheck_c.specs.declared.cursor.CCursor.{CCursor}
use Rattle.dwcheck_c.specs.WalkCursors.{IsStepBy, looked_up_by, registers_in}
use Rattle.dwcheck_c.proofs.cursor.step_by.Goals as goal

pub returns-in-Some-clause-done : goal.returns-in-Some-clause-done
returns-in-Some-clause-done g c = λ _. c.in-Some.ensures.steps c.args.cursor.now.reserved

pub returns-clause-done : goal.returns-clause-done
returns-clause-done g c = λ some.
    let old : CCursor = c.args.cursor.now in
    let with : File → CCursor = λ f. record { registers = f; address = old.address; stage = old.stage; reserved = old.reserved } in
    let u : List ℕ → Unwinding =
    λ kept. through_process (abi_of kept c.args.stack_pointer) (g.M.Memory.bytes c.args.memory.now) c.args.bits c.args.process.now in
    subst (λ (from : CCursor). IsStepBy (u c.args.kept.now) from c.other_step.new.cursor c.other_step.new.out)
    (ap with (c.in_default.ensures.steps 0))
    (subst (λ (kept : List ℕ). IsStepBy (u kept) (with c.usual_step.new.file) c.other_step.new.cursor c.other_step.new.out)
    c.numbers-kept.ensures (c.other_step.ensures.done some))

pub returns-clause-lacks : goal.returns-clause-lacks
returns-clause-lacks g c = λ is.
    let old : CCursor = c.args.cursor.now in
    let with : File → CCursor = λ f. record { registers = f; address = old.address; stage = old.stage; reserved = old.reserved } in
    let u : List ℕ → CallerRelation =
    λ kept. over_process (abi_of kept c.args.stack_pointer) (g.M.Memory.bytes c.args.memory.now) c.args.process.now in
    subst (λ (from : CCursor). LacksPlace (u c.args.kept.now) (registers_in from) (looked_up_by from.stage from.address))
    (ap with (c.in_default.ensures.steps 0))
    (subst (λ (kept : List ℕ). LacksPlace (u kept) (registers_in (with c.usual_step.new.file)) (looked_up_by old.stage old.address))
    c.numbers-kept.ensures (c.other_step.ensures.lacks is))

pub returns-clause-unwritten : goal.returns-clause-unwritten
returns-clause-unwritten g c = λ is.
    let old : CCursor = c.args.cursor.now in
    let with : File → CCursor = λ f. record { registers = f; address = old.address; stage = old.stage; reserved = old.reserved } in
    let same = c.other_step.ensures.unwritten is in (same.0 ∙ ap with (c.in_default.ensures.steps 0), same.1)
