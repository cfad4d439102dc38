use Rattle.std.proofs.Common.{◌≡◌, ℕ, ◌<◌, ◌≤◌, List, [], length, refl, sym, ap, subst, ◌∙◌, arith, rules}
use Rattle.std.specs.Prelude.{◌==◌}
use Rattle.dw_ops.specs.Views.{bytes_of}
use Rattle.dw_stack.specs.declared.state.Kind.TheVariants.{Location}
use Rattle.dw_stack.specs.Machine.{GivesResult}
use Rattle.dw_eval.specs.Environments.{world_in}
use Rattle.dw_eval.specs.StackChanges.{error_of}
use Rattle.dw_eval.specs.Results.{result_of}
use Rattle.dw_eval.specs.Views.{outcome_of}
use Rattle.dw_eval.specs.Steps.{configuration_of}
use Rattle.dw_eval.proofs.Going.{one_more, few_steps, ends, finished, finished_fits, failed}
use Rattle.dw_eval.proofs.Loop.{same_end, ahead_here, can_step_here, goes_to, goes_past}
use Rattle.dw_eval.proofs.description.run_location.Goals as goal

-- what the loop's test says about the length of `seen` holds for the length of the expression's
-- bytes
before : (at : ℕ) (bytes seen : List ℕ) → seen ≡ bytes → at < length seen → at < length bytes
before at bytes seen is test = subst (λ (xs : List ℕ). at < length xs) is test

after : (at : ℕ) (bytes seen : List ℕ) → seen ≡ bytes → length seen ≤ at → length bytes ≤ at
after at bytes seen is test = subst (λ (xs : List ℕ). length xs ≤ at) is test

pub overflow_add-steps : goal.overflow_add-steps
overflow_add-steps g c =
    let e = world_in g.R.Registers.contents g.M.Memory.bytes c.args.environment.now in
    let test = before c.loop-at.at (bytes_of c.args.expression.now) c.bytes.result.now c.bytes.ensures c.loop-at-test.true in
    omega (
      arith,
      one_more e Location
          (bytes_of c.args.expression.now) c.requires.can.depth c.requires.can.good c.requires.can.runs c.args.expression.now.short [] refl
          c.loop-at.steps (configuration_of c.loop-at.at c.loop-at.run []) c.loop-at.invariant test,
      few_steps e Location
          (bytes_of c.args.expression.now) c.requires.can.depth c.requires.can.good c.requires.can.runs c.args.expression.now.short [] refl,
      c.args.expression.now.short,
    )

pub step-requires : goal.step-requires
step-requires g c =
    let e = world_in g.R.Registers.contents g.M.Memory.bytes c.args.environment.now in
    let test = before c.loop-at.at (bytes_of c.args.expression.now) c.bytes.result.now c.bytes.ensures c.loop-at-test.true in
    let can = can_step_here e c.args.expression.now c.requires.can.depth c.requires.can.good c.requires.can.runs c.requires.can.target
    c.loop-at.steps c.loop-at.at c.loop-at.run [] c.loop-at.invariant test c.requires.can.room in
    (search rules, (test, (can, c.loop-at.invariant.fits.stack)))

pub loop-at-preserved : goal.loop-at-preserved
loop-at-preserved g c =
    let e = world_in g.R.Registers.contents g.M.Memory.bytes c.args.environment.now in
    let test = before c.loop-at.at (bytes_of c.args.expression.now) c.bytes.result.now c.bytes.ensures c.loop-at-test.true in
    (goes_to e c.args.expression.now c.requires.can.depth c.requires.can.good c.requires.can.runs c.requires.can.target c.loop-at.steps
    c.loop-at.at c.loop-at.run [] c.loop-at.invariant test c.in-Ok.step c.step.new.self c.in-Ok.ensures c.in-To.to c.in-To.is).0

pub loop-at-smaller : goal.loop-at-smaller
loop-at-smaller g c =
    let e = world_in g.R.Registers.contents g.M.Memory.bytes c.args.environment.now in
    let test = before c.loop-at.at (bytes_of c.args.expression.now) c.bytes.result.now c.bytes.ensures c.loop-at-test.true in
    omega (
      arith,
      (goes_to e c.args.expression.now c.requires.can.depth c.requires.can.good c.requires.can.runs c.requires.can.target c.loop-at.steps
          c.loop-at.at c.loop-at.run [] c.loop-at.invariant test c.in-Ok.step c.step.new.self c.in-Ok.ensures c.in-To.to c.in-To.is).1,
      c.loop-at-test.true,
    )

pub run_location_on-requires : goal.run_location_on-requires
run_location_on-requires g c =
    let e = world_in g.R.Registers.contents g.M.Memory.bytes c.args.environment.now in
    let test = before c.loop-at.at (bytes_of c.args.expression.now) c.bytes.result.now c.bytes.ensures c.loop-at-test.true in
    let way = (goes_past e c.args.expression.now c.requires.can.depth c.requires.can.good c.requires.can.runs c.requires.can.target
    c.loop-at.steps c.loop-at.at c.loop-at.run [] c.loop-at.invariant test c.in-Ok.step c.step.new.self c.in-Ok.ensures c.in-Ends.piece
    c.in-Ends.to c.in-Ends.is).0 in
    let some : 0 < length (bytes_of c.args.expression.now) = omega (arith, test) in
    (search rules, (c.requires.can, (some, way)))

pub returns-in-Err : goal.returns-in-Err
returns-in-Err g c =
    let e = world_in g.R.Registers.contents g.M.Memory.bytes c.args.environment.now in
    let test = before c.loop-at.at (bytes_of c.args.expression.now) c.bytes.result.now c.bytes.ensures c.loop-at-test.true in
    let ahead = ahead_here e Location c.args.expression.now c.requires.can.depth c.requires.can.good c.requires.can.runs
    c.requires.can.target [] refl c.loop-at.steps
    (configuration_of c.loop-at.at c.loop-at.run []) c.loop-at.invariant test c.in-Err.ensures.operation c.in-Err.ensures.next
    c.in-Err.ensures.read in
    record {
      run = failed e Location
          (bytes_of c.args.expression.now) c.requires.can.depth c.requires.can.good c.requires.can.runs c.args.expression.now.short [] refl
          c.loop-at.steps (configuration_of c.loop-at.at c.loop-at.run []) c.in-Err.ensures.operation c.in-Err.ensures.next
          (error_of c.in-Err.why)
          (outcome_of c.outcome_without_answer.result) c.loop-at.invariant ahead c.in-Err.ensures.answered c.outcome_without_answer.ensures;
      steps = one_more e Location
          (bytes_of c.args.expression.now) c.requires.can.depth c.requires.can.good c.requires.can.runs c.args.expression.now.short [] refl
          c.loop-at.steps (configuration_of c.loop-at.at c.loop-at.run []) c.loop-at.invariant test;
      fits = search rules;
    }

pub result-requires : goal.result-requires
result-requires g c =
    let e = world_in g.R.Registers.contents g.M.Memory.bytes c.args.environment.now in
    let past = after c.loop-at.at (bytes_of c.args.expression.now) c.bytes.result.now c.bytes.ensures c.loop-at-test.false in
    let end = ends e Location
    (bytes_of c.args.expression.now) c.requires.can.depth c.requires.can.good c.requires.can.runs c.args.expression.now.short [] refl
    c.loop-at.steps (configuration_of c.loop-at.at c.loop-at.run []) c.loop-at.invariant past in
    let gives = subst (λ (xs : List ℕ). GivesResult Location (length xs == 0) (configuration_of 0 c.loop-at.run [])) (sym c.bytes.ensures)
    (same_end (length (bytes_of c.args.expression.now) == 0) c.loop-at.at c.loop-at.run [] end) in
    (search rules, gives)

pub returns : goal.returns
returns g c =
    let e = world_in g.R.Registers.contents g.M.Memory.bytes c.args.environment.now in
    let past = after c.loop-at.at (bytes_of c.args.expression.now) c.bytes.result.now c.bytes.ensures c.loop-at-test.false in
    let gives = ap (λ (xs : List ℕ). result_of Location (length xs == 0) (configuration_of 0 c.loop-at.run [])) c.bytes.ensures in
    record {
      run = finished e Location
          (bytes_of c.args.expression.now) c.requires.can.depth c.requires.can.good c.requires.can.runs c.args.expression.now.short [] refl
          c.loop-at.steps (configuration_of c.loop-at.at c.loop-at.run []) _ c.loop-at.invariant past (c.result.ensures ∙ gives);
      steps = search rules;
      fits = finished_fits e Location
          (bytes_of c.args.expression.now) c.requires.can.depth c.requires.can.good c.requires.can.runs c.args.expression.now.short [] refl
          c.loop-at.steps (configuration_of c.loop-at.at c.loop-at.run []) _ c.loop-at.invariant past (c.result.ensures ∙ gives);
    }
