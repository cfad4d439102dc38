use Rattle.std.proofs.Common.{rules}
use Rattle.dw_stack.specs.Views.{placed_in}
use Rattle.dw_stack.specs.OperationCheck.{TargetObjects}
use Rattle.dw_stack.proofs.Checking.{objects_unsuited, objects_target}
use Rattle.dw_stack.proofs.operation_check.check_operation.Goals as goal

pub returns-in_err-height-clause-err : goal.returns-in_err-height-clause-err
returns-in_err-height-clause-err c =
    let bad = objects_unsuited c.args.kind
    (placed_in c.args.operations.now) c.args.end c.args.i c.args.pieces c.args.state c.effect_at-effect.result
    c.effect_at-effect.ensures.effect c.in_err-height.field-0.0 c.in_err-height.ensures.err in
    search rules

pub returns-in_err-place_of_jump-in-Some-clause-err : goal.returns-in_err-place_of_jump-in-Some-clause-err
returns-in_err-place_of_jump-in-Some-clause-err c =
    let none : TargetObjects (placed_in c.args.operations.now) c.args.end c.args.i c.in-Some.jump c.in_err-place_of_jump-in-Some.field-0.0 =
    search rules in
    let bad = objects_target c.args.kind
    (placed_in c.args.operations.now) c.args.end c.args.i c.args.pieces c.args.state c.effect_at-effect.result
    c.effect_at-effect.ensures.effect c.in_ok-height.height c.in_ok-height.ensures.ok c.in-Some.jump
    c.in_err-place_of_jump-in-Some.field-0.0 c.in-Some.is none in
    search rules
