use Rattle.std.proofs.Common.{ℕ, ◌+◌, ◌-◌, ◌≤◌, List, length, get_or, sym, ap, subst, arith, rules}
use Rattle.std.specs.Option.{option_map}
use Rattle.dw_ops.specs.Operations.{Operation, breg}
use Rattle.dw_ops.specs.Views.{operation_of, reading_from}
use Rattle.dw_stack.specs.Effects.{effect_of}
use Rattle.dw_stack.specs.Machine.{CanDo}
use Rattle.dw_eval.specs.OperationsWithoutOperands.{LeavesAlone}
use Rattle.dw_eval.specs.StackChanges.{error_of}
use Rattle.dw_eval.specs.Environments.{world_in}
use Rattle.dw_eval.specs.Views.{location_description_of}
use Rattle.dw_eval.proofs.Ahead.{same_read}
use Rattle.dw_eval.proofs.Codes.{bare_has, bare_moves, bare_fails, alone_moves, can_read, applied_at, if_so, if_not}
use Rattle.dw_eval.proofs.run.Run.step.Goals as goal

pub execute_without_operands-requires : goal.execute_without_operands-requires
execute_without_operands-requires g c =
    let here = c.requires.can.executes in
    let needs = bare_has c.args.expression.now c.args.at _ here.operation here.next
    (λ (op : Operation). (effect_of op).needs ≤ length c.args.self.now.stack) c.requires.inside
    (ap (λ (xs : List ℕ). get_or xs c.args.at 0) (sym c.bytes.ensures)) here.read here.can.needs in
    let room = bare_has c.args.expression.now c.args.at _ here.operation here.next
    (λ (op : Operation). length c.args.self.now.stack - (effect_of op).takes + (effect_of op).adds ≤ g.row.PLACES) c.requires.inside
    (ap (λ (xs : List ℕ). get_or xs c.args.at 0) (sym c.bytes.ensures)) here.read here.can.room in
    (search rules, (needs, (room, c.requires.below)))

pub returns-in_err-execute_without_operands : goal.returns-in_err-execute_without_operands
returns-in_err-execute_without_operands g c =
    let e = world_in g.R.Registers.contents g.M.Memory.bytes c.args.environment.now in
    let fails = bare_fails e c.args.expression.now c.args.at _ c.args.self.now.stack
    (error_of c.in_err-execute_without_operands.field-0.0) c.requires.inside
    (ap (λ (xs : List ℕ). get_or xs c.args.at 0) (sym c.bytes.ensures)) c.in_err-execute_without_operands.ensures in
    search rules

pub returns-then-branch : goal.returns-then-branch
returns-then-branch g c =
    let e = world_in g.R.Registers.contents g.M.Memory.bytes c.args.environment.now in
    bare_moves e c.args.expression.now c.args.at _ c.args.self.now c.execute_without_operands.new.stack c.requires.inside
    (ap (λ (xs : List ℕ). get_or xs c.args.at 0) (sym c.bytes.ensures)) c.requires.can
    (if_so _ _ _ c.if-branch.true c.in_ok-execute_without_operands.ensures)

pub execute_base_register-requires : goal.execute_base_register-requires
execute_base_register-requires g c =
    let same = if_not _ _ _ c.if-branch.false c.in_ok-execute_without_operands.ensures in
    let can = can_read c.args.expression.now g.row.PLACES c.args.at c.args.self.now.stack c.execute_without_operands.new.stack
    (breg c.in-Some.found.register c.in-Some.found.offset) c.in-Some.found.next c.requires.can.executes same c.in-Some.ensures in
    omega (arith, can.room)

pub returns-in-Some : goal.returns-in-Some
returns-in-Some g c =
    let e = world_in g.R.Registers.contents g.M.Memory.bytes c.args.environment.now in
    let same = if_not _ _ _ c.if-branch.false c.in_ok-execute_without_operands.ensures in
    let op = breg c.in-Some.found.register c.in-Some.found.offset in
    alone_moves e c.args.expression.now c.args.at c.in-Some.found.next op c.args.self.now c.execute_base_register.new.stack
    c.in-Some.ensures c.requires.can
    (subst (λ (s : List ℕ). LeavesAlone e s c.execute_base_register.new.stack op) same c.in_ok-execute_base_register.ensures)

pub apply-requires : goal.apply-requires
apply-requires g c =
    let same = if_not _ _ _ c.if-branch.false c.in_ok-execute_without_operands.ensures in
    let can = can_read c.args.expression.now g.row.PLACES c.args.at c.args.self.now.stack c.execute_without_operands.new.stack
    (operation_of c.read_operation-next.result.0) c.read_operation-next.result.1 c.requires.can.executes
    same c.read_operation-next.ensures in
    let here = c.requires.can.executes in
    let one = same_read (reading_from c.args.expression.now c.args.at) here.operation (operation_of c.read_operation-next.result.0)
    (reading_from c.args.expression.now here.next) (reading_from c.args.expression.now c.read_operation-next.result.1) here.read
    c.read_operation-next.ensures in
    let pending = option_map location_description_of c.args.self.now.pending in
    let alone : CanDo (effect_of (operation_of c.read_operation-next.result.0)).role (length c.args.self.now.stack) pending =
    subst (λ (o : Operation). CanDo (effect_of o).role (length c.args.self.now.stack) pending) one.0 c.requires.can.can in
    (search rules, (can, (rw same alone, rw same c.requires.below)))

pub returns : goal.returns
returns g c =
    let e = world_in g.R.Registers.contents g.M.Memory.bytes c.args.environment.now in
    applied_at e c.args.expression.now c.args.at c.args.self.now c.execute_without_operands.new.stack c.apply.new.self
    (operation_of c.read_operation-next.result.0) c.read_operation-next.result.1 c.apply.result
    (if_not _ _ _ c.if-branch.false c.in_ok-execute_without_operands.ensures) c.read_operation-next.ensures c.apply.ensures
