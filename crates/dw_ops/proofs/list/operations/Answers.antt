use Rattle.std.proofs.Common.{◌≡◌, ◌∙◌, ◌∷◌, ◌++◌, [], List, ℕ, sym, ap, arith, length, map, ◌⊎◌, inr, rules, Some}
use Rattle.std.proofs.lemmas.List.{append-nil}
use Rattle.dw_bytes.specs.Answers.{fault_in, memory, values_in}
use Rattle.dw_ops.specs.declared.operation.Operation as coded
use Rattle.dw_ops.specs.Opcodes.{operations_of}
use Rattle.dw_ops.specs.Views.{reading_from, operation_of, located_of}
use Rattle.dw_ops.proofs.Lists.{at-end, at-fault, at-operation, grown}
use Rattle.dw_ops.proofs.list.operations.Goals as goal

pub loop-at-preserved : goal.loop-at-preserved
loop-at-preserved c =
    let e = c.args.expression.now in
    let step = at-operation e c.loop-at.at c.in_ok-operation.next (operation_of c.in_ok-operation.operation) c.in_ok-operation.ensures.exact in
    let rest = values_in (operations_of (reading_from e c.in_ok-operation.next)) in
    let pushed : c.push.new.self.items ≡ c.loop-at.list.items ++ (c.loop-at.at, c.in_ok-operation.operation) ∷ [] = search rules in
    record {
      within = c.in_ok-operation.ensures.forward.1;
      fault = c.loop-at.invariant.fault ∙ ap fault_in step;
      list = c.loop-at.invariant.list ∙ (ap (λ l. map located_of c.loop-at.list.items ++ values_in l) step
          ∙ (grown located_of c.loop-at.list.items (c.loop-at.at, c.in_ok-operation.operation) rest
          ∙ ap (λ (l : List (ℕ × coded.Operation)). map located_of l ++ rest) (sym pushed)));
    }

pub returns-in_err-operation-clause-answer : goal.returns-in_err-operation-clause-answer
returns-in_err-operation-clause-answer c =
    let long = ap length c.bytes.ensures in
    let fault = c.in_err-operation.field-0.0 in
    let stop = at-fault c.args.expression.now c.loop-at.at fault (omega arith) c.in_err-operation.ensures.exact in
    let first : (fault ≡ memory) ⊎ (fault_in (operations_of (reading_from c.args.expression.now 0)) ≡ Some fault) =
    inr (c.loop-at.invariant.fault ∙ ap fault_in stop) in
    search (rules, first)

pub returns-clause-answer : goal.returns-clause-answer
returns-clause-answer c =
    let long = ap length c.bytes.ensures in
    c.loop-at.invariant.fault ∙ ap fault_in (at-end c.args.expression.now c.loop-at.at (omega arith))

pub returns-clause-list : goal.returns-clause-list
returns-clause-list c =
    let long = ap length c.bytes.ensures in
    let none = at-end c.args.expression.now c.loop-at.at (omega arith) in
    let all = map located_of c.loop-at.list.items in
    sym (c.loop-at.invariant.list ∙ (ap (λ l. all ++ values_in l) none ∙ append-nil all))
