use Rattle.std.proofs.Common.{ℕ, List, length, sym, ap, ◌∙◌, arith}
use Rattle.std.specs.List.{sum_by}
use Rattle.dw_stack.specs.Located.{LocatedExpression, located_of, all_located}
use Rattle.dw_tables.specs.UnwindTables.{expression_bytes}
use Rattle.dw_tables.proofs.TableRoom.{sum-next, lacks-more, still-lacks}
use Rattle.dw_tables.proofs.expression_copies.list_of.Goals as goal

pub returns-in_err-room-clause-short : goal.returns-in_err-room-clause-short
returns-in_err-room-clause-short c =
    let xs = c.args.expressions.now in
    let x = c.expression-item.result in
    let most = sum_by expression_bytes (all_located xs) in
    let why = c.in_err-room.field-0.0 in
    still-lacks c.from_residual.result why c.args.room.now most c.from_residual.ensures.1
    (lacks-more why c.loop-expression.room c.args.room.now _ most (λ less. omega (
      arith,
      less,
      c.loop-expression.invariant.stored,
      ap (λ (l : List LocatedExpression). sum_by expression_bytes l) c.loop-expression.invariant.list,
      ap (λ (l : List ℕ). length l) (c.bytes-bytes.ensures ∙ c.expression.ensures.bytes),
      sum-next expression_bytes located_of xs c.loop-expression.expression-index x c.loop-expression-test.true
          (sym c.expression-item.is),
    )) c.in_err-room.ensures.short)
