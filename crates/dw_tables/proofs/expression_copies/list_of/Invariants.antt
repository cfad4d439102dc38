use Rattle.std.proofs.Common.{◌≡◌, ◌+◌, take}
use Rattle.std.specs.List.{sum_by}
use Rattle.dw_stack.specs.Located.{all_located}
use Rattle.dw_tables.specs.UnwindTables.{expression_bytes}
use Rattle.dw_tables.proofs.expression_copies.list_of.Given as goal

abbrev pub invariant-loop-expression : goal.invariant-loop-expression
invariant-loop-expression l = record {
  list : l.list ≡ all_located (take l.expression-index l.expressions);
  stored : sum_by expression_bytes l.list + l.room ≡ l.fn.room;
}
