-- The list of expressions that a value of the code's type `BorrowedExpressions` stands for.
use Rattle.std.specs.Prelude.{List, ◌++◌}
use Rattle.dw_stack.specs.Located.{LocatedExpression, all_located}
use Rattle.dw_rules.specs.declared.borrowed_expressions.BorrowedExpressions.{BorrowedExpressions}

-- the expressions of the section's CIEs, followed by those of its FDEs
abbrev pub borrowed_by : BorrowedExpressions → List LocatedExpression
borrowed_by x = all_located x.cies.now ++ all_located x.fdes.now
