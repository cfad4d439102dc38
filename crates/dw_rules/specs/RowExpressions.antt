-- The list of expressions that a value of the code's type `RowExpressions` stands for: the
-- expressions that the rules of a row can refer to.
use Rattle.std.specs.Prelude.{List}
use Rattle.dw_stack.specs.Located.{LocatedExpression}
use Rattle.dw_rules.specs.declared.row_expressions.RowExpressions.{RowExpressions}
use Rattle.dw_rules.specs.declared.row_expressions.RowExpressions.TheVariants.{Borrowed, Owned}
use Rattle.dw_rules.specs.BorrowedExpressions.{borrowed_by}

-- the expressions borrowed from a checked section, or those that a compiled table owns
abbrev pub row_expressions : RowExpressions → List LocatedExpression
row_expressions (Borrowed x) = borrowed_by x
row_expressions (Owned x) = x.now
