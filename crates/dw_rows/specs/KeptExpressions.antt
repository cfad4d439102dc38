-- The expressions that a list of the code's type `CheckedExpressions` holds.
use Rattle.std.specs.Prelude.{List, [], Some, None}
use Rattle.dw_stack.specs.Located.{LocatedExpression, all_located}
use Rattle.dw_rows.specs.declared.checked_expressions.Kept.{Kept}
use Rattle.dw_rows.specs.declared.checked_expressions.Kept.TheVariants.{Few, Many}

abbrev pub kept_in : Kept → List LocatedExpression
kept_in (Few None) = []
kept_in (Few (Some few)) = all_located few
kept_in (Many many) = all_located many.items
