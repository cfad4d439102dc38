use Rattle.std.proofs.Common.{◌≡◌, List, Some, None, sym, subst}
use Rattle.std.specs.Prelude.{MatchOption}
use Rattle.dw_stack.specs.Located.{LocatedExpression, located_of}
use Rattle.dw_rules.specs.Expressions.{expression_at}
use Rattle.dw_rules.proofs.ExpressionsByOffset.{in-front, not-in-front}
use Rattle.dw_rules.proofs.owned_expressions.OwnedExpressions.at.Goals as goal

pub returns-in-Some : goal.returns-in-Some
returns-in-Some c =
    subst (λ (l : List LocatedExpression). expression_at l c.args.offset ≡ Some (located_of (c.args.offset, c.in-Some.checked)))
    c.self.view_is
    (in-front c.self.inside.cies c.self.inside.fdes c.args.offset (located_of (c.args.offset, c.in-Some.checked)) c.in-Some.ensures)

pub returns : goal.returns
returns c =
    subst (λ (l : List LocatedExpression). MatchOption c.at-2.result (expression_at l c.args.offset ≡ None)
    (λ checked. expression_at l c.args.offset ≡ Some (located_of (c.args.offset, checked)))) c.self.view_is
    (subst (λ o. MatchOption c.at-2.result (o ≡ None) (λ checked. o ≡ Some (located_of (c.args.offset, checked))))
    (sym (not-in-front c.self.inside.cies c.self.inside.fdes c.args.offset c.in_default.ensures)) c.at-2.ensures)
