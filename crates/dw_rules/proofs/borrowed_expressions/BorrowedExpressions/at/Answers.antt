use Rattle.std.proofs.Common.{◌≡◌, Some, None, sym, subst}
use Rattle.std.specs.Prelude.{MatchOption}
use Rattle.dw_stack.specs.Located.{located_of, all_located}
use Rattle.dw_rules.proofs.ExpressionsByOffset.{in-front, not-in-front}
use Rattle.dw_rules.proofs.borrowed_expressions.BorrowedExpressions.at.Goals as goal

pub returns-in-Some : goal.returns-in-Some
returns-in-Some c =
    let lent = c.args.self.now in
    in-front (all_located lent.cies.now) (all_located lent.fdes.now) c.args.offset
    (located_of (c.args.offset, c.in-Some.checked)) c.in-Some.ensures

pub returns : goal.returns
returns c =
    let lent = c.args.self.now in
    subst (λ o. MatchOption c.find_borrowed-2.result (o ≡ None) (λ checked. o ≡ Some (located_of (c.args.offset, checked))))
    (sym (not-in-front (all_located lent.cies.now) (all_located lent.fdes.now) c.args.offset c.in_default.ensures)) c.find_borrowed-2.ensures
