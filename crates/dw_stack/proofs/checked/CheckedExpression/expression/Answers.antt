use Rattle.std.proofs.Common.{ℕ, List, sym, subst}
use Rattle.dw_bytes.specs.declared.target.Target.{Target}
use Rattle.dw_ops.specs.Views.{bytes_of}
use Rattle.dw_stack.specs.Expressions.{IsGoodExpression}
use Rattle.dw_stack.specs.Certificates.{checked_of}
use Rattle.dw_stack.proofs.Stable.{checked_stable}
use Rattle.dw_stack.proofs.checked.CheckedExpression.expression.Goals as goal

pub returns-clause-good : goal.returns-clause-good
returns-clause-good c =
    let it = checked_of c.args.self.now in
    subst (λ (t : Target). IsGoodExpression it.kind t (bytes_of c.new.result)) (sym c.new.ensures.target)
    (subst (λ (xs : List ℕ). IsGoodExpression it.kind it.target xs) (sym c.new.ensures.bytes)
    (checked_stable it c.args.self.now.checked).good)
