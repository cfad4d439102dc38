use Rattle.dw_ops.specs.Views.{bytes_of, target_of}
use Rattle.dw_stack.specs.Certificates.{checked_of}
use Rattle.dw_stack.proofs.Named.{good_of, none_if_good}
use Rattle.dw_stack.proofs.verify.check_expression.Goals as goal

pub returns-in-Some-clause-answer : goal.returns-in-Some-clause-answer
returns-in-Some-clause-answer c =
    let e = c.args.expression in
    none_if_good c.args.kind (target_of e) (bytes_of e)
    (good_of c.args.kind (target_of e) (bytes_of e) (checked_of c.in-Some.checked) c.in-Some.ensures.checked c.in-Some.ensures.same)
