use Rattle.std.proofs.Common.{ℕ, List}
use Rattle.std.specs.Prelude.{Result, Ok, Err, OnOk, IfOk}
use Rattle.dw_bytes.specs.declared.target.Target.{Target}
use Rattle.dw_bytes.specs.declared.fault.Fault.{Fault}
use Rattle.dw_ops.specs.Views.{bytes_of, target_of}
use Rattle.dw_stack.specs.declared.state.Kind.{Kind}
use Rattle.dw_stack.specs.declared.certificate.Certificate.{Certificate}
use Rattle.dw_stack.specs.Expressions.{IsGoodExpression, IsChecked, IsOf}
use Rattle.dw_stack.specs.Certificates.{checked_in}
use Rattle.dw_stack.proofs.Named.{answers_for, good_of}
use Rattle.dw_stack.proofs.verify.certify_all_paths.Goals as goal

good_if_ok : (kind : Kind) (target : Target) (bytes : List ℕ) (r : Result Certificate Fault) → IfOk r (λ c. IsChecked (checked_in c))
    → IfOk r (λ c. IsOf kind target bytes (checked_in c)) → OnOk r (IsGoodExpression kind target bytes)
good_if_ok kind target bytes (Ok c) checked is = good_of kind target bytes (checked_in c) checked is
good_if_ok kind target bytes (Err f) checked is = tt

pub returns-clause-answer : goal.returns-clause-answer
returns-clause-answer c = answers_for c.args.kind (target_of c.args.expression) (bytes_of c.args.expression) c.check_with_states.result
    (good_if_ok c.args.kind (target_of c.args.expression)
    (bytes_of c.args.expression) c.check_with_states.result
    c.check_with_states.ensures.checked c.check_with_states.ensures.same) c.check_with_states.ensures.fault
