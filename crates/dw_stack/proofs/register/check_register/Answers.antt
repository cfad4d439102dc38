use Rattle.std.proofs.Common.{sym, subst, arith}
use Rattle.std.proofs.lemmas.Grind.{common_steps}
use Rattle.dw_ops.specs.Views.{bytes_of, target_of}
use Rattle.dw_stack.specs.declared.state.Kind.TheVariants.{Location}
use Rattle.dw_stack.specs.Expressions.{Checked, IsChecked}
use Rattle.dw_stack.proofs.Named.{none_if_good}
use Rattle.dw_stack.proofs.Registers.{alone, register_checked}
use Rattle.dw_stack.proofs.register.check_register.Goals as goal

pub new-requires : goal.new-requires
new-requires c = register_checked c.args.expression (grind (arith, common_steps)) (grind (arith, common_steps)) (grind (arith, common_steps))

pub returns-clause-checked : goal.returns-clause-checked
returns-clause-checked c =
    let here : IsChecked (alone c.args.expression) = register_checked c.args.expression (grind (arith, common_steps))
    (grind (arith, common_steps)) (grind (arith, common_steps)) in
    subst (λ (x : Checked). IsChecked x) (sym c.new.ensures) here

pub returns-clause-good : goal.returns-clause-good
returns-clause-good c =
    let here : IsChecked (alone c.args.expression) = register_checked c.args.expression (grind (arith, common_steps))
    (grind (arith, common_steps)) (grind (arith, common_steps)) in
    none_if_good Location (target_of c.args.expression) (bytes_of c.args.expression) here.good
