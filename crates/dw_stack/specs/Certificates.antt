-- What values of the code's types `CheckedExpression` and `Certificate` stand for.
use Rattle.std.specs.Prelude.{List}
use Rattle.dw_stack.specs.declared.state.State.{State}
use Rattle.dw_stack.specs.declared.checked.CheckedExpression.{CheckedExpression}
use Rattle.dw_stack.specs.declared.certificate.Certificate.{Certificate}
use Rattle.dw_stack.specs.Expressions.{Checked}

abbrev pub checked_of : CheckedExpression → Checked
checked_of c = record { kind = c.kind; target = c.target; bytes = c.bytes.now; depth = c.depth; count = c.count }

abbrev pub checked_in : Certificate → Checked
checked_in c = checked_of c.checked

abbrev pub states_in : Certificate → List State
states_in c = c.states.items
