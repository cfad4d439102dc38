use Rattle.dw_stack.proofs.Named.{none_if_good, good_if_none, first_if_some, some_if_first}
use Rattle.dw_stack.proofs.laws.the_fault_is_the_first.Goals as goal

pub returns : goal.returns
returns c = record {
  none = λ kind target bytes. (good_if_none kind target bytes, none_if_good kind target bytes);
  some = λ kind target bytes f. (first_if_some kind target bytes f, some_if_first kind target bytes f);
}
