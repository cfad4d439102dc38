use Rattle.dw_eh_frame.proofs.ItemSteps.{items-have-their-cies}
use Rattle.dw_eh_frame.proofs.laws.items_have_their_cies.Goals as goal

pub returns : goal.returns
returns c = items-have-their-cies
