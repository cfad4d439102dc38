use Rattle.dw_c_types.proofs.FirstBlock.{if_first_has}
use Rattle.dw_c_types.proofs.memory.Blocks.read_first.Goals as goal

pub returns-in_default : goal.returns-in_default
returns-in_default c =
    rw (← c.self.view_is) (if_first_has c.self.inside.first c.self.inside.blocks.now c.read.result c.args.order c.args.address c.args.size
    c.self.invariant.0 c.read.ensures)
