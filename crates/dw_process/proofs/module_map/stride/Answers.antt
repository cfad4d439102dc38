use Rattle.std.proofs.Common.{refl}
use mir.Val.{bool_byte}
use Rattle.dw_process.proofs.Strides.{strides}
use Rattle.dw_process.proofs.module_map.stride.Goals as goal

pub returns : goal.returns
returns c = strides bool_byte refl refl c.args.firsts.now c.args.low c.args.quarter c.args.address c.requires.sorted c.requires.inside _ _
    _ refl refl refl _ _ _ c.from-first.ensures c.from-second.ensures c.from-third.ensures
