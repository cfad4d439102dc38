use Rattle.std.proofs.Common.{refl}
use mir.Val.{bool_byte}
use Rattle.dw_rows.proofs.sections.Indexes.{strides}
use Rattle.dw_rows.proofs.index.stride.Goals as goal

pub returns : goal.returns
returns c = strides bool_byte refl refl c.args.index.now c.args.low c.args.quarter c.args.address _ c.requires.sorted c.requires.inside _ _
    _ refl refl refl _ _ _ c.from-first.ensures c.from-second.ensures c.from-third.ensures
