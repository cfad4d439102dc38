use Rattle.std.proofs.Common.{refl}
use Rattle.dw_unwind.specs.WalkViews.{frame_with}
use Rattle.dw_unwind.proofs.walk.Walk.advance.Goals as goal

pub returns-then-not-self-clause-gives : goal.returns-then-not-self-clause-gives
returns-then-not-self-clause-gives g c =
    let w = c.self.inside in
    rw (← c.self.view_is, c.if-not-self.true) (frame_with w.address w.is_other w.one w.other w.unwound, refl, refl)
