use Rattle.dw_unwind.specs.CallerViews.{answer_in, machine_in}
use Rattle.dw_unwind.proofs.Places.{whether-far}
use Rattle.dw_unwind.proofs.missing_places.some_lacks_place.Goals as goal

pub returns-then-kept_lack_place : goal.returns-then-kept_lack_place
returns-then-kept_lack_place g c = rw c.if-kept_lack_place.true at c.kept_lack_place.ensures

pub returns-then-pointer_lacks_place : goal.returns-then-pointer_lacks_place
returns-then-pointer_lacks_place g c = rw c.if-pointer_lacks_place.true at c.pointer_lacks_place.ensures

pub returns : goal.returns
returns g c =
    whether-far (machine_in g.R.Registers.contents g.M.Memory.bytes c.args.present.now) (answer_in c.args.cfa) c.args.kept.now
    c.args.stack_pointer c.args.rules c.ruled_lack_place.result (rw c.if-kept_lack_place.false at c.kept_lack_place.ensures)
    (rw c.if-pointer_lacks_place.false at c.pointer_lacks_place.ensures) c.ruled_lack_place.ensures
