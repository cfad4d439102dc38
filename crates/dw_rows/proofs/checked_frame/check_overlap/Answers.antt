use Rattle.std.proofs.Common.{map}
use Rattle.dw_frame.specs.Views.{fde_of}
use Rattle.dw_rows.proofs.sections.Clashes.{none-overlap, first-overlaps}
use Rattle.dw_rows.proofs.checked_frame.check_overlap.Goals as goal

pub returns-in-Some : goal.returns-in-Some
returns-in-Some c = first-overlaps (map fde_of c.args.fdes.now) (fde_of c.in-Some.fde) c.requires.fdes c.in-Some.ensures

pub returns-in-None : goal.returns-in-None
returns-in-None c = none-overlap (map fde_of c.args.fdes.now) c.in-None.ensures
