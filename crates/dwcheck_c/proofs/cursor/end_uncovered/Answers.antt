use Rattle.std.proofs.Common.{◌∙◌, [], ap}
use Rattle.dw_c_types.specs.Frames.{cframe_by}
use Rattle.dwcheck_c.proofs.cursor.end_uncovered.Goals as goal

pub returns-clause-frame : goal.returns-clause-frame
returns-clause-frame c = c.c_frame_of.ensures ∙ ap cframe_by (c.brief.ensures [])
