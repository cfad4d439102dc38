use Rattle.dwcheck_c.proofs.CursorWalks.{ends, fills}
use Rattle.dwcheck_c.proofs.cursor.steps_are_a_backtrace.Goals as goal

pub returns : goal.returns
returns c = record { fills = fills; ends = ends }
