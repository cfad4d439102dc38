use Rattle.dwcheck_c.proofs.UsualWalks.{usual-walks}
use Rattle.dwcheck_c.proofs.backtrace.walks_without_signal_frames.Goals as goal

pub returns : goal.returns
returns c = usual-walks
