use Rattle.dw_frame.proofs.CieAmong.{cie-found, cie-none, cie-fault}
use Rattle.dw_frame.proofs.laws.the_cie_at_an_offset.Goals as goal

pub returns : goal.returns
returns c = record { found = cie-found; none = cie-none; fault = cie-fault }
