use Rattle.dw_rules.proofs.AbiRules.{abi-stands}
use Rattle.dw_rows.proofs.sections.Standing.{cie-stands, fde-stands, read-stand, section-stands}
use Rattle.dw_rows.proofs.laws.frame_faults_stand_inside.Goals as goal

pub returns : goal.returns
returns c = record { cie = cie-stands; fde = fde-stands; parts = read-stand; section = section-stands; abi = abi-stands }
