use Rattle.dw_rows.proofs.programs.Programs.{good-from-cie, cie-from-good, good-from-fde, fde-from-good}
use Rattle.dw_rows.proofs.laws.good_programs_have_no_fault.Goals as goal

pub returns : goal.returns
returns c = record {
  cie = λ cie. ((λ h. good-from-cie cie h), (λ g. cie-from-good cie g));
  fde = λ cie fde none. ((λ h. good-from-fde cie fde (good-from-cie cie none) h), (λ g. fde-from-good cie fde g));
}
