use Rattle.dw_bytes.specs.Answers.{values_in}
use Rattle.dw_eh_frame.specs.Records.{all_in_dwarf, eh_records_of}
use Rattle.dw_eh_frame.proofs.CopiesKept.{cie-kept, fde-kept, none-added}
use Rattle.dw_eh_frame.proofs.laws.only_copies_are_left_out.Goals as goal

pub returns : goal.returns
returns c = record {
  cies = λ a bases target section. cie-kept (all_in_dwarf (values_in (eh_records_of a bases target section)));
  fdes = λ a bases target section. fde-kept (all_in_dwarf (values_in (eh_records_of a bases target section)));
  only = λ a bases target section. none-added (all_in_dwarf (values_in (eh_records_of a bases target section)));
}
