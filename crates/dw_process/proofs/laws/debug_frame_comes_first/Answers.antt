use Rattle.dw_eh_rows.specs.Signals.{is_signal_at}
use Rattle.dw_signed_rows.specs.SignedRanges.{has_signed}
use Rattle.dw_unwind.specs.Modules.{as_linked}
use Rattle.dw_process.proofs.TwoTables.{first_row_found, no_marks_there}
use Rattle.dw_process.proofs.laws.debug_frame_comes_first.Goals as goal

pub returns : goal.returns
returns c = record {
  row = λ debug_frame eh_frame m address f tables among covers.
      first_row_found debug_frame eh_frame m (as_linked m.rows.target m.load_address address) tables f among covers;
  no_signal = λ debug_frame eh_frame m address f tables among covers. let a = as_linked m.rows.target m.load_address address in
      no_marks_there debug_frame eh_frame m a tables f among covers (is_signal_at m.marks.signals a);
  unsigned = λ debug_frame eh_frame m address f tables among covers. let a = as_linked m.rows.target m.load_address address in
      no_marks_there debug_frame eh_frame m a tables f among covers (has_signed m.marks.signed a);
}
