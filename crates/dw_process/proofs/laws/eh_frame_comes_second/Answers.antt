use Rattle.dw_eh_rows.specs.Signals.{is_signal_at}
use Rattle.dw_signed_rows.specs.SignedRanges.{has_signed}
use Rattle.dw_unwind.specs.Modules.{as_linked}
use Rattle.dw_process.proofs.TwoTables.{marks_there, second_row_found}
use Rattle.dw_process.proofs.laws.eh_frame_comes_second.Goals as goal

pub returns : goal.returns
returns c = record {
  row = λ debug_frame eh_frame m address tables none.
      second_row_found debug_frame eh_frame m (as_linked m.rows.target m.load_address address) tables none;
  signals = λ debug_frame eh_frame m address tables none. let a = as_linked m.rows.target m.load_address address in
      marks_there debug_frame eh_frame m a tables none (is_signal_at m.marks.signals a);
  signed = λ debug_frame eh_frame m address tables none. let a = as_linked m.rows.target m.load_address address in
      marks_there debug_frame eh_frame m a tables none (has_signed m.marks.signed a);
}
