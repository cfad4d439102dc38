use Rattle.dw_eh_rows.specs.Signals.{is_signal_at}
use Rattle.dw_signed_rows.specs.SignedRanges.{has_signed}
use Rattle.dw_unwind.specs.Modules.{as_linked}
use Rattle.dw_process.proofs.TwoTables.{one_marks, one_row}
use Rattle.dw_process.proofs.laws.one_section_gives_rows_and_marks.Goals as goal

pub returns : goal.returns
returns c = record {
  rows = λ m address alone. one_row m (as_linked m.rows.target m.load_address address) alone;
  signals = λ m address alone. let a = as_linked m.rows.target m.load_address address in one_marks m a (is_signal_at m.marks.signals a) alone;
  signed = λ m address alone. let a = as_linked m.rows.target m.load_address address in one_marks m a (has_signed m.marks.signed a) alone;
}
