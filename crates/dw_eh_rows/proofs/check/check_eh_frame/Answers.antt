use Rattle.dw_eh_frame.specs.Copies.{eh_frame_records}
use Rattle.dw_eh_rows.proofs.check.check_eh_frame.Goals as goal

pub check_records-requires : goal.check_records-requires
check_records-requires c = record {
  records = eh_frame_records c.args.is_aarch64 c.args.bases c.args.target c.args.section.now;
  placed = c.in_ok-records.ensures.placed;
  cies_are = c.in_ok-records.ensures.cies;
  fdes_are = c.in_ok-records.ensures.fdes;
}
