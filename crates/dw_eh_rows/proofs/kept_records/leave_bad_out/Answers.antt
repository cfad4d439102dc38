use Rattle.std.proofs.Common.{length, ap, arith}
use Rattle.std.proofs.lemmas.List.{length-map}
use Rattle.dw_frame.specs.Views.{fde_of}
use Rattle.dw_eh_frame.specs.Records.{all_in_dwarf}
use Rattle.dw_eh_frame.proofs.Placed.{placed-few}
use Rattle.dw_eh_frame.proofs.Steps.{fdes-fewer}
use Rattle.dw_eh_rows.specs.KeptRecords.{split_records}
use Rattle.dw_eh_rows.proofs.kept_records.leave_bad_out.Goals as goal

pub without_copies-requires : goal.without_copies-requires
without_copies-requires c =
    let records = all_in_dwarf (split_records c.args.is_aarch64 c.args.bases c.args.target c.args.section.now).kept in
    omega (
      arith,
      c.requires,
      ap length c.deref.ensures.value,
      length-map c.in_ok-split.split.fdes.items fde_of,
      ap length c.in_ok-split.ensures.fdes,
      fdes-fewer records,
      placed-few c.args.target 0 (length c.args.section.now) records c.in_ok-split.ensures.placed,
    )
