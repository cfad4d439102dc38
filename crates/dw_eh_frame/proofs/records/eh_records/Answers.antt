use Rattle.std.proofs.Common.{List, [], length, map, sym, ap, ◌∙◌, arith}
use Rattle.std.proofs.lemmas.List.{length-map}
use Rattle.dw_bytes.specs.Answers.{values_in}
use Rattle.dw_frame.specs.declared.entry.FrameDescriptionEntry.{FrameDescriptionEntry}
use Rattle.dw_frame.specs.Views.{fde_of}
use Rattle.dw_eh_frame.specs.Copies.{without_copies}
use Rattle.dw_eh_frame.specs.Records.{all_in_dwarf, eh_records_of}
use Rattle.dw_eh_frame.proofs.Distinct.{distinct-cies, distinct-fdes, distinct-placed}
use Rattle.dw_eh_frame.proofs.Placed.{placed-few}
use Rattle.dw_eh_frame.proofs.Steps.{fdes-fewer}
use Rattle.dw_eh_frame.proofs.records.eh_records.Goals as goal

pub without_copies-requires : goal.without_copies-requires
without_copies-requires c =
    let records = all_in_dwarf (values_in (eh_records_of c.args.is_aarch64 c.args.bases c.args.target c.args.section.now)) in
    omega (
      arith,
      c.requires,
      ap length c.deref.ensures.value,
      length-map c.in_ok-cies.field-0.fdes.items fde_of,
      ap length c.in_ok-cies.ensures.fdes,
      fdes-fewer records,
      placed-few c.args.target 0 (length c.args.section.now) records c.in_ok-cies.ensures.placed,
    )

pub returns-clause-placed : goal.returns-clause-placed
returns-clause-placed c =
    distinct-placed c.args.target 0 (length c.args.section.now) []
    (all_in_dwarf (values_in (eh_records_of c.args.is_aarch64 c.args.bases c.args.target c.args.section.now))) c.in_ok-cies.ensures.placed

pub returns-clause-cies : goal.returns-clause-cies
returns-clause-cies c =
    c.in_ok-cies.ensures.cies
    ∙ sym (distinct-cies [] (all_in_dwarf (values_in (eh_records_of c.args.is_aarch64 c.args.bases c.args.target c.args.section.now))))

pub returns-clause-fdes : goal.returns-clause-fdes
returns-clause-fdes c =
    c.in_ok-fdes.ensures
    ∙ (ap (λ (l : List FrameDescriptionEntry). without_copies [] (map fde_of l)) c.deref.ensures.value
    ∙ (ap (without_copies []) c.in_ok-cies.ensures.fdes
    ∙ sym (distinct-fdes [] (all_in_dwarf (values_in (eh_records_of c.args.is_aarch64 c.args.bases c.args.target c.args.section.now))))))
