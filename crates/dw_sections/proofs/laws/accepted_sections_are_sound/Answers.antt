use Rattle.dw_frame.specs.Records.{cies_among, fdes_among}
use Rattle.dw_frame.specs.Sections.{records_of}
use Rattle.dw_rows.specs.Section.{IsChecked, frame_of}
use Rattle.dw_loclists.specs.Reading.{ListSection}
use Rattle.dw_sections.specs.Headline.{list_section}
use Rattle.dw_sections.proofs.WholeCheck.{each_without_fault}
use Rattle.dw_sections.proofs.Sound.{safe, made_of}
use Rattle.dw_sections.proofs.laws.accepted_sections_are_sound.Goals as goal

pub returns : goal.returns
returns c = λ target frame lists none.
    let each = each_without_fault target frame lists none in
    let checked : IsChecked (frame_of target frame) = c.checked_frame_sections.ensures.accepted target frame each.0 in
    let formed = (c.frame_sections_without_fault_are_well_formed.ensures target frame).0 each.0 in
    let read = (c.sections_are_records.ensures target frame formed.records).1 formed.encoded in
    record {
      records = formed.records;
      encoded = formed.encoded;
      cies = made_of cies_among (records_of target frame) formed.records read;
      fdes = made_of fdes_among (records_of target frame) formed.records read;
      tables = c.checked_list_sections.ensures.tables (list_section target lists) each.1;
      rows = λ a f inside covers. c.exact_rows.ensures.covered (frame_of target frame) a checked f inside covers;
      others = λ a free. c.exact_rows.ensures.others (frame_of target frame) a free;
      frame_expressions = λ x among.
          let known = c.checked_frame_sections.ensures.expressions (frame_of target frame) checked x among in (
            known.1,
            safe c.each_has_a_depth.ensures c.good_expressions_run_well.ensures c.each_has_an_evaluation.ensures
                c.evaluations_are_determined.ensures x.kind x.target x.bytes known.0,
          );
      list_expressions = λ l e b listed entered is.
          let s : ListSection = list_section target lists in (
            c.checked_list_sections.ensures.target s l e b each.1 listed entered is,
            safe c.each_has_a_depth.ensures c.good_expressions_run_well.ensures c.each_has_an_evaluation.ensures
                c.evaluations_are_determined.ensures
                _ b.target b.bytes (c.checked_list_sections.ensures.good s l e b each.1 listed entered is),
          );
    }
