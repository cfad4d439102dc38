use Rattle.std.proofs.Common.{sym}
use Rattle.dw_eh_rows.proofs.WholeSections.{SectionLaws, faultless}
use Rattle.dw_eh_rows.specs.Section.{eh_frame_of}
use Rattle.dw_in_place.proofs.Sections.{SectionFacts, good-fde}
use Rattle.dw_in_place.proofs.laws.signatures_in_place_are_those_of_the_section.Goals as goal

pub returns : goal.returns
returns c is_aarch64 bases target section none e among kept a here =
    let laws : SectionLaws = record {
      encoded = c.sections_are_records.ensures;
      placed = c.records_lie_one_after_another.ensures;
      good = c.records_without_fault_are_good.ensures;
    } in
    let facts : SectionFacts is_aarch64 bases target section = record {
      read = faultless laws is_aarch64 bases target section none;
      accepted = c.exact_eh_rows.ensures.accepted is_aarch64 bases target section none;
      cies_kept = c.only_copies_are_left_out.ensures.cies is_aarch64 bases target section;
      only = c.only_copies_are_left_out.ensures.only is_aarch64 bases target section;
    } in
    let good = good-fde is_aarch64 bases target section facts e among kept in
    sym (c.signed_sections_are_exact.ensures.covered (eh_frame_of is_aarch64 bases target section) a facts.accepted e.fde kept here
    e.cie.cie good.pointed)
