use Rattle.std.proofs.Common.{◌≡◌, ℕ, Bool, List, None}
use Rattle.dw_bytes.specs.declared.target.Target.{Target}
use Rattle.dw_eh_frame.specs.declared.pointer.Bases.{Bases}
use Rattle.dw_eh_rows.proofs.WholeSections.{SectionLaws, faultless}
use Rattle.dw_eh_rows.specs.Section.{eh_section_fault}
use Rattle.dw_in_place.proofs.Sections.{SectionFacts, found-in-place, same-row-in-place}
use Rattle.dw_in_place.proofs.laws.rows_in_place_are_those_of_the_section.Goals as goal

pub returns : goal.returns
returns c =
    let laws : SectionLaws = record {
      encoded = c.sections_are_records.ensures;
      placed = c.records_lie_one_after_another.ensures;
      good = c.records_without_fault_are_good.ensures;
    } in
    let facts : (is_aarch64 : Bool) (bases : Bases) (target : Target) (section : List ℕ)
    → eh_section_fault is_aarch64 bases target section ≡ None → SectionFacts is_aarch64 bases target section =
    λ is_aarch64 bases target section none. record {
      read = faultless laws is_aarch64 bases target section none;
      accepted = c.exact_eh_rows.ensures.accepted is_aarch64 bases target section none;
      cies_kept = c.only_copies_are_left_out.ensures.cies is_aarch64 bases target section;
      only = c.only_copies_are_left_out.ensures.only is_aarch64 bases target section;
    } in
    record {
      fde = λ is_aarch64 bases target section none.
          found-in-place is_aarch64 bases target section (facts is_aarch64 bases target section none);
      row = λ is_aarch64 bases target section none.
          same-row-in-place is_aarch64 bases target section (facts is_aarch64 bases target section none);
    }
