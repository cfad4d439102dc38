use Rattle.std.proofs.Common.{◌≡◌, ℕ, Bool, List, [], None, subst}
use Rattle.std.proofs.lemmas.List.{append-nil}
use Rattle.dw_bytes.specs.declared.target.Target.{Target}
use Rattle.dw_rows.specs.Section.{row_of}
use Rattle.dw_eh_frame.specs.declared.pointer.Bases.{Bases}
use Rattle.dw_eh_rows.specs.Section.{eh_frame_of, eh_section_fault}
use Rattle.dw_eh_rows.proofs.WholeSections.{SectionLaws, faultless}
use Rattle.dw_in_place.specs.InPlace.{lying}
use Rattle.dw_in_place.specs.LookUps.{GivesRow}
use Rattle.dw_in_place.proofs.Sections.{SectionFacts, gives-row}
use Rattle.dw_in_place.proofs.laws.look_ups_find_all_rows.Goals as goal

pub returns : goal.returns
returns c =
    let laws : SectionLaws = record {
      encoded = c.sections_are_records.ensures;
      placed = c.records_lie_one_after_another.ensures;
      good = c.records_without_fault_are_good.ensures;
    } in
    let facts : (is_aarch64 : Bool) (bases : Bases) (target : Target) (section : List ℕ)
    → eh_section_fault is_aarch64 bases target section ≡ None → SectionFacts is_aarch64 bases target section =
    λ is_aarch64 bases target section none. record {
      read = faultless laws is_aarch64 bases target section none;
      accepted = c.exact_eh_rows.ensures.accepted is_aarch64 bases target section none;
      cies_kept = c.only_copies_are_left_out.ensures.cies is_aarch64 bases target section;
      only = c.only_copies_are_left_out.ensures.only is_aarch64 bases target section;
    } in
    record {
      here = λ is_aarch64 bases target section t none leads a entry finds.
          subst (λ (l : List ℕ). GivesRow (lying is_aarch64 bases target l) t a entry (row_of (eh_frame_of is_aarch64 bases target section) a))
          (append-nil section)
          (gives-row is_aarch64 bases target section [] t (facts is_aarch64 bases target section none) leads a entry finds);
      followed = λ is_aarch64 bases target section more t none leads a entry finds.
          gives-row is_aarch64 bases target section more t (facts is_aarch64 bases target section none) leads a entry finds;
    }
