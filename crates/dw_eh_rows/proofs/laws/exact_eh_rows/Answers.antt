use Rattle.std.proofs.Common.{◌≡◌, ℕ, Bool, List, None}
use Rattle.dw_bytes.specs.declared.target.Target.{Target}
use Rattle.dw_rows.specs.Section.{IsChecked}
use Rattle.dw_eh_frame.specs.declared.pointer.Bases.{Bases}
use Rattle.dw_eh_frame.specs.Copies.{eh_frame_records}
use Rattle.dw_eh_rows.proofs.Among.{record-fde, fde-record}
use Rattle.dw_eh_rows.proofs.SignalAddresses.{covers-too}
use Rattle.dw_eh_rows.proofs.WholeSections.{SectionLaws, faultless}
use Rattle.dw_eh_rows.specs.Section.{eh_frame_of, eh_section_fault}
use Rattle.dw_eh_rows.proofs.laws.exact_eh_rows.Goals as goal

pub returns : goal.returns
returns c =
    let laws : SectionLaws = record {
      encoded = c.sections_are_records.ensures;
      placed = c.records_lie_one_after_another.ensures;
      good = c.records_without_fault_are_good.ensures;
    } in
    let accepted : (is_aarch64 : Bool) (bases : Bases) (target : Target) (section : List ℕ)
    → eh_section_fault is_aarch64 bases target section ≡ None → IsChecked (eh_frame_of is_aarch64 bases target section) =
    λ is_aarch64 bases target section none.
    let f = faultless laws is_aarch64 bases target section none in
    c.records_are_accepted.ensures target section (eh_frame_records is_aarch64 bases target section) f.placed f.none in
    record {
      accepted = accepted;
      covered = λ is_aarch64 bases target section none f among a covers.
          let kept = eh_frame_records is_aarch64 bases target section in
          let (g, g_in, same) = c.only_copies_are_left_out.ensures.fdes is_aarch64 bases target section f among in
          c.exact_rows.ensures.covered (eh_frame_of is_aarch64 bases target section) a (accepted is_aarch64 bases target section none) g
          (record-fde kept g g_in) (covers-too g f a same covers);
      others = λ is_aarch64 bases target section a none.
          c.exact_rows.ensures.others (eh_frame_of is_aarch64 bases target section) a
          (λ g g_in. none g (c.only_copies_are_left_out.ensures.only is_aarch64 bases target section _
          (fde-record (eh_frame_records is_aarch64 bases target section) g g_in)));
    }
