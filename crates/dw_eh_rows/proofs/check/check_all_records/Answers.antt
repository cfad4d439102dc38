use Rattle.std.proofs.Common.{◌≡◌, List, None, sym, ap, subst, ◌∙◌}
use Rattle.dw_bytes.specs.Answers.{values_in}
use Rattle.dw_frame.specs.Records.{Record, cies_among, fdes_among}
use Rattle.dw_rows.specs.Section.{frame_with, parts_fault}
use Rattle.dw_eh_frame.specs.Copies.{distinct}
use Rattle.dw_eh_frame.specs.Records.{all_in_dwarf, eh_records_of}
use Rattle.dw_eh_rows.specs.Section.{eh_section_fault}
use Rattle.dw_eh_rows.proofs.NoCopies.{CopyLaws, no-copies}
use Rattle.dw_eh_rows.proofs.check.check_all_records.Goals as goal

pub check_records-requires : goal.check_records-requires
check_records-requires c = record {
  records = all_in_dwarf (values_in (eh_records_of c.args.is_aarch64 c.args.bases c.args.target c.args.section.now));
  placed = c.in_ok-cies.ensures.placed;
  cies_are = c.in_ok-cies.ensures.cies;
  fdes_are = c.in_ok-cies.ensures.fdes;
}

-- the same records are kept
same : (c : goal.In-Ok) → distinct (all_in_dwarf (values_in (eh_records_of c.args.is_aarch64 c.args.bases c.args.target c.args.section.now)))
    ≡ all_in_dwarf (values_in (eh_records_of c.args.is_aarch64 c.args.bases c.args.target c.args.section.now))
same c =
    let ensured = c.in_ok-cies.ensures in
    let none = rw (ensured.cies, ensured.fdes) at c.in-Ok.ensures.answer in
    let laws : CopyLaws = record { good = c.records_without_fault_are_good.ensures; kept = c.records_without_copies_are_kept.ensures } in
    no-copies laws _ _ _ _ ensured.placed none

pub returns-in-Ok-clause-faultless : goal.returns-in-Ok-clause-faultless
unfolding eh_section_fault
returns-in-Ok-clause-faultless c =
    let ensured = c.in_ok-cies.ensures in
    let none = rw (ensured.cies, ensured.fdes) at c.in-Ok.ensures.answer in
    rw ensured.answer
    (subst (λ (records : List Record). parts_fault (cies_among records) (fdes_among records) ≡ None) (sym (same c)) none)

pub returns-in-Ok-clause-frame : goal.returns-in-Ok-clause-frame
returns-in-Ok-clause-frame c =
    let ensured = c.in_ok-cies.ensures in
    let frame = rw (ensured.cies, ensured.fdes) at c.in-Ok.ensures.frame in
    frame ∙ ap (frame_with c.args.target c.args.section.now) (sym (same c))
