use Rattle.std.proofs.Common.{◌∙◌, ℕ, List, ap, length, map, subst, sym}
use Rattle.std.specs.Prelude.{Err, Some, slice_get}
use Rattle.std.specs.Cow.{cow_slice_items}
use Rattle.dw_rows.specs.Section.{FrameSection, frame_of}
use Rattle.dw_loclists.specs.Reading.{ListSection}
use Rattle.dw_sections.specs.Checked.{check_fault}
use Rattle.dw_check.specs.Files.{section_bytes}
use Rattle.dw_check.specs.Report.{IsReport}
use Rattle.dw_check.specs.Runs.{text, OfSection, OfChecked, Goes, IsCheckReply}
use Rattle.dw_check.proofs.BothSections.{one_of_checked}
use Rattle.dw_check.proofs.Replies.{goes_section, goes_bad_section, goes_first_fault, goes_text, handed_on}
use Rattle.dw_check.proofs.runs.show_report.Goals as goal

pub returns-in_err-lists-clause-goes : goal.returns-in_err-lists-clause-goes
returns-in_err-lists-clause-goes g c =
    let count = length c.args.files.now.contents.now in
    let files = map (λ file. file.items) c.args.files.now.contents.now in
    let asked = c.args.files.now in
    let a = g.S.Sink.taken c.args.out.now.sink.now in
    let e = c.in_err-lists.field-0.0 in
    let second = section_bytes asked.hex (slice_get files 1) in
    let is = λ (frame : List ℕ). OfSection 1 second (λ lists. OfChecked asked.target frame lists IsReport) in
    let frame = cow_slice_items c.in_ok-frame.frame in
    handed_on (Goes count (IsCheckReply asked.target asked.hex files) a a) _ e c.from_residual-in_err-lists.ensures
    (goes_section count 0 (section_bytes asked.hex (slice_get files 0)) frame is a a (Err e) c.in_ok-frame.ensures.bytes
    (goes_bad_section count 1 second (λ lists. OfChecked asked.target frame lists IsReport) a e c.in_err-lists.ensures.stop))

pub returns-in_err-checked-clause-goes : goal.returns-in_err-checked-clause-goes
returns-in_err-checked-clause-goes g c =
    let count = length c.args.files.now.contents.now in
    let files = map (λ file. file.items) c.args.files.now.contents.now in
    let asked = c.args.files.now in
    let a = g.S.Sink.taken c.args.out.now.sink.now in
    let e = c.in_err-checked.field-0.0 in
    let second = section_bytes asked.hex (slice_get files 1) in
    let is = λ (frame : List ℕ). OfSection 1 second (λ lists. OfChecked asked.target frame lists IsReport) in
    let frame = c.as_slice.result.now in
    let lists = c.as_slice-2.result.now in
    let first_bytes = c.in_ok-frame.ensures.bytes ∙ ap Some (sym c.as_slice.ensures.value) in
    let second_bytes = c.in_ok-lists.ensures.bytes ∙ ap Some (sym c.as_slice-2.ensures.value) in
    handed_on (Goes count (IsCheckReply asked.target asked.hex files) a a) _ e c.from_residual-in_err-checked.ensures
    (goes_section count 0 (section_bytes asked.hex (slice_get files 0)) frame is a a (Err e) first_bytes
    (goes_section count 1 second lists (λ lists. OfChecked asked.target frame lists IsReport) a a (Err e) second_bytes
    (goes_first_fault count (check_fault asked.target frame lists) (OfChecked asked.target frame lists IsReport) a e
    (λ found h. h) c.in_err-checked.ensures.stop)))

pub returns-clause-goes : goal.returns-clause-goes
returns-clause-goes g c =
    let count = length c.args.files.now.contents.now in
    let files = map (λ file. file.items) c.args.files.now.contents.now in
    let asked = c.args.files.now in
    let target = asked.target in
    let old = g.S.Sink.taken c.args.out.now.sink.now in
    let new = g.S.Sink.taken c.write_report.new.out.sink.now in
    let second = section_bytes asked.hex (slice_get files 1) in
    let is = λ (frame : List ℕ). OfSection 1 second (λ lists. OfChecked target frame lists IsReport) in
    let frame = c.as_slice.result.now in
    let lists = c.as_slice-2.result.now in
    let first_bytes = c.in_ok-frame.ensures.bytes ∙ ap Some (sym c.as_slice.ensures.value) in
    let second_bytes = c.in_ok-lists.ensures.bytes ∙ ap Some (sym c.as_slice-2.ensures.value) in
    let written = c.write_report.ensures.written in
    let by_frame = subst (λ (f : FrameSection). IsReport f c.in_ok-checked.checked.lists written.0) c.in_ok-checked.ensures.frame
    written.1 in
    let report = subst (λ (l : ListSection). IsReport (frame_of target frame) l written.0) c.in_ok-checked.ensures.lists by_frame in
    let found : OfChecked target frame lists IsReport (text written.0) = (c.in_ok-checked.ensures.whole, report) in
    rw c.run_result.ensures
    (goes_section count 0 (section_bytes asked.hex (slice_get files 0)) frame is old new _ first_bytes
    (goes_section count 1 second lists (λ lists. OfChecked target frame lists IsReport) old new _ second_bytes
    (goes_text count (OfChecked target frame lists IsReport) written.0 old new c.write_report.result found
    (λ reply i. one_of_checked target frame lists IsReport
    (λ checked. c.one_report.ensures (frame_of target frame) (record { target = target; section = lists }))
    reply (text written.0) i found) written.2)))
