use Rattle.std.proofs.Common.{◌∙◌, ap, length, map, subst, sym}
use Rattle.std.specs.Prelude.{Some}
use Rattle.dw_rows.specs.Section.{FrameSection}
use Rattle.dw_unwind.specs.Modules.{as_linked}
use Rattle.dw_check.specs.Runs.{Goes, IsRowReply}
use Rattle.dw_check.specs.Text.{lookup_text}
use Rattle.dw_check.specs.WriteResults.{Writes}
use Rattle.dw_check.proofs.Replies.{handed_on}
use Rattle.dw_check.proofs.Sections.{goes_refused_frame, goes_frame}
use Rattle.dw_check.proofs.runs.show_row.Goals as goal

pub returns-in_err-frame-clause-goes : goal.returns-in_err-frame-clause-goes
returns-in_err-frame-clause-goes g c =
    let asked = c.args.files.now in
    let count = length asked.contents.now in
    let files = map (λ file. file.items) asked.contents.now in
    let a = g.S.Sink.taken c.args.out.now.sink.now in
    let section = c.as_slice.result.now in
    let text_for = λ (frame : FrameSection). lookup_text frame (as_linked asked.target c.args.load c.args.address) in
    let e = c.in_err-frame.field-0.0 in
    let bytes = c.in_ok-section.ensures.bytes ∙ ap Some (sym c.as_slice.ensures.value) in
    handed_on (Goes count (IsRowReply c.args.load c.args.address asked.target asked.hex files) a a) _ e c.from_residual-in_err-frame.ensures
    (goes_refused_frame text_for asked.target section count asked.hex files a e bytes c.in_err-frame.ensures.stop)

pub returns-clause-goes : goal.returns-clause-goes
returns-clause-goes g c =
    let asked = c.args.files.now in
    let count = length asked.contents.now in
    let files = map (λ file. file.items) asked.contents.now in
    let old = g.S.Sink.taken c.args.out.now.sink.now in
    let new = g.S.Sink.taken c.write_row_lookup.new.out.sink.now in
    let bytes = c.in_ok-section.ensures.bytes ∙ ap Some (sym c.as_slice.ensures.value) in
    let section = c.as_slice.result.now in
    let text_for = λ (frame : FrameSection). lookup_text frame (as_linked asked.target c.args.load c.args.address) in
    let shown = subst (λ n. Writes old new c.write_row_lookup.result (lookup_text c.in_ok-frame.frame n)) c.as_linked-address.ensures
    c.write_row_lookup.ensures.written in
    let written = subst (λ (frame : FrameSection). Writes old new c.write_row_lookup.result (text_for frame)) c.in_ok-frame.ensures.frame
    shown in
    rw c.run_result.ensures
    (goes_frame text_for asked.target section count asked.hex files old new c.write_row_lookup.result bytes
    c.in_ok-frame.ensures.whole written)
