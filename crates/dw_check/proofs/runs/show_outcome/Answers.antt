use Rattle.std.proofs.Common.{◌≡◌, ℕ, List, length, map, refl, sym, ◌∙◌}
use Rattle.std.specs.Prelude.{Err, None, slice_get}
use Rattle.std.specs.Cow.{cow_slice_items}
use Rattle.dw_stack.specs.Certificates.{checked_of}
use Rattle.dw_stack.specs.FirstFault.{expression_fault}
use Rattle.dw_stack.proofs.Named.{good_if_none}
use Rattle.dw_check.specs.Files.{section_bytes, state_facts}
use Rattle.dw_check.specs.Runs.{OfState, Goes, IsEvalReply, IsOutcome, expression_refusal}
use Rattle.dw_check.specs.WriteResults.{WritesWhole}
use Rattle.dw_sections.specs.declared.section.Section.TheVariants.{Expression}
use Rattle.dw_check.proofs.Evaluated.{good_checked, written_same}
use Rattle.dw_sections.proofs.Lengths.{short_fault}
use Rattle.dw_check.proofs.Replies.{goes_section, goes_state, goes_bad_state, goes_refusal, goes_whole, handed_on}
use Rattle.dw_check.proofs.runs.show_outcome.Goals as goal

pub returns-in_err-state-clause-goes : goal.returns-in_err-state-clause-goes
returns-in_err-state-clause-goes g c =
    let count = length c.args.files.now.contents.now in
    let files = map (λ file. file.items) c.args.files.now.contents.now in
    let asked = c.args.files.now in
    let a = g.S.Sink.taken c.args.out.now.sink.now in
    let given = state_facts asked.target (slice_get files 1) in
    let is = λ (bytes : List ℕ). OfState given (IsOutcome c.args.kind asked.target bytes) in
    handed_on (Goes count
    (IsEvalReply c.args.kind asked.target asked.hex files) a a) _ c.in_err-state.field-0.0 c.from_residual-in_err-state.ensures
    (goes_section count 0 (section_bytes asked.hex (slice_get files 0)) _ is a a (Err c.in_err-state.field-0.0) c.in_ok-bytes.ensures.bytes
    (goes_bad_state count given _ a c.in_err-state.field-0.0 c.in_err-state.ensures.stop))

pub returns-in_err-checked-clause-goes : goal.returns-in_err-checked-clause-goes
returns-in_err-checked-clause-goes g c =
    let count = length c.args.files.now.contents.now in
    let files = map (λ file. file.items) c.args.files.now.contents.now in
    let asked = c.args.files.now in
    let a = g.S.Sink.taken c.args.out.now.sink.now in
    let e = c.in_err-checked.field-0.0 in
    let given = state_facts asked.target (slice_get files 1) in
    let bytes = cow_slice_items c.in_ok-bytes.bytes in
    let is = λ (bytes : List ℕ). OfState given (IsOutcome c.args.kind asked.target bytes) in
    let gs = c.in_ok-state.ensures.state.0 in
    let stop = rw c.as_slice.ensures.value at c.in_err-checked.ensures.stop in
    handed_on (Goes count (IsEvalReply c.args.kind asked.target asked.hex files) a a) _ e c.from_residual-in_err-checked.ensures
    (goes_section count 0 (section_bytes asked.hex (slice_get files 0)) bytes is a a (Err e) c.in_ok-bytes.ensures.bytes
    (goes_state count given gs (IsOutcome c.args.kind asked.target bytes) a a (Err e) c.in_ok-state.ensures.state.1
    (goes_refusal count Expression (expression_refusal c.args.kind asked.target bytes) (IsOutcome c.args.kind asked.target bytes gs) a e
    (λ f h. (refl, h)) stop)))

pub write_outcome-requires-clause-good : goal.write_outcome-requires-clause-good
write_outcome-requires-clause-good g c =
    let bytes = c.as_slice.result.now in
    let target = c.args.files.now.target in
    let same = c.in_ok-checked.ensures.checked in
    let none : expression_fault c.args.kind target bytes ≡ None = sym (short_fault bytes _ c.in_ok-checked.ensures.short)
    ∙ c.in_ok-checked.ensures.whole in
    good_checked c.args.kind target bytes (checked_of c.in_ok-checked.checked) same (good_if_none c.args.kind target bytes none)

pub returns-clause-goes : goal.returns-clause-goes
returns-clause-goes g c =
    let count = length c.args.files.now.contents.now in
    let files = map (λ file. file.items) c.args.files.now.contents.now in
    let asked = c.args.files.now in
    let old = g.S.Sink.taken c.args.out.now.sink.now in
    let new = g.S.Sink.taken c.write_outcome.new.out.sink.now in
    let given = state_facts asked.target (slice_get files 1) in
    let bytes = cow_slice_items c.in_ok-bytes.bytes in
    let is = λ (bytes : List ℕ). OfState given (IsOutcome c.args.kind asked.target bytes) in
    let gs = c.in_ok-state.ensures.state.0 in
    let same = rw c.as_slice.ensures.value at c.in_ok-checked.ensures.checked in
    let written = written_same c.args.kind asked.target bytes (checked_of c.in_ok-checked.checked) gs
    (WritesWhole old new c.write_outcome.result) same
    (c.write_outcome.ensures.written gs c.in_ok-state.ensures.state.2) in
    rw c.run_result.ensures
    (goes_section count 0 (section_bytes asked.hex (slice_get files 0)) bytes is old new _ c.in_ok-bytes.ensures.bytes
    (goes_state count given gs (IsOutcome c.args.kind asked.target bytes) old new _ c.in_ok-state.ensures.state.1
    (goes_whole count (IsOutcome c.args.kind asked.target bytes gs) written.0 old new c.write_outcome.result written.1 written.2)))
