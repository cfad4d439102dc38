use Rattle.std.proofs.Common.{◌∙◌, ℕ, List, ap, length, map, refl, subst, sym}
use Rattle.std.specs.Prelude.{Err, Some, slice_get}
use Rattle.dw_loclists.specs.Reading.{ListSection}
use Rattle.dw_check.specs.Files.{section_bytes, state_facts}
use Rattle.dw_check.specs.Lookups.{ShowsList, list_that_begins_at}
use Rattle.dw_check.specs.Runs.{text, OfState, Goes, IsLocsReply, IsFound, lists_refusal}
use Rattle.dw_sections.specs.declared.section.Section.TheVariants.{Lists}
use Rattle.dw_check.proofs.Found.{one_found}
use Rattle.dw_check.proofs.Replies.{goes_section, goes_state, goes_refusal, goes_text, handed_on}
use Rattle.dw_check.proofs.runs.show_locations.Goals as goal

pub returns-in_err-lists-clause-goes : goal.returns-in_err-lists-clause-goes
returns-in_err-lists-clause-goes g c =
    let count = length c.args.files.now.contents.now in
    let files = map (λ file. file.items) c.args.files.now.contents.now in
    let asked = c.args.files.now in
    let a = g.S.Sink.taken c.args.out.now.sink.now in
    let e = c.in_err-lists.field-0.0 in
    let given = state_facts asked.target (slice_get files 1) in
    let section = c.as_slice.result.now in
    let is = λ (section : List ℕ). OfState given (IsFound c.args.lookup asked.target section) in
    let gs = c.in_ok-state.ensures.state.0 in
    let bytes = c.in_ok-section.ensures.bytes ∙ ap Some (sym c.as_slice.ensures.value) in
    handed_on (Goes count (IsLocsReply c.args.lookup asked.target asked.hex files) a a) _ e c.from_residual-in_err-lists.ensures
    (goes_section count 0 (section_bytes asked.hex (slice_get files 0)) section is a a (Err e) bytes
    (goes_state count given gs (IsFound c.args.lookup asked.target section) a a (Err e) c.in_ok-state.ensures.state.1
    (goes_refusal count Lists (lists_refusal asked.target section) (IsFound c.args.lookup asked.target section gs) a e
    (λ f h. (refl, h)) c.in_err-lists.ensures.stop)))

pub returns-clause-goes : goal.returns-clause-goes
returns-clause-goes g c =
    let count = length c.args.files.now.contents.now in
    let files = map (λ file. file.items) c.args.files.now.contents.now in
    let asked = c.args.files.now in
    let lookup = c.args.lookup in
    let old = g.S.Sink.taken c.args.out.now.sink.now in
    let new = g.S.Sink.taken c.write_list_lookup.new.out.sink.now in
    let given = state_facts asked.target (slice_get files 1) in
    let section = c.as_slice.result.now in
    let is = λ (section : List ℕ). OfState given (IsFound lookup asked.target section) in
    let gs = c.in_ok-state.ensures.state.0 in
    let bytes = c.in_ok-section.ensures.bytes ∙ ap Some (sym c.as_slice.ensures.value) in
    let written = c.write_list_lookup.ensures.written gs c.in_ok-state.ensures.state.2 in
    let found : IsFound lookup asked.target section gs (text written.0) = (
      c.in_ok-lists.ensures.whole,
      subst (λ (s : ListSection). ShowsList gs (list_that_begins_at s lookup.list) lookup.base lookup.address written.0)
          c.in_ok-lists.ensures.lists written.1,
    ) in
    rw c.run_result.ensures
    (goes_section count 0 (section_bytes asked.hex (slice_get files 0)) section is old new _ bytes
    (goes_state count given gs (IsFound lookup asked.target section) old new _ c.in_ok-state.ensures.state.1
    (goes_text count (IsFound lookup asked.target section gs) written.0 old new c.write_list_lookup.result found
    (λ reply i. one_found lookup asked.target section gs reply (text written.0) i found) written.2)))
