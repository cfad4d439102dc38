use Rattle.std.proofs.Common.{length, map}
use Rattle.std.specs.Prelude.{slice_get}
use Rattle.std.specs.Cow.{cow_slice_items}
use Rattle.dw_check.specs.FileViews.{with_bytes}
use Rattle.dw_check.specs.Files.{further_modules, section_bytes, state_facts}
use Rattle.dw_check.specs.Runs.{IsBadProcess, IsUnreadProcess, OfFurther, OfState}
use Rattle.dw_check.proofs.Processes.{after_modules, after_section, err_from, unread_modules, unread_section, unread_state}
use Rattle.dw_check.proofs.process.read_process.Goals as goal

pub returns-in_err-section-clause-stop : goal.returns-in_err-section-clause-stop
returns-in_err-section-clause-stop c =
    let asked = c.args.files.now in
    let files = map (λ file. file.items) asked.contents.now in
    let count = length asked.contents.now in
    let e = c.in_err-section.field-0.0 in
    err_from (IsBadProcess (IsUnreadProcess asked.target c.args.load c.args.module_loads.now asked.hex files) count) _ e
    c.from_residual.ensures
    (unread_section count (section_bytes asked.hex (slice_get files 0)) _ e c.in_err-section.ensures.stop)

pub returns-in_err-modules-clause-stop : goal.returns-in_err-modules-clause-stop
returns-in_err-modules-clause-stop c =
    let asked = c.args.files.now in
    let files = map (λ file. file.items) asked.contents.now in
    let count = length asked.contents.now in
    let e = c.in_err-modules.field-0.0 in
    let loads = c.args.module_loads.now in
    let others = further_modules asked.hex files 2 loads in
    let given = state_facts asked.target (slice_get files 1) in
    err_from (IsBadProcess (IsUnreadProcess asked.target c.args.load loads asked.hex files) count) _ e
    c.from_residual-in_err-modules.ensures
    (after_section count (section_bytes asked.hex (slice_get files 0)) (cow_slice_items c.in_ok-section.section)
    (λ section. OfFurther others (λ modules. OfState given (λ facts r. ⊥))) e c.in_ok-section.ensures.bytes
    (unread_modules count others (λ modules. OfState given (λ facts r. ⊥)) e c.in_err-modules.ensures.stop))

pub returns-in_err-state-clause-stop : goal.returns-in_err-state-clause-stop
returns-in_err-state-clause-stop c =
    let asked = c.args.files.now in
    let files = map (λ file. file.items) asked.contents.now in
    let count = length asked.contents.now in
    let e = c.in_err-state.field-0.0 in
    let loads = c.args.module_loads.now in
    let others = further_modules asked.hex files 2 loads in
    let given = state_facts asked.target (slice_get files 1) in
    err_from (IsBadProcess (IsUnreadProcess asked.target c.args.load loads asked.hex files) count) _ e
    c.from_residual-in_err-state.ensures
    (after_section count (section_bytes asked.hex (slice_get files 0)) (cow_slice_items c.in_ok-section.section)
    (λ section. OfFurther others (λ modules. OfState given (λ facts r. ⊥))) e c.in_ok-section.ensures.bytes
    (after_modules count others (with_bytes c.in_ok-modules.modules.items) (λ modules. OfState given (λ facts r. ⊥)) e
    c.in_ok-modules.ensures.modules
    (unread_state count given (λ facts r. ⊥) e c.in_err-state.ensures.stop)))
