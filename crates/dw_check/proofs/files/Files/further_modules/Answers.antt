use Rattle.std.proofs.Common.{◌∙◌, ◌+◌, suc, ap, drop, drop-cons, get_or, length, map}
use Rattle.std.specs.Prelude.{slice_get}
use Rattle.dw_check.specs.FileViews.{with_bytes}
use Rattle.dw_check.specs.Files.{section_bytes, further_modules}
use Rattle.dw_check.specs.Stops.{AreBadModules}
use Rattle.dw_check.proofs.FurtherModules.{bad_module, joined}
use Rattle.dw_check.proofs.Processes.{err_from}
use Rattle.dw_check.proofs.files.Files.further_modules.Goals as goal

pub returns-in_err-section-clause-stop : goal.returns-in_err-section-clause-stop
returns-in_err-section-clause-stop c =
    let hex = c.args.self.now.hex in
    let files = map (λ file. file.items) c.args.self.now.contents.now in
    let loads = c.args.loads.now in
    let index = c.loop-index.index in
    let before = with_bytes c.loop-index.modules.items in
    let count = length c.args.self.now.contents.now in
    let others = further_modules hex files (suc (index + 2)) (drop (suc index) loads) in
    let are = c.loop-index.invariant
    ∙ ap (λ l. joined before (further_modules hex files (index + 2) l)) (drop-cons loads index 0 c.loop-index-test.true) in
    err_from (AreBadModules (further_modules hex files 2 loads) count) c.from_residual.result c.in_err-section.field-0.0
    c.from_residual.ensures
    (bad_module (further_modules hex files 2 loads) before (index + 2) (get_or loads index 0) count
    (section_bytes hex (slice_get files (index + 2))) others c.in_err-section.field-0.0 are c.in_err-section.ensures.stop)
