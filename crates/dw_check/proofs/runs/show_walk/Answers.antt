use Rattle.std.proofs.Common.{◌∙◌, ap, length, map, subst, sym}
use Rattle.dw_check.specs.FileViews.{with_bytes}
use Rattle.dw_check.specs.Files.{GivesProcess}
use Rattle.dw_unwind.specs.Modules.{unborrowed}
use Rattle.dw_check.specs.Runs.{Goes, IsBacktraceReply, ShowsWalk, OfModules}
use Rattle.dw_check.specs.declared.stop.RunFault.TheVariants.{Memory}
use Rattle.dw_check.proofs.OneReply.{one_walk_shown}
use Rattle.dw_check.proofs.Processes.{AreChecked, accepted, goes_faulty, goes_lacking, goes_shown, goes_unread}
use Rattle.dw_check.proofs.Replies.{handed_on}
use Rattle.dw_check.proofs.runs.show_walk.Goals as goal

pub returns-in_err-process-clause-goes : goal.returns-in_err-process-clause-goes
returns-in_err-process-clause-goes g c =
    let asked = c.args.files.now in
    let count = length asked.contents.now in
    let files = map (λ file. file.items) asked.contents.now in
    let loads = c.args.module_loads.now in
    let a = g.S.Sink.taken c.args.out.now.sink.now in
    let e = c.in_err-process.field-0.0 in
    handed_on (Goes count (IsBacktraceReply c.args.address c.args.limit c.args.load loads asked.target asked.hex files) a a) _ e
    c.from_residual.ensures
    (goes_unread asked.target c.args.load loads asked.hex files count
    (λ facts modules. OfModules asked.target modules (ShowsWalk c.args.address c.args.limit asked.target.address_size facts)) a e c.in_err-process.ensures.stop)

pub returns-in_err-modules-clause-goes : goal.returns-in_err-modules-clause-goes
returns-in_err-modules-clause-goes g c =
    let asked = c.args.files.now in
    let count = length asked.contents.now in
    let files = map (λ file. file.items) asked.contents.now in
    let loads = c.args.module_loads.now in
    let a = g.S.Sink.taken c.args.out.now.sink.now in
    let e = c.in_err-modules.field-0.0 in
    let read = c.in_ok-process.ensures.process in
    let modules = with_bytes c.as_slice.result.now in
    let gives = subst (λ l. GivesProcess asked.target c.args.load loads asked.hex files (with_bytes l) read.0)
    (sym c.as_slice.ensures.value) read.2 in
    handed_on (Goes count (IsBacktraceReply c.args.address c.args.limit c.args.load loads asked.target asked.hex files) a a) _ e
    c.from_residual-in_err-modules.ensures
    (goes_faulty (ShowsWalk c.args.address c.args.limit) asked.target c.args.load loads asked.hex files count
    modules read.0 gives a e c.in_err-modules.ensures.stop)

pub walk_and_write-requires-clause-checked : goal.walk_and_write-requires-clause-checked
walk_and_write-requires-clause-checked g c =
    let target = c.args.files.now.target in
    let bytes = with_bytes c.as_slice.result.now in
    let are = ap unborrowed c.as_slice-3.ensures.value ∙ c.in_ok-modules-2.ensures ∙ c.as_slice-2.ensures.value
    ∙ c.in_ok-modules.ensures.modules in
    subst AreChecked (sym are) (accepted target bytes c.in_ok-modules.ensures.whole)

pub returns-clause-goes : goal.returns-clause-goes
returns-clause-goes g c =
    let asked = c.args.files.now in
    let count = length asked.contents.now in
    let files = map (λ file. file.items) asked.contents.now in
    let loads = c.args.module_loads.now in
    let old = g.S.Sink.taken c.args.out.now.sink.now in
    let new = g.S.Sink.taken c.walk_and_write.new.out.sink.now in
    let read = c.in_ok-process.ensures.process in
    let modules = with_bytes c.as_slice.result.now in
    let gives = subst (λ l. GivesProcess asked.target c.args.load loads asked.hex files (with_bytes l) read.0)
    (sym c.as_slice.ensures.value) read.2 in
    let checked = c.in_ok-modules.ensures in
    let sections = unborrowed c.as_slice-3.result.now in
    let are = ap unborrowed c.as_slice-3.ensures.value ∙ c.in_ok-modules-2.ensures ∙ c.as_slice-2.ensures.value
    ∙ checked.modules in
    let written = c.walk_and_write.ensures.written read.0 read.1 in
    let shown = subst (λ z. ShowsWalk c.args.address c.args.limit z read.0 sections written.0) c.requires.size written.1 in
    rw c.run_result.ensures
    (goes_shown (ShowsWalk c.args.address c.args.limit) asked.target c.args.load loads asked.hex files count
    modules read.0 gives sections old new c.walk_and_write.result written.0
    (one_walk_shown c.one_walk_through_modules.ensures c.args.address c.args.limit) checked.whole are shown written.2)

pub returns-in_err-modules-2-clause-goes : goal.returns-in_err-modules-2-clause-goes
returns-in_err-modules-2-clause-goes g c =
    let asked = c.args.files.now in
    let count = length asked.contents.now in
    let files = map (λ file. file.items) asked.contents.now in
    let a = g.S.Sink.taken c.args.out.now.sink.now in
    let is = IsBacktraceReply c.args.address c.args.limit c.args.load c.args.module_loads.now asked.target asked.hex files in
    handed_on (Goes count is a a) _ Memory c.from_residual-in_err-modules-2.ensures (goes_lacking count is a)
