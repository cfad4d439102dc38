use Rattle.std.proofs.Common.{◌≡◌, sym, subst, ◌∙◌, length}
use Rattle.std.specs.Prelude.{IfOk, IfSome, Option}
use Rattle.dw_bytes.specs.Answers.{Answers}
use Rattle.dw_frame.specs.Records.{Cie}
use Rattle.dw_frame.specs.Views.{cie_of, fde_of}
use Rattle.dw_rules.specs.ProgramState.{IsLeftBy}
use Rattle.dw_rows.specs.Section.{fault_by_cie, rows_by_cie}
use Rattle.dw_rows.proofs.Elements.{read-map}
use Rattle.dw_rows.proofs.record_checks.check_fde_of_cie.Goals as goal

pub quick_or_full_check-requires : goal.quick_or_full_check-requires
quick_or_full_check-requires c =
    let x = c.index-cies-place.result in
    let here = read-map cie_of c.args.cies.now c.args.place x c.requires.inside (sym c.index-cies-place.is) in
    subst (λ (o : Option Cie). IfSome o (λ (cie : Cie). IsLeftBy cie c.args.context.now.initial_rules)) here c.requires.left

pub returns-clause-answer : goal.returns-clause-answer
returns-clause-answer c =
    let x = c.index-cies-place.result in
    let here = read-map cie_of c.args.cies.now c.args.place x c.requires.inside (sym c.index-cies-place.is) in
    subst (λ (o : Option Cie). Answers (fault_by_cie o (fde_of c.args.fde.now)) c.quick_or_full_check.result) (sym (c.requires.cie ∙ here))
    c.quick_or_full_check.ensures.fault

pub returns-clause-rows : goal.returns-clause-rows
returns-clause-rows c =
    let x = c.index-cies-place.result in
    let here = read-map cie_of c.args.cies.now c.args.place x c.requires.inside (sym c.index-cies-place.is) in
    subst (λ (o : Option Cie). IfOk c.quick_or_full_check.result (λ rows. rows ≡ length (rows_by_cie o (fde_of c.args.fde.now))))
    (sym (c.requires.cie ∙ here)) c.quick_or_full_check.ensures.rows
