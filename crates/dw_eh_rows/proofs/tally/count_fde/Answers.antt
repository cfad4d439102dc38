use Rattle.std.proofs.Common.{◌≡◌, ℕ, ◌+◌, ◌<◌, [], ◌∷◌, ◌++◌, List, Option, Some, None, length, map, get_or, sym, ap, subst, ◌∙◌}
use Rattle.std.specs.Prelude.{IfSome, slice_get}
use Rattle.dw_frame.specs.Views.{cie_of, fde_of}
use Rattle.dw_frame.specs.declared.entry.CommonInformationEntry.{CommonInformationEntry}
use Rattle.dw_rules.specs.Expressions.{expressions_of}
use Rattle.dw_rules.specs.ProgramFault.{fde_fault}
use Rattle.dw_rows.specs.Section.{cie_at}
use Rattle.dw_rows.specs.UnwindRows.{rows_of}
use Rattle.dw_rows.proofs.Elements.{read-map}
use Rattle.dw_eh_rows.specs.Counting.{times_in}
use Rattle.dw_eh_rows.proofs.Tallies.{tally-fde}
use Rattle.dw_eh_rows.proofs.tally.count_fde.Goals as goal

-- the CIE that was found is the one at the place
at-place : (cies : List CommonInformationEntry) (n place : ℕ) (x : CommonInformationEntry) → place < length cies
    → cie_at (map cie_of cies) n ≡ slice_get (map cie_of cies) place → get_or cies place x ≡ x → cie_at (map cie_of cies) n ≡ Some (cie_of x)
at-place cies n place x inside found here = found ∙ read-map cie_of cies place x inside here

pub returns-clause-cie : goal.returns-clause-cie
returns-clause-cie c = λ is.
    let found = c.in-Some.ensures in
    let x = c.index-cie.result.now in (
      cie_of x,
      at-place c.args.tally.now.cies.items c.args.fde.now.cie_pointer c.in-Some.place x found.cie.0 found.cie.1
          (sym (c.index-cie.ensures ∙ ap (λ t. get_or t.cies.items c.in-Some.place x) found.rest)),
    )

pub returns-clause-counted : goal.returns-clause-counted
returns-clause-counted c = λ is fdes so_far.
    let old = c.args.tally.now in
    let f = fde_of c.args.fde.now in
    let found = c.in-Some.ensures in
    let x = c.index-cie.result.now in
    let at = at-place old.cies.items c.args.fde.now.cie_pointer c.in-Some.place x found.cie.0 found.cie.1
    (sym (c.index-cie.ensures ∙ ap (λ t. get_or t.cies.items c.in-Some.place x) found.rest)) in
    let good = subst (λ (o : Option ℕ). IfSome o (λ n. fde_fault (cie_of x) f ≡ None)) c.in-Some-2.is c.in_ok-rows.ensures.good in
    let rows = subst (λ (o : Option ℕ). IfSome o (λ n. n ≡ length (rows_of (cie_of x) f))) c.in-Some-2.is c.in_ok-rows.ensures.rows in
    let kept = subst (λ (o : Option ℕ). IfSome o (λ n. c.rows_of_fde.new.checked ≡ expressions_of f.program)) c.in-Some-2.is
    c.in_ok-rows.ensures.expressions in
    let taken = c.in_ok-add_fde.ensures in
    let added = c.if-not-branch.false in
    let same = found.rest in
    tally-fde (map cie_of old.cies.items) fdes old c.add_fde.new.tally f (cie_of x) c.in-Some-short_range.range so_far at good
    (ap (λ t. t.base + c.in-Some-short_range.range.start) (sym same) ∙ c.in-Some-short_range.ensures.start)
    c.in-Some-short_range.ensures.count
    (ap (λ t. t.cies) taken.rest ∙ ap (λ t. t.cies) same) (ap (λ t. t.initial) taken.rest ∙ ap (λ t. t.initial) same)
    (ap (λ t. t.base) taken.rest ∙ ap (λ t. t.base) same)
    (λ base a. taken.ranges added base a ∙ ap (λ t. times_in base a (t.ranges.items ++ c.in-Some-short_range.range ∷ [])) same)
    (taken.fdes added ∙ ap (λ t. t.fdes + 1) same) (taken.rows added ∙ (ap (λ t. t.rows + c.in-Some-2.rows) same ∙ ap (λ n. old.rows + n) rows))
    (taken.expressions added ∙ (ap (λ t. t.expressions + length c.rows_of_fde.new.checked) same ∙ ap (λ n. old.expressions + n) (ap length kept)))
