use Rattle.std.proofs.Common.{◌≡◌, ◌≤◌, ◌+◌, length, Err, None, Some, sym, subst, arith, inl, inr}
use Rattle.std.specs.Prelude.{◌⊎◌}
use Rattle.std.proofs.lemmas.Grind.{common_steps}
use Rattle.dw_bytes.specs.Answers.{memory}
use Rattle.dw_loclists.specs.Bounds.{IsBefore}
use Rattle.dw_loclists.specs.Reading.{checked_entry_at, entry_fault}
use Rattle.dw_loclists.specs.Views.{entry_of}
use Rattle.dw_loclists.proofs.EachEntry.{checked-refused, checked-none, checked-fault, before-inside}
use Rattle.dw_loclists.proofs.list.check_next.Goals as goal

pub returns-in_err-entry-clause-exact : goal.returns-in_err-entry-clause-exact
returns-in_err-entry-clause-exact c =
    let here = c.args.cursor.now in
    let fault = c.in_err-entry.field-0.0 in
    let bad : checked_entry_at c.args.has_default here ≡ Err fault =
    checked-refused c.args.has_default here fault c.in_err-entry.ensures.exact in
    grind (arith, common_steps, bad)

pub returns-in_err-check_entry-clause-exact : goal.returns-in_err-check_entry-clause-exact
returns-in_err-check_entry-clause-exact c =
    let here = c.args.cursor.now in
    let d = c.args.has_default in
    let fault = c.in_err-check_entry.field-0.0 in
    let entry = entry_of c.in_ok-entry.entry in
    let stop : (fault ≡ memory) ⊎ (checked_entry_at d here ≡ Err fault) = elim c.in_err-check_entry.ensures.answer [
      | inl e ↦ inl e
      | inr e ↦
          let here_is : entry_fault d here.position entry ≡ Some fault =
          subst (λ at. entry_fault d at entry ≡ Some fault) c.position-at.ensures e in
          inr (checked-fault d here entry c.read.new.cursor fault c.in_ok-entry.ensures.exact here_is)
    ] in
    grind (arith, common_steps, stop)

pub returns-in_err-check_entry-clause-within : goal.returns-in_err-check_entry-clause-within
returns-in_err-check_entry-clause-within c =
    let here = c.args.cursor.now in
    let fault = c.in_err-check_entry.field-0.0 in
    let entry = entry_of c.in_ok-entry.entry in
    let before : IsBefore here.position entry fault.at =
    subst (λ at. IsBefore at entry fault.at) c.position-at.ensures c.in_err-check_entry.ensures.inside in
    let inside : fault.at ≤ here.position + length here.rest =
    before-inside here entry c.read.new.cursor fault.at c.in_ok-entry.ensures.exact before in
    grind (arith, common_steps, inside)

pub returns-clause-exact : goal.returns-clause-exact
returns-clause-exact c =
    let here = c.args.cursor.now in
    let d = c.args.has_default in
    let entry = entry_of c.in_ok-entry.entry in
    let fine : entry_fault d here.position entry ≡ None =
    subst (λ at. entry_fault d at entry ≡ None) c.position-at.ensures c.in_ok-check_entry.ensures.answer in
    record {
      entry = entry;
      read = checked-none d here entry c.read.new.cursor c.in_ok-entry.ensures.exact fine;
      end_is = sym c.is_end.ensures;
      default_is = sym c.is_default.ensures;
      kept = c.in_ok-check_entry.ensures.kept;
    }
