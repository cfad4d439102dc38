use Rattle.std.proofs.Common.{◌≡◌, List, [], ◌∷◌, ◌++◌, Some, sym, ap, subst, ◌∙◌, arith, inl, inr}
use Rattle.std.specs.Prelude.{◌⊎◌}
use Rattle.std.proofs.lemmas.Grind.{common_steps}
use Rattle.dw_bytes.specs.Answers.{memory}
use Rattle.dw_loclists.specs.Reading.{tables_from, lists_fault}
use Rattle.dw_loclists.specs.Lists.{Table, lists_of}
use Rattle.dw_loclists.specs.Locations.{expressions_in}
use Rattle.dw_loclists.specs.Stored.{Kept, stored_from, with_table, AreStoredOf}
use Rattle.dw_loclists.proofs.EachTable.{at-fault}
use Rattle.dw_loclists.proofs.StoredLists.{table-kept, keeps-table}
use Rattle.dw_loclists.proofs.Checked.{all-tables, tables-checked, tables-are, tables-fault, one-more}
use Rattle.dw_loclists.proofs.lists.check_lists.Goals as goal

pub returns-in_err-at-clause-answer : goal.returns-in_err-at-clause-answer
returns-in_err-at-clause-answer c =
    let target = c.args.target in
    let section = c.args.section.now in
    let before = c.tables.invariant in
    let fault = c.in_err-at.field-0.0 in
    let stop : (fault ≡ memory) ⊎ (lists_fault target section ≡ Some fault) = elim c.in_err-at.ensures.exact [
      | inl e ↦ inl e
      | inr e ↦ inr (tables-fault target section before.so_far.0 (tables_from target section c.tables.at) fault before.so_far.1
          (at-fault target section c.tables.at fault (omega arith) e))
    ] in
    grind (arith, common_steps, stop)

pub tables-preserved : goal.tables-preserved
tables-preserved c =
    let target = c.args.target in
    let section = c.args.section.now in
    let before = c.tables.invariant in
    let ts = before.so_far.0 in
    let read = c.in_ok-at.ensures.exact in
    record {
      so_far = (
        ts ++ read.0 ∷ [],
        one-more target section c.tables.at c.in_ok-at.at ts read.0 before.so_far.1 read.1,
        read.2.kept ∙ (ap (λ (k : Kept). with_table k read.0) before.so_far.2 ∙ table-kept ts read.0),
        keeps-table ts read.0 c.tables.contents.expressions.items c.read_table.new.contents.expressions.items before.so_far.3
            read.2.expressions,
      );
      inside = c.in_ok-at.ensures.forward.1;
    }

pub invariant_of-result : goal.invariant_of-result
invariant_of-result c =
    let target = c.args.target in
    let section = c.args.section.now in
    let before = c.tables.invariant in
    let all = all-tables target section c.tables.at before.so_far.0 before.so_far.1 (omega arith) in
    let same = sym (tables-are target section before.so_far.0 all) in
    record {
      checked = tables-checked target section before.so_far.0 all;
      kept = before.so_far.2 ∙ ap stored_from same;
      expressions = subst (λ (ts : List Table). AreStoredOf (expressions_in (lists_of ts)) c.tables.contents.expressions.items) same
          before.so_far.3;
      short = c.requires;
    }

pub returns-clause-answer : goal.returns-clause-answer
returns-clause-answer c =
    let before = c.tables.invariant in
    tables-checked c.args.target c.args.section.now before.so_far.0
    (all-tables c.args.target c.args.section.now c.tables.at before.so_far.0 before.so_far.1 (omega arith))
