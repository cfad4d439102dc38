use Rattle.std.proofs.Common.{◌≡◌, ◌<◌, [], ◌∷◌, ◌++◌, length, map, Err, List, sym, ap, ◌∙◌, arith, inl, inr}
use Rattle.std.specs.Prelude.{◌⊎◌}
use Rattle.std.proofs.lemmas.Grind.{common_steps}
use Rattle.std.proofs.lemmas.List.{map-append}
use Rattle.dw_bytes.specs.Answers.{memory}
use Rattle.dw_loclists.specs.declared.stored_section.LocationList.{LocationList}
use Rattle.dw_loclists.specs.Reading.{lists_at}
use Rattle.dw_loclists.specs.Stored.{stored_of}
use Rattle.dw_loclists.specs.Views.{start_of}
use Rattle.dw_loclists.proofs.EachTable.{next-list, last-list, bad-list, list-begins}
use Rattle.dw_loclists.proofs.StoredLists.{kept-as, list-kept, keeps-list}
use Rattle.dw_loclists.proofs.table.read_lists.Goals as goal

pub returns-in_err-read_list-clause-exact : goal.returns-in_err-read_list-clause-exact
returns-in_err-read_list-clause-exact c =
    let here = c.lists.cursor in
    let before = c.lists.invariant in
    let fault = c.in_err-read_list.field-0.0 in
    let some : 0 < length here.rest = omega (arith, c.lists-test.true, c.position.ensures, before.goes.same_end, c.requires) in
    let stop : (fault ≡ memory) ⊎ (lists_at c.args.cursor.now ≡ Err fault) = elim c.in_err-read_list.ensures.exact [
      | inl e ↦ inl e
      | inr e ↦ inr (bad-list c.args.cursor.now here before.so_far.0 fault before.so_far.1 some e)
    ] in
    grind (arith, common_steps, stop)

pub lists-preserved : goal.lists-preserved
lists-preserved c =
    let here = c.lists.cursor in
    let before = c.lists.invariant in
    let ls = before.so_far.0 in
    let l = c.in_ok-read_list.ensures.exact.0 in
    let read = c.in_ok-read_list.ensures.exact.1 in
    let goes = c.in_ok-read_list.ensures.goes_on in
    let old = c.lists.contents in
    let items : c.push.new.self.items ≡ old.lists.items ++ c.new.result ∷ [] = grind (arith, common_steps) in
    let starts : map start_of c.push.new.self.items ≡ map start_of old.lists.items ++ l.offset ∷ [] =
    ap (λ (xs : List LocationList). map start_of xs) items
    ∙ (map-append start_of old.lists.items (c.new.result ∷ [])
    ∙ ap (λ n. map start_of old.lists.items ++ n ∷ [])
    (c.new.ensures ∙ (c.position-offset.ensures ∙ sym (list-begins here l c.read_list.new.cursor read)))) in
    record {
      so_far = (
        ls ++ l ∷ [],
        next-list c.args.cursor.now here c.read_list.new.cursor ls l before.so_far.1 read,
        record {
          kept = list-kept (stored_of c.args.contents.now) (stored_of old) (kept-as old.tables.items (map start_of c.push.new.self.items)) ls l
              before.so_far.2.kept (ap (kept-as old.tables.items) starts);
          expressions = keeps-list ls l c.args.contents.now.expressions.items old.expressions.items c.read_list.new.expressions.items
              before.so_far.2.expressions c.in_ok-read_list.ensures.exact.2;
        },
      );
      goes = record {
        forward = omega (arith, before.goes.forward, goes.forward);
        same_end = goes.same_end ∙ before.goes.same_end;
        same_target = goes.same_target ∙ before.goes.same_target;
      };
    }

pub returns-clause-exact : goal.returns-clause-exact
returns-clause-exact c =
    let before = c.lists.invariant in (
      before.so_far.0,
      last-list c.args.cursor.now c.lists.cursor before.so_far.0 before.so_far.1
          (omega (arith, c.lists-test.false, c.position.ensures, before.goes.same_end, c.requires)),
      before.so_far.2,
    )
