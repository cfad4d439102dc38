use Rattle.std.proofs.Common.{◌≡◌, [], Ok, ap, subst, sym, ◌∙◌}
use Rattle.dw_bytes.specs.Reading.{ReadPosition, section_from}
use Rattle.dw_loclists.specs.Stored.{AreStoredOf, list_found}
use Rattle.dw_loclists.specs.Lists.{Loclist}
use Rattle.dw_loclists.specs.Reading.{list_at}
use Rattle.dw_loclists.proofs.one_list.check_list.Goals as goal

pub invariant_of-result : goal.invariant_of-result
invariant_of-result c =
    let read = c.in_ok-read_list.ensures.exact in
    record {
      list = read.0;
      after = c.read_list.new.cursor;
      read = ap list_at (sym c.at-cursor.ensures) ∙ read.1;
      expressions = read.2 [] (subst (AreStoredOf []) (sym c.new-expressions.ensures.items) tt);
      inside = c.requires.inside;
      short = c.requires.short;
    }

pub returns-clause-list : goal.returns-clause-list
returns-clause-list c =
    let r : ReadPosition = section_from c.args.target c.args.section.now c.args.offset in
    let after : ReadPosition = c.read_list.new.cursor in
    let read = c.in_ok-read_list.ensures.exact in
    let here : list_at r ≡ Ok (read.0, after) = ap list_at (sym c.at-cursor.ensures) ∙ read.1 in
    (after, here ∙ ap (λ (l : Loclist). Ok (l, after)) (sym (ap (list_found r) here)))
