use Rattle.std.proofs.Common.{◌≡◌, false, List, ◌++◌, Contains, Result, Ok, refl, sym, ap, subst, ◌∙◌}
use Rattle.std.specs.Prelude.{IsOk}
use Rattle.dw_bytes.specs.declared.fault.Fault.{Fault}
use Rattle.dw_bytes.specs.Reading.{ReadPosition, section_from}
use Rattle.dw_loclists.specs.Entries.{Entry}
use Rattle.dw_loclists.specs.Lists.{Loclist}
use Rattle.dw_loclists.specs.Locations.{bounded_at, defaults_in, expressions_of, locations_of, or_else_all}
use Rattle.dw_loclists.specs.Reading.{entries_at}
use Rattle.dw_loclists.specs.Stored.{AreStoredOf, list_found}
use Rattle.dw_loclists.specs.Walks.{entries_in}
use Rattle.dw_loclists.proofs.EachList.{list-entries}
use Rattle.dw_loclists.proofs.Located.{entries-among, kept-among, list-ascend}
use Rattle.dw_loclists.proofs.one_list.CheckedList.locations_at.Goals as goal

pub new-requires : goal.new-requires
new-requires c =
    let r : ReadPosition = section_from c.self.inside.target c.self.inside.section.now c.self.inside.offset in
    let l : Loclist = c.self.invariant.list in
    let ahead : entries_at false c.at.result ≡ Ok (l.entries, c.self.invariant.after) =
    ap (entries_at false) c.at.ensures ∙ list-entries r l c.self.invariant.after c.self.invariant.read in
    let kept : AreStoredOf (expressions_of l.entries) c.deref.result.now =
    subst (AreStoredOf (expressions_of l.entries)) (sym c.deref.ensures.value) c.self.invariant.expressions in
    record {
      readable = λ going. subst (λ (found : Result (List Entry × ReadPosition) Fault). IsOk found) (sym ahead) refl;
      order = list-ascend c.self.inside.target r l c.self.invariant.after c.deref.result.now refl c.self.invariant.read kept;
      among = λ going x h.
          let own : Contains (bounded_at c.args.base c.args.address l.entries ++ defaults_in l.entries) x =
          subst (λ (es : List Entry). Contains (bounded_at c.args.base c.args.address es ++ defaults_in es) x) (ap entries_in ahead) h in
          kept-among (expressions_of l.entries) c.deref.result.now x kept (entries-among c.args.base c.args.address l.entries x own);
    }

pub returns : goal.returns
returns c =
    let r : ReadPosition = section_from c.self.inside.target c.self.inside.section.now c.self.inside.offset in
    let l : Loclist = c.self.invariant.list in
    let is : l ≡ c.args.self.now = sym (ap (list_found r) c.self.invariant.read) ∙ c.self.view_is in
    let ahead : entries_in (entries_at false c.at.result) ≡ l.entries =
    ap (λ (s : ReadPosition). entries_in (entries_at false s)) c.at.ensures
    ∙ ap entries_in (list-entries r l c.self.invariant.after c.self.invariant.read) in
    c.new.ensures ∙ ap (λ (es : List Entry). or_else_all (bounded_at c.args.base c.args.address es) (defaults_in es)) ahead
    ∙ ap (λ (m : Loclist). locations_of m c.args.base c.args.address) is
