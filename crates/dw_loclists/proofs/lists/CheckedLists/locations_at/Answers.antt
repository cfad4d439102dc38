use Rattle.std.proofs.Common.{◌≡◌, ℕ, false, List, ◌++◌, Contains, Result, Ok, refl, sym, ap, subst, ◌∙◌, arith}
use Rattle.std.specs.Prelude.{IsOk}
use Rattle.dw_bytes.specs.declared.fault.Fault.{Fault}
use Rattle.dw_bytes.specs.Reading.{ReadPosition, section_from}
use Rattle.dw_loclists.specs.Entries.{Entry}
use Rattle.dw_loclists.specs.Lists.{Loclist, starts_of}
use Rattle.dw_loclists.specs.Locations.{bounded_at, defaults_in, or_else_all}
use Rattle.dw_loclists.specs.Reading.{entries_at, ListSection, lists_in, located_in}
use Rattle.dw_loclists.specs.Stored.{AreStoredOf}
use Rattle.dw_loclists.specs.Views.{start_of}
use Rattle.dw_loclists.specs.Walks.{entries_in}
use Rattle.dw_loclists.proofs.Located.{list-read, inside-section, given-among, kept-among, kept-ascend}
use Rattle.dw_loclists.proofs.Search.{contained-map}
use Rattle.dw_loclists.proofs.lists.CheckedLists.locations_at.Goals as goal

abbrev begins : Loclist → ℕ
begins l = l.offset

pub at-requires-clause-inside : goal.at-requires-clause-inside
at-requires-clause-inside c =
    let s : ListSection = record { target = c.self.inside.target; section = c.self.inside.section.now } in
    let among : Contains (starts_of (lists_in s)) (start_of c.args.list.now) =
    subst (λ (t : ListSection). Contains (starts_of (lists_in t)) (start_of c.args.list.now)) (sym c.self.view_is) c.requires in
    let l = contained-map begins (lists_in s) (start_of c.args.list.now) among in
    omega (arith, inside-section s l.0 c.self.invariant.checked l.1, l.2, c.offset.ensures)

pub new-requires : goal.new-requires
new-requires c =
    let s : ListSection = record { target = c.self.inside.target; section = c.self.inside.section.now } in
    let checked = c.self.invariant.checked in
    let among : Contains (starts_of (lists_in s)) (start_of c.args.list.now) =
    subst (λ (t : ListSection). Contains (starts_of (lists_in t)) (start_of c.args.list.now)) (sym c.self.view_is) c.requires in
    let l = contained-map begins (lists_in s) (start_of c.args.list.now) among in
    let read = list-read s l.0 checked l.1 in
    let here : c.at.result ≡ section_from s.target s.section l.0.offset =
    c.at.ensures ∙ ap (λ n. section_from s.target s.section n) (c.offset.ensures ∙ sym l.2) in
    let ahead : entries_at false c.at.result ≡ Ok (l.0.entries, read.0) = ap (entries_at false) here ∙ read.1 in
    let kept : AreStoredOf (located_in s) c.deref.result.now =
    subst (AreStoredOf (located_in s)) (sym c.deref.ensures.value) c.self.invariant.expressions in
    record {
      readable = λ going. subst (λ (r : Result (List Entry × ReadPosition) Fault). IsOk r) (sym ahead) refl;
      order = kept-ascend s c.deref.result.now checked kept;
      among = λ going x h.
          let given : Contains (bounded_at c.args.base c.args.address l.0.entries ++ defaults_in l.0.entries) x =
          subst (λ (es : List Entry). Contains (bounded_at c.args.base c.args.address es ++ defaults_in es) x) (ap entries_in ahead) h in
          kept-among (located_in s) c.deref.result.now x kept (given-among s l.0 c.args.base c.args.address x l.1 given);
    }

pub returns : goal.returns
returns c = λ m m_in m_at.
    let s : ListSection = record { target = c.self.inside.target; section = c.self.inside.section.now } in
    let in_s : Contains (lists_in s) m = subst (λ (t : ListSection). Contains (lists_in t) m) (sym c.self.view_is) m_in in
    let read = list-read s m c.self.invariant.checked in_s in
    let here : c.at.result ≡ section_from s.target s.section m.offset =
    c.at.ensures ∙ ap (λ n. section_from s.target s.section n) (c.offset.ensures ∙ sym m_at) in
    let ahead : entries_in (entries_at false c.at.result) ≡ m.entries =
    ap (λ (r : ReadPosition). entries_in (entries_at false r)) here ∙ ap entries_in read.1 in
    c.new.ensures ∙ ap (λ (es : List Entry). or_else_all (bounded_at c.args.base c.args.address es) (defaults_in es)) ahead
