use Rattle.std.proofs.Common.{◌≡◌, ℕ, List, map, Contains, sym, ap, subst, ◌∙◌}
use Rattle.std.specs.Prelude.{MatchOption}
use Rattle.dw_loclists.specs.declared.stored_section.LocationList.{LocationList}
use Rattle.dw_loclists.specs.Bounds.{Ascends}
use Rattle.dw_loclists.specs.Lists.{starts_of}
use Rattle.dw_loclists.specs.Reading.{ListSection, lists_in}
use Rattle.dw_loclists.specs.Stored.{Kept}
use Rattle.dw_loclists.specs.Views.{start_of}
use Rattle.dw_loclists.proofs.Checked.{lists-ascend}
use Rattle.dw_loclists.proofs.Search.{ascends-back}
use Rattle.dw_loclists.proofs.lists.CheckedLists.list.Goals as goal

pub find_list-requires : goal.find_list-requires
find_list-requires c =
    let s : ListSection = record { target = c.self.inside.target; section = c.self.inside.section.now } in
    let starts : map start_of c.deref.result.now ≡ starts_of (lists_in s) =
    ap (λ (xs : List LocationList). map start_of xs) c.deref.ensures.value ∙ ap (λ (k : Kept). k.lists) c.self.invariant.kept in
    ascends-back start_of c.deref.result.now (subst (Ascends (λ n. n)) (sym starts) (lists-ascend s c.self.invariant.checked))

pub returns : goal.returns
returns c =
    let s : ListSection = record { target = c.self.inside.target; section = c.self.inside.section.now } in
    let starts : map start_of c.deref.result.now ≡ starts_of (lists_in c.args.self.now) =
    ap (λ (xs : List LocationList). map start_of xs) c.deref.ensures.value
    ∙ (ap (λ (k : Kept). k.lists) c.self.invariant.kept ∙ ap (λ (t : ListSection). starts_of (lists_in t)) c.self.view_is) in
    subst (λ (n : ℕ). MatchOption c.find_list.result (¬ Contains (starts_of (lists_in c.args.self.now)) n)
    (λ list. (start_of list ≡ n) × Contains (starts_of (lists_in c.args.self.now)) n)) c.from.ensures
    (subst (λ (xs : List ℕ). MatchOption c.find_list.result (¬ Contains xs c.from.result)
    (λ list. (start_of list ≡ c.from.result) × Contains xs c.from.result)) starts c.find_list.ensures)
