use Rattle.std.proofs.Common.{◌≡◌, rules, sym, ap, subst, ◌∙◌, map, get_or, Contains}
use Rattle.std.proofs.lemmas.List.Sorted.{answers_always}
use Rattle.dw_loclists.specs.Views.{start_of}
use Rattle.dw_loclists.proofs.Search.{searched-found, searched-none, contains-map, contained-map}
use Rattle.dw_loclists.proofs.find.find_list.Goals as goal

pub returns-in-Ok : goal.returns-in-Ok
returns-in-Ok c =
    let lists = c.args.lists.now in
    let place = c.in-Ok.place in
    let facts = c.in-Ok.ensures in
    let by_key = facts.position start_of (answers_always _ _ _ (λ f a r g called. search rules)) in
    let x = c.index-lists-place.result in
    let here : get_or lists place x ≡ x = sym c.index-lists-place.is in
    let found = searched-found start_of lists c.args.offset x place facts.bound by_key in
    let at_x : start_of x ≡ c.args.offset = ap start_of (sym here) ∙ found.1 in
    (at_x, subst (Contains (map start_of lists)) at_x (contains-map start_of lists x (place, facts.bound, here)))

pub returns-in-Err : goal.returns-in-Err
returns-in-Err c =
    let lists = c.args.lists.now in
    let facts = c.in-Err.ensures in
    let by_key = facts.position start_of (answers_always _ _ _ (λ f a r g called. search rules)) in
    let none = searched-none start_of lists c.requires c.args.offset c.in-Err.field-0 facts.bound by_key in
    λ among. let e = contained-map start_of lists c.args.offset among in none e.0 e.1 e.2
