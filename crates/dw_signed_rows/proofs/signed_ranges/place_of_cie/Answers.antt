use Rattle.std.proofs.Common.{◌≡◌, ℕ, rules, sym, ap, ◌∙◌, map, get_or}
use Rattle.std.proofs.lemmas.List.Sorted.{answers_always}
use Rattle.std.proofs.lemmas.List.{get_or_default}
use Rattle.dw_frame.specs.Views.{cie_of}
use Rattle.dw_frame.specs.declared.entry.CommonInformationEntry.{CommonInformationEntry}
use Rattle.dw_rows.specs.AddressIndex.{cie_offset}
use Rattle.dw_rules.proofs.Search.{searched-found, searched-none}
use Rattle.dw_rows.proofs.Faults.{found-at, absent-at}
use Rattle.dw_rules.proofs.Elements.{ascending-back, contains-map, contained-map}
use Rattle.dw_rows.proofs.Elements.{read-map, some-element}
use Rattle.dw_signed_rows.proofs.signed_ranges.place_of_cie.Goals as goal

abbrev offset_in : CommonInformationEntry → ℕ
offset_in c = c.offset

pub returns-in-Ok : goal.returns-in-Ok
returns-in-Ok c =
    let cies = c.args.cies.now in
    let place = c.in-Ok.place in
    let facts = c.in-Ok.ensures in
    let by_key = facts.position offset_in (answers_always _ _ _ (λ f a r g called. search rules)) in
    let x = get_or cies place (some-element cies place facts.bound) in
    let here : get_or cies place x ≡ x = get_or_default cies place x (some-element cies place facts.bound) facts.bound in
    let found = searched-found offset_in cies c.args.offset x place facts.bound by_key in
    let at_x : offset_in x ≡ c.args.offset = ap offset_in (sym here) ∙ found.1 in (
      facts.bound,
      found-at (map cie_of cies) c.requires (cie_of x) c.args.offset (contains-map cie_of cies x (place, facts.bound, here)) at_x
          ∙ sym (read-map cie_of cies place x facts.bound here),
    )

pub returns-in-Err : goal.returns-in-Err
returns-in-Err c =
    let cies = c.args.cies.now in
    let facts = c.in-Err.ensures in
    let by_key = facts.position offset_in (answers_always _ _ _ (λ f a r g called. search rules)) in
    let none = searched-none offset_in cies
    (ascending-back cie_of cie_offset cies c.requires) c.args.offset c.in-Err.field-0 facts.bound by_key in
    (absent-at (map cie_of cies) c.args.offset (λ d d_in same. let e = contained-map cie_of cies d d_in in
    none e.0 e.1 (ap cie_offset e.2 ∙ same)))
