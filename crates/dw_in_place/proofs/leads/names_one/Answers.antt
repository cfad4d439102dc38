use Rattle.std.proofs.Common.{ℕ, rules, refl, sym, ap, ◌∙◌, get_or}
use Rattle.std.proofs.lemmas.List.Sorted.{answers_always}
use Rattle.dw_frame.specs.Views.{fde_of}
use Rattle.dw_frame.specs.declared.entry.FrameDescriptionEntry.{FrameDescriptionEntry}
use Rattle.dw_rows.specs.AddressIndex.{fde_offset}
use Rattle.dw_rules.proofs.Elements.{ascending-back, contains-map, contained-map}
use Rattle.dw_rules.proofs.Search.{searched-found, searched-none}
use Rattle.dw_rows.proofs.Elements.{some-element}
use Rattle.dw_in_place.proofs.leads.names_one.Goals as goal

abbrev offset-in : FrameDescriptionEntry → ℕ
offset-in f = f.offset

pub returns-in-Ok : goal.returns-in-Ok
returns-in-Ok c =
    let fdes = c.args.fdes.now in
    let place = c.in-Ok.field-0 in
    let facts = c.in-Ok.ensures in
    let by_key = facts.position offset-in (answers_always _ _ _ (λ f a r g called. search rules)) in
    let d = some-element fdes place facts.bound in
    let found = searched-found offset-in fdes c.offset_of_record-offset.result d place facts.bound by_key in
    let x = get_or fdes place d in (
      λ yes. (fde_of x, contains-map fde_of fdes x found.0, sym c.offset_of_record-offset.ensures ∙ sym found.1),
      λ some. refl,
    )

pub returns-in-Err : goal.returns-in-Err
returns-in-Err c =
    let fdes = c.args.fdes.now in
    let facts = c.in-Err.ensures in
    let by_key = facts.position offset-in (answers_always _ _ _ (λ f a r g called. search rules)) in
    let none = searched-none offset-in fdes (ascending-back fde_of fde_offset fdes c.requires.order) c.offset_of_record-offset.result
    c.in-Err.field-0 facts.bound by_key in (
      λ yes. absurd cc,
      λ some.
          let e = contained-map fde_of fdes some.0 some.1 in
          absurd (none e.0 e.1 (ap fde_offset e.2 ∙ (sym some.2 ∙ sym c.offset_of_record-offset.ensures))),
    )
