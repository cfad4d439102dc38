use Rattle.std.proofs.Common.{rules, sym}
use Rattle.std.proofs.lemmas.List.Sorted.{answers_always}
use Rattle.dw_eh_frame.specs.FirstFdes.{place_address}
use Rattle.dw_eh_frame.proofs.FirstFdes.{listed-none, listed-some}
use Rattle.dw_eh_frame.proofs.PlaceSearch.{searched-found, searched-none}
use Rattle.dw_eh_frame.proofs.first_fdes.index_at.Goals as goal

pub returns-in-Err : goal.returns-in-Err
returns-in-Err c =
    let facts = c.in-Err.ensures in
    let by_key = facts.position place_address (answers_always _ _ _ (λ f a r g called. search rules)) in
    sym (listed-none c.args.places.now c.args.address
    (searched-none place_address c.args.places.now c.requires c.args.address c.in-Err.field-0 facts.bound by_key))

pub returns-in-Ok : goal.returns-in-Ok
returns-in-Ok c =
    let facts = c.in-Ok.ensures in
    let by_key = facts.position place_address (answers_always _ _ _ (λ f a r g called. search rules)) in
    let found = searched-found place_address c.args.places.now c.args.address (record { address = 0; index = 0 }) c.in-Ok.index facts.bound by_key in
    sym (listed-some c.args.places.now _ c.args.address c.requires found.0 found.1)
