use Rattle.std.proofs.Common.{◌≡◌, ◌≤◌, ◌+◌, ◌-◌, [], ◌∷◌, ◌++◌, length, map, take, drop, Ok, Err, ℕ, List, refl, sym, ap, subst, ◌∙◌}
use Rattle.std.proofs.Common.{arith}
use Rattle.std.proofs.lemmas.Grind.{common_steps}
use Rattle.std.proofs.lemmas.List.{length-take}
use Rattle.dw_bytes.specs.Reading.{ReadPosition, section_from}
use Rattle.dw_bytes.specs.Fields.{fields_at}
use Rattle.dw_bytes.specs.Sequence.{exactly_of}
use Rattle.dw_loclists.specs.declared.stored_section.LocationList.{LocationList}
use Rattle.dw_loclists.specs.Lists.{table_header, starts_of}
use Rattle.dw_loclists.specs.Bounds.{Ascends}
use Rattle.dw_loclists.specs.Reading.{list_offset_at, table_at}
use Rattle.dw_loclists.specs.Stored.{Kept, stored_of}
use Rattle.dw_loclists.specs.Views.{start_of}
use Rattle.dw_loclists.proofs.EachTable.{table-made, table-unnamed, header-leaves, new-starts, table-of, lists-found}
use Rattle.dw_loclists.proofs.StoredLists.{past-lists}
use Rattle.dw_loclists.proofs.Order.{starts-rise}
use Rattle.dw_loclists.proofs.Search.{rise-ascends, ascends-back}
use Rattle.dw_loclists.proofs.table.read_table.Goals as goal

-- if lists with the offsets `starts` were added to `old`, the stored lists from index `first`, the
-- length of `old`, have the offsets `starts`
slice-starts : (items old new : List LocationList) (first : ℕ) (starts : List ℕ) → items ≡ new → first ≡ length old
    → map start_of new ≡ map start_of old ++ starts → map start_of (take (length items - first) (drop first items)) ≡ starts
slice-starts items old new first starts same at is =
    ap (λ (xs : List LocationList). map start_of (take (length xs - first) (drop first xs))) same
    ∙ (ap (λ n. map start_of (take (length new - n) (drop n new))) at ∙ new-starts start_of old new starts is)

pub check_array-requires : goal.check_array-requires
check_array-requires c =
    let lists = c.in_ok-read_lists.ensures.exact in
    let first_is : c.len-first.result ≡ length c.args.contents.now.lists.items = grind (arith, common_steps) in
    let starts =
    slice-starts c.deref.result.now c.args.contents.now.lists.items c.read_lists.new.contents.lists.items c.len-first.result
    (starts_of lists.0) c.deref.ensures.value first_is (ap (λ (k : Kept). k.lists) lists.2.kept) in
    let here = c.skip_offsets.new.self in
    let are = lists-found here.target here lists.0 refl lists.1 in
    ascends-back start_of (take (length c.deref.result.now - c.len-first.result) (drop c.len-first.result c.deref.result.now))
    (subst (Ascends (λ n. n)) (sym starts)
    (rise-ascends here.position (here.position + length here.rest) (starts_of lists.0)
    (starts-rise here.target here.position here.rest lists.0 are)))

pub returns-in_err-check_array-clause-exact : goal.returns-in_err-check_array-clause-exact
returns-in_err-check_array-clause-exact c =
    let target = c.args.target in
    let section = c.args.section.now in
    let body = c.in_ok-body.body in
    let bytes = take body.end section in
    let mid = c.read_header.new.cursor in
    let lists = c.in_ok-read_lists.ensures.exact in
    let offsets = c.in_ok-skip_offsets.ensures.exact in
    let fault = c.in_err-check_array.field-0.0 in
    let first_is : c.len-first.result ≡ length c.args.contents.now.lists.items = grind (arith, common_steps) in
    let starts =
    slice-starts c.deref.result.now c.args.contents.now.lists.items c.read_lists.new.contents.lists.items c.len-first.result
    (starts_of lists.0) c.deref.ensures.value first_is (ap (λ (k : Kept). k.lists) lists.2.kept) in
    let cursor_is : c.at-cursor.result ≡ section_from target bytes body.start = grind (arith, common_steps) in
    let header : fields_at (table_header target) (section_from target bytes body.start) ≡ Ok (c.in_ok-count.count, mid) =
    ap (fields_at (table_header target)) (sym cursor_is) ∙ c.in_ok-count.ensures.exact in
    let inside : body.start ≤ length bytes =
    omega (arith, length-take body.end section, c.in_ok-body.ensures.ordered.1, c.in_ok-body.ensures.ordered.2) in
    let mid_is : mid ≡ section_from target bytes mid.position =
    header-leaves target bytes body.start c.in_ok-count.count mid inside header in
    let array_at : c.at-array.result ≡ section_from target bytes mid.position = grind (arith, common_steps) in
    let array_is : c.at-array.result ≡ mid = array_at ∙ sym mid_is in
    let named : exactly_of (list_offset_at body.format mid.position (starts_of lists.0)) c.in_ok-count.count mid ≡ Err fault =
    sym (ap (λ (r : ReadPosition). exactly_of (list_offset_at body.format r.position (starts_of lists.0)) c.in_ok-count.count r) array_is)
    ∙ (sym (ap (λ (xs : List ℕ). exactly_of (list_offset_at body.format c.at-array.result.position xs) c.in_ok-count.count
    c.at-array.result) starts) ∙ c.in_err-check_array.ensures.exact) in
    let stop : table_at (section_from target section c.args.at) ≡ Err fault =
    table-unnamed (section_from target section c.args.at) (section_from target section body.end) mid c.skip_offsets.new.self body.format
    (section_from target bytes body.start) c.in_ok-count.count offsets.0 lists.0 fault c.in_ok-body.ensures.exact header offsets.1
    lists.1 named in
    grind (arith, common_steps, stop)

pub returns-clause-exact : goal.returns-clause-exact
returns-clause-exact c =
    let target = c.args.target in
    let section = c.args.section.now in
    let body = c.in_ok-body.body in
    let bytes = take body.end section in
    let mid = c.read_header.new.cursor in
    let lists = c.in_ok-read_lists.ensures.exact in
    let offsets = c.in_ok-skip_offsets.ensures.exact in
    let first_is : c.len-first.result ≡ length c.args.contents.now.lists.items = grind (arith, common_steps) in
    let starts =
    slice-starts c.deref.result.now c.args.contents.now.lists.items c.read_lists.new.contents.lists.items c.len-first.result
    (starts_of lists.0) c.deref.ensures.value first_is (ap (λ (k : Kept). k.lists) lists.2.kept) in
    let cursor_is : c.at-cursor.result ≡ section_from target bytes body.start = grind (arith, common_steps) in
    let header : fields_at (table_header target) (section_from target bytes body.start) ≡ Ok (c.in_ok-count.count, mid) =
    ap (fields_at (table_header target)) (sym cursor_is) ∙ c.in_ok-count.ensures.exact in
    let inside : body.start ≤ length bytes =
    omega (arith, length-take body.end section, c.in_ok-body.ensures.ordered.1, c.in_ok-body.ensures.ordered.2) in
    let mid_is : mid ≡ section_from target bytes mid.position =
    header-leaves target bytes body.start c.in_ok-count.count mid inside header in
    let array_at : c.at-array.result ≡ section_from target bytes mid.position = grind (arith, common_steps) in
    let array_is : c.at-array.result ≡ mid = array_at ∙ sym mid_is in
    let offsets_are = c.in_ok-check_array.ensures.exact in
    let named : exactly_of (list_offset_at body.format mid.position (starts_of lists.0)) c.in_ok-count.count mid ≡ Ok
    (offsets_are.0, c.check_array.new.cursor) =
    sym (ap (λ (r : ReadPosition). exactly_of (list_offset_at body.format r.position (starts_of lists.0)) c.in_ok-count.count r) array_is)
    ∙ (sym (ap (λ (xs : List ℕ). exactly_of (list_offset_at body.format c.at-array.result.position xs) c.in_ok-count.count
    c.at-array.result) starts) ∙ offsets_are.1) in
    let made =
    table-made (section_from target section c.args.at) (section_from target section body.end) mid c.skip_offsets.new.self
    c.check_array.new.cursor body.format (section_from target bytes body.start) c.in_ok-count.count offsets.0 offsets_are.0 lists.0
    c.in_ok-body.ensures.exact header offsets.1 lists.1 named in
    let tables : c.push.new.self.items ≡ c.read_lists.new.contents.tables.items ++ c.args.at ∷ [] = grind (arith, common_steps) in
    let t = table-of c.args.at body.format mid.position offsets_are.0 lists.0 in (
      t,
      made,
      record {
        kept = past-lists (stored_of c.args.contents.now) (stored_of c.read_lists.new.contents) t c.push.new.self.items lists.2.kept tables;
        expressions = lists.2.expressions;
      },
    )
