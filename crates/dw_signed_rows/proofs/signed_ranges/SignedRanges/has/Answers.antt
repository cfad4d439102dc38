use Rattle.std.proofs.Common.{◌≡◌, ℕ, ◌<◌, ◌-◌, rules, sym, ap, ◌∙◌, subst, arith, get_or, length}
use Rattle.std.proofs.lemmas.List.{get_or_default}
use Rattle.std.proofs.lemmas.List.Sorted.{answers_always}
use Rattle.std.specs.Prelude.{nat_lt}
use Rattle.dw_rules.proofs.Search.{searched-found}
use Rattle.dw_signed_rows.specs.SignedRanges.{AreInOrder, has_signed}
use Rattle.dw_signed_rows.specs.declared.signed_range.SignedRange.{SignedRange}
use Rattle.dw_signed_rows.proofs.Ranges.{last-below, none-above, parted-by, start-signed}
use Rattle.dw_signed_rows.proofs.signed_ranges.SignedRanges.has.Goals as goal

abbrev start_in : SignedRange → ℕ
start_in r = r.start

-- a range to name where there is none
abbrev no_range : SignedRange
no_range = record { start = 0; end = 0 }

pub returns-in-Ok : goal.returns-in-Ok
returns-in-Ok c =
    let xs = c.deref.result.now in
    let i = c.in-Ok.field-0 in
    let facts = c.in-Ok.ensures in
    let order = subst (AreInOrder 0) (sym c.deref.ensures.value) c.self.invariant in
    let by_key = facts.position start_in (answers_always _ _ _ (λ f a r g called. search rules)) in
    let found = searched-found start_in xs c.args.address no_range i facts.bound by_key in
    let signed = start-signed 0 xs i no_range order facts.bound in
    sym (ap (λ l. has_signed l c.args.address) (sym (c.deref.ensures.value ∙ c.self.view_is)) ∙ (ap (has_signed xs) (sym found.1) ∙ signed))

pub returns-in-Err-eq0 : goal.returns-in-Err-eq0
returns-in-Err-eq0 c =
    let xs = c.deref.result.now in
    let facts = c.in-Err-eq0.ensures in
    let order = subst (AreInOrder 0) (sym c.deref.ensures.value) c.self.invariant in
    let by_key = facts.position start_in (answers_always _ _ _ (λ f a r g called. search rules)) in
    let parted = parted-by 0 xs c.args.address c.in-Err-eq0.field-0 order by_key in
    let none = none-above xs c.args.address no_range (λ j few. parted.1 j no_range (omega (arith, c.in-Err-eq0.field-0-test)) few) in
    sym (ap (λ l. has_signed l c.args.address) (sym (c.deref.ensures.value ∙ c.self.view_is)) ∙ none)

pub returns-in-Err : goal.returns-in-Err
returns-in-Err c =
    let xs = c.deref.result.now in
    let i = c.in-Err.index - 1 in
    let facts = c.in-Err.ensures in
    let some = c.in-Err.index-test.1 in
    let order = subst (AreInOrder 0) (sym c.deref.ensures.value) c.self.invariant in
    let by_key = facts.position start_in (answers_always _ _ _ (λ f a r g called. search rules)) in
    let parted = parted-by 0 xs c.args.address c.in-Err.index order by_key in
    let few : i < length xs = omega (arith, some, facts.bound) in
    let below = parted.0 i no_range (omega (arith, some)) in
    let last = last-below 0 xs i c.args.address no_range order few (omega (arith, below))
    (λ j more within. parted.1 j no_range (omega (arith, some, more)) within) in
    let here : get_or xs i no_range ≡ c.index.result.now =
    ap (λ l. get_or l i no_range) c.deref.ensures.value
    ∙ (get_or_default c.self.inside.ranges.items i no_range c.index.result.now (subst (λ l. i < length l) c.deref.ensures.value few)
    ∙ sym c.index.ensures) in
    sym (ap (λ l. has_signed l c.args.address) (sym (c.deref.ensures.value ∙ c.self.view_is))
    ∙ (last ∙ ap (λ (r : SignedRange). nat_lt c.args.address r.end) here))
