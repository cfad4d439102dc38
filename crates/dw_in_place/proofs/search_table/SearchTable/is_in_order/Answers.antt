use Rattle.std.proofs.Common.{◌≡◌, ℕ, ◌+◌, ◌-◌, ◌<◌, ◌≤◌, sym, ap, ◌∙◌, arith, inl, inr}
use Rattle.std.proofs.lemmas.Bool.{cases_lt}
use Rattle.dw_in_place.specs.SearchTables.{Table, location_in}
use Rattle.dw_in_place.specs.Views.{table_of}
use Rattle.dw_in_place.proofs.search_table.SearchTable.is_in_order.Goals as goal

abbrev IsInOrderBelow : Table → ℕ → Type 0
IsInOrderBelow t n = (j k : ℕ) → j ≤ k → k < n → location_in t j ≤ location_in t k

-- one more entry that doesn't begin before the last one
one-more : (t : Table) (n last location : ℕ) → 1 ≤ n → IsInOrderBelow t n → last ≡ location_in t (n - 1) → location ≡ location_in t n
    → last ≤ location → IsInOrderBelow t (n + 1)
one-more t n last location some order last_is location_is le j k jk less = elim (cases_lt k n) [
  | inl before ↦ order j k jk before
  | inr here ↦
      let k_is : k ≡ n = omega arith in
      let at : location_in t k ≡ location = ap (location_in t) k_is ∙ sym location_is in
      elim (cases_lt j n) [
        | inl before ↦
            let first = order j (n - 1) (omega arith) (omega arith) in
            let last_at : location_in t (n - 1) ≡ last = sym last_is in
            omega arith
        | inr same ↦
            let j_is : j ≡ k = omega arith in
            let equal : location_in t j ≡ location_in t k = ap (location_in t) j_is in
            omega arith
      ]
]

pub loop-entry-preserved : goal.loop-entry-preserved
loop-entry-preserved c =
    let t = table_of c.args.self.now in
    let n = c.loop-entry.entry in
    let same : n ≡ n + 1 - 1 = omega arith in
    record {
      last = c.location-location.ensures ∙ ap (location_in t) same;
      order = one-more t n c.loop-entry.last c.location-location.result (omega (arith, c.loop-entry.auto.entry)) c.loop-entry.invariant.order
          c.loop-entry.invariant.last c.location-location.ensures c.if-location-last.false;
    }
