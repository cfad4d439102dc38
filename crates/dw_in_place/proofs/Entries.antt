-- In a table that is in order, an address has one entry, the last that begins at it or before it.
use Rattle.std.proofs.Common.{◌≡◌, ℕ, ◌+◌, ◌<◌, ◌↔◌, Option, Some, None, arith, inl, inr}
use Rattle.std.proofs.lemmas.Bool.{cases_lt}
use Rattle.dw_in_place.specs.SearchTables.{Table, Finds, IsEntryFor, IsInOrder, IsLastBy, location_in}

last-by : (t : Table) (a k : ℕ) → IsInOrder t → IsEntryFor t a k → IsLastBy t a k
last-by t a k order is = record {
  within = is.within;
  begins = is.begins;
  later = λ j past within.
      let first = is.next (omega (arith, past, within)) in
      let after = order (k + 1) j (omega (arith, past)) within in
      omega arith;
}

entry-for : (t : Table) (a k : ℕ) → IsLastBy t a k → IsEntryFor t a k
entry-for t a k is = record { within = is.within; begins = is.begins; next = λ more. is.later (k + 1) (omega arith) more }

pub last-is : (t : Table) (a k : ℕ) → IsInOrder t → IsEntryFor t a k ↔ IsLastBy t a k
last-is t a k order = (last-by t a k order, entry-for t a k)

-- an entry isn't followed by another one for the same address
not-before : (t : Table) (a j k : ℕ) → IsInOrder t → IsEntryFor t a j → IsEntryFor t a k → j < k → ⊥
not-before t a j k order first second less =
    let after = (last-by t a j order first).later k less second.within in
    let begins = second.begins in
    omega arith

pub one-entry : (t : Table) (a j k : ℕ) → IsInOrder t → IsEntryFor t a j → IsEntryFor t a k → j ≡ k
one-entry t a j k order first second = elim (cases_lt j k) [
  | inl less ↦ absurd (not-before t a j k order first second less)
  | inr le ↦ elim (cases_lt k j) [
    | inl less ↦ absurd (not-before t a k j order second first less)
    | inr ge ↦ omega arith
  ]
]

pub none-begins : (t : Table) (a k : ℕ) → IsInOrder t → Finds t a None → k < t.count → a < location_in t k
none-begins t a k order none within =
    let first = none (omega (arith, within)) in
    let after = order 0 k (omega arith) within in
    omega arith

-- a search finds the entry of the address, if it has one
pub found-entry : (t : Table) (a k : ℕ) (entry : Option ℕ) → IsInOrder t → IsEntryFor t a k → Finds t a entry → entry ≡ Some k
found-entry t a k None order is finds = absurd (let after = none-begins t a k order finds is.within in let begins = is.begins in omega arith)
found-entry t a k (Some j) order is finds = let same : j ≡ k = one-entry t a j k order finds is in cc
