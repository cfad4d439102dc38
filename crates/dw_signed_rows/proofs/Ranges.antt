-- Ranges in order of address: one more is appended, and the range of an address is found.
use Rattle.std.proofs.Common.{◌≡◌, ℕ, zero, suc, length, get_or, ◌≤◌, ◌<◌, Bool, true, false, List, [], ◌∷◌, ◌++◌, refl, sym, ap, ◌∙◌, subst, arith}
use Rattle.std.specs.Prelude.{◌||◌, nat_lt}
use Rattle.std.proofs.Common.{Err}
use Rattle.std.specs.List.Sorted.{IsBinarySearchResult, IsNonDecreasingBy}
use Rattle.std.specs.Ordering.{nat_cmp, ordering_index}
use Rattle.std.proofs.lemmas.Cmp.{ranked}
use Rattle.std.proofs.lemmas.Bool.Decides.{nat_tests}
use Rattle.dw_signed_rows.specs.SignedRanges.{AreInOrder, ends_at, has_address, has_signed}
use Rattle.dw_signed_rows.specs.declared.signed_range.SignedRange.{SignedRange}

or-true : (b : Bool) → (b || true) ≡ true
or-true true = refl
or-true false = refl

or-false : (b : Bool) → (b || false) ≡ b
or-false true = refl
or-false false = refl

pub or-assoc : (a b c : Bool) → ((a || b) || c) ≡ (a || (b || c))
or-assoc true b c = refl
or-assoc false b c = refl

pub signed-appended : (xs : List SignedRange) (r : SignedRange) (a : ℕ) → has_signed (xs ++ r ∷ []) a ≡ (has_signed xs a || has_address a r)
signed-appended [] r a = or-false (has_address a r)
signed-appended (x ∷ xs) r a =
    ap (λ b. has_address a x || b) (signed-appended xs r a) ∙ sym (or-assoc (has_address a x) (has_signed xs a) (has_address a r))

pub order-appended : (low : ℕ) (xs : List SignedRange) (r : SignedRange) → AreInOrder low xs → ends_at low xs ≤ r.start → r.start < r.end
    → AreInOrder low (xs ++ r ∷ [])
order-appended low [] r order from some = (from, some, tt)
order-appended low (x ∷ xs) r order from some = (order.0, order.1, order-appended x.end xs r order.2 from some)

pub end-appended : (low : ℕ) (xs : List SignedRange) (r : SignedRange) → ends_at low (xs ++ r ∷ []) ≡ r.end
end-appended low [] r = refl
end-appended low (x ∷ xs) r = end-appended x.end xs r

-- what is known of ranges to which one was appended
pub record WasAppended (low : ℕ) (xs : List SignedRange) (r : SignedRange) : Type 0 where
  pub order : AreInOrder low xs
  pub from : ends_at low xs ≤ r.start
  pub some : r.start < r.end

pub was-appended : (low : ℕ) (xs : List SignedRange) (r : SignedRange) → AreInOrder low (xs ++ r ∷ []) → WasAppended low xs r
was-appended low [] r order = record { order = tt; from = order.0; some = order.1 }
was-appended low (x ∷ xs) r order =
    let rest = was-appended x.end xs r order.2 in
    record { order = (order.0, order.1, rest.order); from = rest.from; some = rest.some }

-- the last range is made longer
module _ (old xs new : List SignedRange) (last range : SignedRange) (order : AreInOrder 0 old) (was : old ≡ xs ++ last ∷ [])
    (is : new ≡ xs ++ record { start = last.start; end = range.end } ∷ []) (meets : last.end ≡ range.start) (some : range.start < range.end)
  where
    known : WasAppended 0 xs last
    known = was-appended 0 xs last (subst (AreInOrder 0) was order)

    pub order-joined : AreInOrder 0 new
    order-joined =
        subst (AreInOrder 0) (sym is)
        (order-appended 0 xs (record { start = last.start; end = range.end }) known.order known.from (omega (arith, known.some, meets, some)))

    pub joined-to : (a : ℕ) → has_signed new a ≡ (has_signed old a || has_address a range)
    joined-to a =
        let last_some = known.some in
        let parts : has_address a (record { start = last.start; end = range.end }) ≡ (has_address a last || has_address a range) =
        grind (arith, nat_tests) in
        ap (λ l. has_signed l a) is
        ∙ (signed-appended xs (record { start = last.start; end = range.end }) a
        ∙ (ap (λ b. has_signed xs a || b) parts
        ∙ (sym (or-assoc (has_signed xs a) (has_address a last) (has_address a range))
        ∙ ap (λ b. b || has_address a range) (sym (signed-appended xs last a) ∙ sym (ap (λ l. has_signed l a) was)))))

-- ---- the range of an address

low-start : (low : ℕ) (xs : List SignedRange) (j : ℕ) (d : SignedRange) → AreInOrder low xs → j < length xs → low ≤ (get_or xs j d).start
low-start low [] j d order few = absurd (omega arith)
low-start low (x ∷ xs) zero d order few = order.0
low-start low (x ∷ xs) (suc j) d order few =
    let rest = low-start x.end xs j d order.2 (omega arith) in
    omega (arith, order.0, order.1, rest)

-- starts rise
pub starts-rise : (low : ℕ) (xs : List SignedRange) → AreInOrder low xs → IsNonDecreasingBy (λ (r : SignedRange). r.start) xs
starts-rise low [] order i j d le few = absurd (omega arith)
starts-rise low (x ∷ xs) order zero zero d le few = omega arith
starts-rise low (x ∷ xs) order zero (suc j) d le few =
    let rest = low-start x.end xs j d order.2 (omega arith) in
    omega (arith, order.1, rest)
starts-rise low (x ∷ xs) order (suc i) zero d le few = absurd (omega arith)
starts-rise low (x ∷ xs) order (suc i) (suc j) d le few = starts-rise x.end xs order.2 i j d (omega arith) (omega arith)

-- a range has its start
pub start-signed : (low : ℕ) (xs : List SignedRange) (i : ℕ) (d : SignedRange) → AreInOrder low xs → i < length xs
    → has_signed xs (get_or xs i d).start ≡ true
start-signed low [] i d order few = absurd (omega arith)
start-signed low (x ∷ xs) zero d order few =
    let some = order.1 in
    let here : has_address x.start x ≡ true = grind (arith, nat_tests) in
    ap (λ b. b || has_signed xs x.start) here
start-signed low (x ∷ xs) (suc i) d order few =
    ap (λ b. has_address (get_or xs i d).start x || b) (start-signed x.end xs i d order.2 (omega arith))
    ∙ or-true (has_address (get_or xs i d).start x)

-- ranges above an address don't have it
pub none-above : (xs : List SignedRange) (a : ℕ) (d : SignedRange) → ((j : ℕ) → j < length xs → a < (get_or xs j d).start)
    → has_signed xs a ≡ false
none-above [] a d above = refl
none-above (x ∷ xs) a d above =
    let past = above 0 (omega arith) in
    let here : has_address a x ≡ false = grind (arith, nat_tests) in
    ap (λ b. b || has_signed xs a) here ∙ none-above xs a d (λ j few. above (suc j) (omega arith))

-- the last range that begins at or below an address has it, or none has
pub last-below : (low : ℕ) (xs : List SignedRange) (i a : ℕ) (d : SignedRange) → AreInOrder low xs → i < length xs
    → (get_or xs i d).start ≤ a → ((j : ℕ) → i < j → j < length xs → a < (get_or xs j d).start)
    → has_signed xs a ≡ nat_lt a (get_or xs i d).end
last-below low [] i a d order few below above = absurd (omega arith)
last-below low (x ∷ xs) zero a d order few below above =
    let here : has_address a x ≡ nat_lt a x.end = grind (arith, nat_tests) in
    ap (λ b. has_address a x || b) (none-above xs a d (λ j more. above (suc j) (omega arith) (omega arith)))
    ∙ (or-false (has_address a x) ∙ here)
last-below low (x ∷ xs) (suc i) a d order few below above =
    let from = low-start x.end xs i d order.2 (omega arith) in
    let past : x.end ≤ a = omega arith in
    let here : has_address a x ≡ false = grind (arith, nat_tests) in
    ap (λ b. b || has_signed xs a) here
    ∙ last-below x.end xs i a d order.2 (omega arith) below (λ j more within. above (suc j) (omega arith) (omega arith))

-- ---- searched

rises : (a b k : ℕ) → a ≤ b → ordering_index (nat_cmp a k) ≤ ordering_index (nat_cmp b k)
rises a b k le = grind (arith, nat_tests)

-- if a binary search by starts finds no range, those before the place that it gives begin below the address,
-- and the others above it
pub parted-by : (low : ℕ) (xs : List SignedRange) (a i : ℕ) → AreInOrder low xs
    → IsBinarySearchResult (λ (r : SignedRange). nat_cmp r.start a) xs (Err i)
    → ((j : ℕ) (d : SignedRange) → j < i → (get_or xs j d).start < a)
    × ((j : ℕ) (d : SignedRange) → i ≤ j → j < length xs → a < (get_or xs j d).start)
parted-by low xs a i order parted =
    let up : IsNonDecreasingBy (λ (r : SignedRange). ordering_index (nat_cmp r.start a)) xs =
    λ j k d le few. rises _ _ a (starts-rise low xs order j k d le few) in (
      λ j d less. ranked _ a _ (sym ((parted up).0 j d (omega arith) less)),
      λ j d from few. ranked _ a _ (sym ((parted up).1 j d from few)),
    )
