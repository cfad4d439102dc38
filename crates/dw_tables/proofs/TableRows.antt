-- The rows that a compiled table's entries stand for: how the rows of an FDE are added to them, and
-- which row has an address.
use Rattle.std.proofs.Common.{◌≡◌, ℕ, zero, suc, ◌+◌, ◌<◌, ◌≤◌, Bool, true, false, cond, List, [], ◌∷◌, ◌++◌, length, get_or, refl, sym, ap, ◌∙◌}
use Rattle.std.proofs.Common.{Option, Some, None, subst, arith, append_assoc, inl, inr, ◌⊎◌}
use Rattle.std.proofs.lemmas.Bool.{cases_lt}
use Rattle.std.proofs.lemmas.List.{append-nil, length-append, get_or_append_left}
use Rattle.std.proofs.lemmas.Option.{get_or_from_slice_get}
use Rattle.std.proofs.Math.Seq.{get_or-append_seam}
use Rattle.std.specs.Prelude.{find}
use Rattle.dw_frame.specs.Records.{Cie, Fde}
use Rattle.dw_stack.specs.Located.{LocatedExpression}
use Rattle.dw_tables.specs.declared.table_entries.TableEntry.{TableEntry}
use Rattle.dw_rules.specs.Rules.{PlacedCfa, PlacedRow}
use Rattle.dw_rules.specs.ProgramFault.{lacks_cfa}
use Rattle.dw_rules.specs.RuleSet.{LendsRules}
use Rattle.dw_rules.specs.ProgramState.{row_between}
use Rattle.dw_rows.specs.UnwindRows.{rows_of}
use Rattle.dw_tables.specs.UnwindTables.{has}
use Rattle.dw_rows.specs.Section.{FrameSection, cie_in}
use Rattle.dw_tables.specs.CompiledTable.{StoredSet, no_set, set_numbered, row_if, row_with, row_from, next_start, rows_to}
use Rattle.dw_tables.specs.CompiledTable.{returning, returning_by_cie}
use Rattle.dw_tables.specs.CompiledTable.{IsTableUpTo, IsClosedAt, IsBegunAt, IsPushed, IsFilled, IsEntryCount}
use Rattle.dw_rows.proofs.rows.Covering.{here, not-here-below, not-here-above}

-- ---- the rows after one more entry

pub next-more : (rest : List TableEntry) (e : TableEntry) (to : ℕ) → next_start (rest ++ e ∷ []) to ≡ next_start rest e.start
next-more [] e to = refl
next-more (x ∷ rest) e to = refl

pub rows-more : (sets : List StoredSet) (es : List TableEntry) (e : TableEntry) (to : ℕ)
    → rows_to sets (es ++ e ∷ []) to ≡ rows_to sets es e.start ++ row_from sets e to
rows-more sets [] e to = append-nil (row_from sets e to)
rows-more sets (x ∷ rest) e to =
    ap (λ n. row_from sets x n ++ rows_to sets (rest ++ e ∷ []) to) (next-more rest e to)
    ∙ ap (λ l. row_from sets x (next_start rest e.start) ++ l) (rows-more sets rest e to)
    ∙ sym (append_assoc (row_from sets x (next_start rest e.start)) (rows_to sets rest e.start) (row_from sets e to))

-- the rows of entries, followed by those of more entries
pub rows-joined : (sets : List StoredSet) (es more : List TableEntry) (to : ℕ)
    → rows_to sets (es ++ more) to ≡ rows_to sets es (next_start more to) ++ rows_to sets more to
rows-joined sets [] more to = refl
rows-joined sets (x ∷ rest) more to =
    ap (λ n. row_from sets x n ++ rows_to sets (rest ++ more) to) (next-joined rest more to)
    ∙ ap (λ l. row_from sets x (next_start rest (next_start more to)) ++ l) (rows-joined sets rest more to)
    ∙ sym (append_assoc (row_from sets x (next_start rest (next_start more to))) (rows_to sets rest (next_start more to)) (rows_to sets more to))
  where
    next-joined : (rest more : List TableEntry) (to : ℕ) → next_start (rest ++ more) to ≡ next_start rest (next_start more to)
    next-joined [] more to = refl
    next-joined (x ∷ rest) more to = refl

pub rows-grown : (sets new : List StoredSet) → ((m : ℕ) → m < length sets → set_numbered new m ≡ set_numbered sets m)
    → (es : List TableEntry) → ((k : ℕ) (d : TableEntry) → k < length es → (get_or es k d).set < length sets) → (to : ℕ)
    → rows_to new es to ≡ rows_to sets es to
rows-grown sets new same [] within to = refl
rows-grown sets new same (x ∷ rest) within to =
    ap (λ k. row_with x.start (next_start rest to) k ++ rows_to new rest to) (same x.set (within 0 x (omega arith)))
    ∙ ap (λ l. row_from sets x (next_start rest to) ++ l)
    (rows-grown sets new same rest (λ k d lt. within (suc k) d (omega arith)) to)

pub at-more : (es : List TableEntry) (e : TableEntry) (m : ℕ) (d : TableEntry) → m < length (es ++ e ∷ [])
    → ((m < length es) × (get_or (es ++ e ∷ []) m d ≡ get_or es m d)) ⊎ ((m ≡ length es) × (get_or (es ++ e ∷ []) m d ≡ e))
at-more es e m d lt = elim (cases_lt m (length es)) [
  | inl before ↦ inl (before, get_or_append_left es (e ∷ []) d m before)
  | inr past ↦
      let long : length (es ++ e ∷ []) ≡ length es + 1 = length-append es (e ∷ []) in
      let last : m ≡ length es = omega arith in
      inr (last, ap (λ n. get_or (es ++ e ∷ []) n d) last ∙ get_or-append_seam es e [] d)
]

pub table-further : (es : List LocatedExpression) (last to : ℕ) (entries : List TableEntry) (sets : List StoredSet)
    → IsTableUpTo es last entries sets → last ≤ to → IsTableUpTo es to entries sets
table-further es last to entries sets t le = record {
  sorted = t.sorted;
  below = λ k d lt. omega (arith, t.below k d lt);
  within = t.within;
  lends = t.lends;
}

pub table-pushed : (es : List LocatedExpression) (last : ℕ) (entries new : List TableEntry) (sets new_sets : List StoredSet) (start : ℕ)
    (k : StoredSet) → IsTableUpTo es last entries sets → IsPushed entries sets start k new new_sets → last ≤ start → LendsRules es k.rules
    → IsTableUpTo es start new new_sets
table-pushed es last entries new sets new_sets start k t p le lends =
    let e : TableEntry = record { start = start; set = p.number } in
    subst (λ (l : List TableEntry). IsTableUpTo es start l new_sets) (sym p.entries) (record {
      sorted = λ i j d i_j lt. sorted e refl i j d i_j lt (at-more entries e i d (omega arith)) (at-more entries e j d lt);
      below = λ m d lt. below e refl m d (at-more entries e m d lt);
      within = λ m d lt. within e refl m d (at-more entries e m d lt);
      lends = p.numbered.lends es t.lends lends;
    })
  where
    sorted : (e : TableEntry) → e.start ≡ start → (i j : ℕ) (d : TableEntry) → i ≤ j → j < length (entries ++ e ∷ [])
        → ((i < length entries) × (get_or (entries ++ e ∷ []) i d ≡ get_or entries i d))
        ⊎ ((i ≡ length entries) × (get_or (entries ++ e ∷ []) i d ≡ e))
        → ((j < length entries) × (get_or (entries ++ e ∷ []) j d ≡ get_or entries j d))
        ⊎ ((j ≡ length entries) × (get_or (entries ++ e ∷ []) j d ≡ e))
        → (get_or (entries ++ e ∷ []) i d).start ≤ (get_or (entries ++ e ∷ []) j d).start
    sorted e same i j d i_j lt (inl a) (inl b) = rw (a.1, b.1) (t.sorted i j d i_j b.0)
    sorted e same i j d i_j lt (inl a) (inr b) = rw (a.1, b.1) (omega (arith, t.below i d a.0, same))
    sorted e same i j d i_j lt (inr a) (inl b) = absurd (omega (arith, a.0, b.0))
    sorted e same i j d i_j lt (inr a) (inr b) = rw (a.1, b.1) (omega arith)

    below : (e : TableEntry) → e.start ≡ start → (m : ℕ) (d : TableEntry)
        → ((m < length entries) × (get_or (entries ++ e ∷ []) m d ≡ get_or entries m d))
        ⊎ ((m ≡ length entries) × (get_or (entries ++ e ∷ []) m d ≡ e)) → (get_or (entries ++ e ∷ []) m d).start ≤ start
    below e same m d (inl a) = rw a.1 (omega (arith, t.below m d a.0))
    below e same m d (inr a) = rw a.1 (omega arith)

    within : (e : TableEntry) → e.set ≡ p.number → (m : ℕ) (d : TableEntry)
        → ((m < length entries) × (get_or (entries ++ e ∷ []) m d ≡ get_or entries m d))
        ⊎ ((m ≡ length entries) × (get_or (entries ++ e ∷ []) m d ≡ e)) → (get_or (entries ++ e ∷ []) m d).set < length new_sets
    within e same m d (inl a) = rw a.1 (omega (arith, t.within m d a.0, p.numbered.long))
    within e same m d (inr a) = rw a.1 (omega (arith, same, p.numbered.inside))

pub rows-pushed : (es : List LocatedExpression) (last : ℕ) (entries new : List TableEntry) (sets new_sets : List StoredSet) (start : ℕ)
    (k : StoredSet) → IsTableUpTo es last entries sets → IsPushed entries sets start k new new_sets → (to : ℕ)
    → rows_to new_sets new to ≡ rows_to sets entries start ++ row_with start to k
rows-pushed es last entries new sets new_sets start k t p to =
    let e : TableEntry = record { start = start; set = p.number } in
    let is : set_numbered new_sets p.number ≡ k = get_or_from_slice_get new_sets p.number k no_set p.numbered.found in
    ap (λ (l : List TableEntry). rows_to new_sets l to) p.entries
    ∙ rows-more new_sets entries e to
    ∙ ap (λ (l : List (PlacedRow × ℕ)). l ++ row_from new_sets e to) (rows-grown sets new_sets p.numbered.same entries t.within start)
    ∙ ap (λ (x : StoredSet). rows_to sets entries start ++ row_with start to x) is

-- ---- an entry without rules, where a row ends and no other begins

pub closed-pushed : (end : ℕ) (old new : List TableEntry) (old_sets new_sets : List StoredSet)
    → IsPushed old old_sets end no_set new new_sets → IsClosedAt end old old_sets new new_sets
closed-pushed end old new old_sets new_sets pushed = record {
  table = λ es t. table-pushed es end old new old_sets new_sets end no_set t pushed (omega arith)
      (record { cfa = tt; rules = λ k d lt. absurd (omega arith) });
  rows = λ es t to. rows-pushed es end old new old_sets new_sets end no_set t pushed to ∙ append-nil (rows_to old_sets old end);
}

pub begun-past : (end start : ℕ) (old new : List TableEntry) (old_sets new_sets : List StoredSet)
    → IsClosedAt end old old_sets new new_sets → IsBegunAt end start old old_sets new new_sets
begun-past end start old new old_sets new_sets closed = record {
  table = λ es t le. table-further es end start new new_sets (closed.table es t) le;
  rows = λ es t. closed.rows es t start;
}

-- ---- the rows of an FDE

pub with-cfa : (o : Option PlacedCfa) (start to : ℕ) (k : StoredSet) → lacks_cfa o ≡ false
    → row_if o start to k ≡ (row_between start to k.rules, k.register) ∷ []
with-cfa None start to k some = cc
with-cfa (Some c) start to k some = refl

pub filled : (s : FrameSection) (c : Cie) (f : Fde) (last : ℕ) (old new : List TableEntry) (old_sets new_sets : List StoredSet)
    → cie_in s f ≡ Some c
    → rows_to new_sets new (f.initial_location + f.address_range)
    ≡ rows_to old_sets old last ++ returning c.return_address_register (rows_of c f)
    → IsTableUpTo s.expressions (f.initial_location + f.address_range) new new_sets → IsFilled s f last old old_sets new new_sets
filled s c f last old new old_sets new_sets pointed all t = record {
  table = t;
  rows = all ∙ ap (λ o. rows_to old_sets old last ++ returning_by_cie o f) (sym pointed);
}

-- ---- `find` in lists

pub find-past : {X : Type 0} (p : X → Bool) (xs ys : List X) → find p xs ≡ None → find p (xs ++ ys) ≡ find p ys
find-past p [] ys none = refl
find-past {X = X} p (x ∷ xs) ys none = go (p x) none (find-past p xs ys)
  where
    go : (b : Bool) → cond b (Some x) (find p xs) ≡ None → (find p xs ≡ None → find p (xs ++ ys) ≡ find p ys)
        → cond b (Some x) (find p (xs ++ ys)) ≡ find p ys
    go true e next = cc
    go false e next = next e

find-before : {X : Type 0} (p : X → Bool) (xs ys : List X) → find p ys ≡ None → find p (xs ++ ys) ≡ find p xs
find-before p [] ys none = none
find-before p (x ∷ xs) ys none = ap (cond (p x) (Some x)) (find-before p xs ys none)

pub find-first : {X : Type 0} (p : X → Bool) (xs ys : List X) (x : X) → find p xs ≡ Some x → find p (xs ++ ys) ≡ Some x
find-first p [] ys x found = cc
find-first {X = X} p (y ∷ xs) ys x found = go (p y) found (find-first p xs ys x)
  where
    go : (b : Bool) → cond b (Some y) (find p xs) ≡ Some x → (find p xs ≡ Some x → find p (xs ++ ys) ≡ Some x)
        → cond b (Some y) (find p (xs ++ ys)) ≡ Some x
    go true e next = e
    go false e next = next e

-- ---- the row of an address

below-row : (o : Option PlacedCfa) (a start to : ℕ) (k : StoredSet) → a < start → find (has a) (row_if o start to k) ≡ None
below-row None a start to k lt = refl
below-row (Some c) a start to k lt = rw (not-here-below a (row_between start to k.rules) lt) refl

above-row : (o : Option PlacedCfa) (a start to : ℕ) (k : StoredSet) → to ≤ a → find (has a) (row_if o start to k) ≡ None
above-row None a start to k le = refl
above-row (Some c) a start to k le = rw (not-here-above a (row_between start to k.rules) le) refl

none-above : (sets : List StoredSet) (es : List TableEntry) (a to : ℕ)
    → ((k : ℕ) (d : TableEntry) → k < length es → a < (get_or es k d).start) → find (has a) (rows_to sets es to) ≡ None
none-above sets [] a to above = refl
none-above sets (e ∷ es) a to above =
    let k = set_numbered sets e.set in
    find-past (has a) (row_from sets e (next_start es to)) (rows_to sets es to)
    (below-row k.rules.cfa a e.start (next_start es to) k (above 0 e (omega arith)))
    ∙ none-above sets es a to (λ m d lt. above (suc m) d (omega arith))

-- where the entry after the entry at index n begins; `to` if there is no such entry
abbrev pub next_at : List TableEntry → ℕ → ℕ → ℕ
next_at [] n to = to
next_at (e ∷ es) zero to = next_start es to
next_at (e ∷ es) (suc n) to = next_at es n to

pub next-is : (es : List TableEntry) (n to : ℕ) (d : TableEntry) → suc n < length es → next_at es n to ≡ (get_or es (suc n) d).start
next-is [] n to d lt = absurd (omega arith)
next-is (e ∷ []) zero to d lt = absurd (omega arith)
next-is (e ∷ x ∷ es) zero to d lt = refl
next-is (e ∷ es) (suc n) to d lt = next-is es n to d (omega arith)

pub next-last : (es : List TableEntry) (n to : ℕ) → suc n ≡ length es → next_at es n to ≡ to
next-last [] n to last = refl
next-last (e ∷ []) zero to last = refl
next-last (e ∷ x ∷ es) zero to last = absurd (omega arith)
next-last (e ∷ es) (suc n) to last = next-last es n to (omega arith)

next-low : (es : List TableEntry) (a to : ℕ) → 0 < length es → ((d : TableEntry) → (get_or es 0 d).start ≤ a) → next_start es to ≤ a
next-low [] a to some low = absurd (omega arith)
next-low (e ∷ es) a to some low = low e

pub row-at : (sets : List StoredSet) (es : List TableEntry) (n a to : ℕ) (d : TableEntry) → n < length es
    → ((k : ℕ) (d : TableEntry) → k ≤ n → (get_or es k d).start ≤ a)
    → ((k : ℕ) (d : TableEntry) → n < k → k < length es → a < (get_or es k d).start)
    → find (has a) (rows_to sets es to) ≡ find (has a) (row_from sets (get_or es n d) (next_at es n to))
row-at sets [] n a to d lt below above = absurd (omega arith)
row-at sets (e ∷ es) zero a to d lt below above =
    find-before (has a) (row_from sets e (next_start es to)) (rows_to sets es to)
    (none-above sets es a to (λ m d lt. above (suc m) d (omega arith) (omega arith)))
row-at sets (e ∷ es) (suc n) a to d lt below above =
    let k = set_numbered sets e.set in
    find-past (has a) (row_from sets e (next_start es to)) (rows_to sets es to)
    (above-row k.rules.cfa a e.start (next_start es to) k (next-low es a to (omega arith) (λ d. below 1 d (omega arith))))
    ∙ row-at sets es n a to d (omega arith) (λ m d le. below (suc m) d (omega arith)) (λ m d lt there. above (suc m) d (omega arith) (omega arith))

-- ---- the row of an address, by the number of entries that begin at or below it

-- if no entry begins at or below the address, no row has the address
pub placed-below : (entries : List TableEntry) (sets : List StoredSet) (a : ℕ) → IsEntryCount entries a 0
    → find (has a) (rows_to sets entries 0) ≡ None
placed-below entries sets a count = none-above sets entries a 0 (λ k d lt. count.above k d (omega arith) lt)

-- the row from `start` to `to` with the rule set number n, if that set has a CFA rule and the row
-- has the address `a`; none otherwise
abbrev row-of-entry : List StoredSet → ℕ → ℕ → ℕ → ℕ → Option (PlacedRow × ℕ)
row-of-entry sets a n start to = find (has a) (row_with start to (set_numbered sets n))

-- looking up an address gives the row of the last entry that begins at or below the address; none
-- if that entry has no row or its row doesn't have the address
at-place : (entries : List TableEntry) (sets : List StoredSet) (a n : ℕ) (d : TableEntry) → IsEntryCount entries a (suc n)
    → find (has a) (rows_to sets entries 0)
    ≡ row-of-entry sets a (get_or entries n d).set (get_or entries n d).start (next_at entries n 0)
at-place entries sets a n d count =
    row-at sets entries n a 0 d (omega (arith, count.bound)) (λ k d le. count.below k d (omega arith))
    (λ k d lt there. count.above k d (omega arith) there)

-- if all entries begin at or below the address, the last row ends at or below it, so no row has it
pub placed-above : (entries : List TableEntry) (sets : List StoredSet) (a n : ℕ) → IsEntryCount entries a n → n ≡ length entries
    → find (has a) (rows_to sets entries 0) ≡ None
placed-above entries sets a zero count all = placed-below entries sets a count
placed-above entries sets a (suc n) count all =
    let d : TableEntry = record { start = 0; set = 0 } in
    let e = get_or entries n d in
    let k = set_numbered sets e.set in
    at-place entries sets a n d count
    ∙ ap (λ m. row-of-entry sets a e.set e.start m) (next-last entries n 0 all)
    ∙ above-row k.rules.cfa a e.start 0 k (omega arith)

no-row : (o : Option PlacedCfa) (a start to : ℕ) (k : StoredSet) → o ≡ None → find (has a) (row_if o start to k) ≡ None
no-row None a start to k e = refl
no-row (Some c) a start to k e = cc

the-row : (o : Option PlacedCfa) (c : PlacedCfa) (a start to : ℕ) (k : StoredSet) → o ≡ Some c → start ≤ a → a < to
    → find (has a) (row_if o start to k) ≡ Some (row_between start to k.rules, k.register)
the-row None c a start to k e low high = cc
the-row (Some d) c a start to k e low high = rw (here a (row_between start to k.rules) low high) refl

-- if the last entry that begins at or below the address has no CFA rule, no row has the address
pub placed-none : (entries : List TableEntry) (sets : List StoredSet) (a n : ℕ) (d : TableEntry) → IsEntryCount entries a (suc n)
    → (set_numbered sets (get_or entries n d).set).rules.cfa ≡ None → find (has a) (rows_to sets entries 0) ≡ None
placed-none entries sets a n d count none =
    let e = get_or entries n d in
    let k = set_numbered sets e.set in
    at-place entries sets a n d count ∙ no-row k.rules.cfa a e.start (next_at entries n 0) k none

-- the row of the entry at index n, which ends where the next entry begins
abbrev pub row-at-place : List TableEntry → List StoredSet → ℕ → TableEntry → PlacedRow × ℕ
row-at-place entries sets n d =
    let k = set_numbered sets (get_or entries n d).set in
    (row_between (get_or entries n d).start (get_or entries (suc n) d).start k.rules, k.register)

pub placed-row : (entries : List TableEntry) (sets : List StoredSet) (a n : ℕ) (d : TableEntry) (c : PlacedCfa)
    → IsEntryCount entries a (suc n) → suc n < length entries → (set_numbered sets (get_or entries n d).set).rules.cfa ≡ Some c
    → find (has a) (rows_to sets entries 0) ≡ Some (row-at-place entries sets n d)
placed-row entries sets a n d c count lt some =
    let e = get_or entries n d in
    let k = set_numbered sets e.set in
    at-place entries sets a n d count
    ∙ ap (λ m. row-of-entry sets a e.set e.start m) (next-is entries n 0 d lt)
    ∙ the-row k.rules.cfa c a e.start (get_or entries (suc n) d).start k some (count.below n d (omega arith))
    (count.above (suc n) d (omega arith) lt)
