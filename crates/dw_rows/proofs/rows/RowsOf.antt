-- The rows that are computed for a good program meet `IsRow`, and each covered address is in
-- exactly one of them.
use Rattle.std.proofs.Common.{◌≡◌, ℕ, ◌+◌, ◌<◌, ◌≤◌, ◌↔◌, List, [], ◌∷◌, ◌++◌, length, reverse, refl, sym, ap, ◌∙◌, arith, inl, inr}
use Rattle.std.proofs.Common.{subst, append_assoc, length-append}
use Rattle.std.proofs.lemmas.List.{reverse-append, append-nil}
use Rattle.std.proofs.lemmas.Bool.{cases_lt, lt-ltb, le-ltb}
use Rattle.std.specs.Prelude.{filter}
use Rattle.dw_frame.specs.Records.{Cie, Fde}
use Rattle.dw_frame.specs.Codes.{instructions_of}
use Rattle.dw_rules.specs.Rules.{PlacedRow}
use Rattle.dw_rules.specs.Effects.{Effect, effects_of}
use Rattle.dw_rules.specs.InForce.{Start, location_of, rule_at, cfa_at, fde_start}
use Rattle.dw_rows.specs.UnwindRows.{row_up_to, rows_after, rows_of, has_address, Cover}
use Rattle.dw_rows.specs.GoodPrograms.{prefix, location_after, IsLast, IsGood, IsGoodFdeProgram}
use Rattle.dw_rows.specs.Clauses.{IsRow, AreRowsFrom, AreRowsOf, start_in, program_in}
use Rattle.dw_rules.proofs.Tables.{IsTable-rule_list, rule_in-rule_list}
use Rattle.dw_rows.proofs.programs.InForce.{prefix-front}
use Rattle.dw_rows.proofs.programs.Goods.{climbs-to}
use Rattle.dw_rows.proofs.programs.Programs.{effects-good, start-same, good-read-fde}
use Rattle.dw_rows.proofs.rows.Covering.{here, not-here-below, not-here-above}

-- The address a is at or above the location after k instructions, and below the location after
-- k + 1, if and only if k is the greatest number of instructions after which the location is at
-- most a.
range-middle : (s : Start) (p : List Effect) → IsGood s p → (k : ℕ) → k < length p → (a : ℕ)
    → ((location_after s p k ≤ a) × (a < location_after s p (k + 1))) ↔ IsLast s p a k
range-middle s p g k lt a = (
  (λ h. record {
    within = omega arith;
    reached = h.0;
    last = λ m above le. let c : location_after s p (k + 1)
        ≤ location_after s p m = climbs-to s p g (k + 1) m (omega arith) le in omega (arith, h.1);
  }),
  (λ l. (l.reached, l.last (k + 1) (omega arith) (omega arith))),
)

-- for an address a below the FDE's end: the location after the last instruction is at most a, if
-- and only if `IsLast` holds of a and the number of all instructions
range-last : (s : Start) (p : List Effect) → IsGood s p → (a : ℕ) → a < s.end
    → ((location_after s p (length p) ≤ a) × (a < s.end)) ↔ IsLast s p a (length p)
range-last s p g a high =
    ((λ h. record { within = omega arith; reached = h.0; last = λ m above le. absurd (omega arith) }), (λ l. (l.reached, high)))

-- the row that is computed after the first k instructions meets `IsRow`; k is the length of `front`
row-here : (s : Start) (p front : List Effect) (to : ℕ) → IsGood s p → prefix p (length front) ≡ reverse front → length front ≤ length p
    →
    ((a : ℕ) → s.location ≤ a → a < s.end → ((location_of s (reverse front) ≤ a) × (a < to)) ↔ IsLast s p a (length front))
    → location_of s (reverse front) < to → to ≤ s.end → IsRow s p (row_up_to s (reverse front) to)
row-here s p front to g at inside range some high = (
  length front,
  record {
    table = IsTable-rule_list (rule_at s (reverse front) 0);
    rules = λ r h. rule_in-rule_list (rule_at s (reverse front) 0) r h ∙ ap (λ b. rule_at s b 0 r) (sym at);
    cfa = ap (λ b. cfa_at s b 0) (sym at);
    range = range;
    some = some;
    low = let c : s.location ≤ location_after s p (length front) = climbs-to s p g 0 (length front) (omega arith) inside in
        subst (λ b. s.location ≤ location_of s b) at c;
    high = high;
  },
)

front-more : (front : List Effect) (x : Effect) → reverse (front ++ x ∷ []) ≡ x ∷ reverse front
front-more front x = reverse-append front (x ∷ [])

pub rows-good : (s : Start) (p front rest : List Effect) → IsGood s p → p ≡ front ++ rest
    → AreRowsFrom s p (location_of s (reverse front)) (rows_after s (reverse front) rest) s.end
rows-good s p front [] g whole =
    let all : p ≡ front = whole ∙ append-nil front in
    let at : prefix p (length front) ≡ reverse front = ap (λ q. prefix q (length front)) whole ∙ prefix-front front [] in
    let long : length p ≡ length front = ap length all in
    let within : location_after s p (length front) ≤ s.end = g.within (length front) (omega arith) in
    let within' : location_of s (reverse front) ≤ s.end = subst (λ b. location_of s b ≤ s.end) at within in
    let range : (a : ℕ) → s.location ≤ a → a < s.end → ((location_of s (reverse front) ≤ a) × (a < s.end)) ↔ IsLast s p a (length front) =
    λ a low high.
    let r : ((location_after s p (length front) ≤ a) × (a < s.end)) ↔ IsLast s p a (length front) = rw (← long) (range-last s p g a high) in
    subst (λ b. ((location_of s b ≤ a) × (a < s.end)) ↔ IsLast s p a (length front)) at r in
    elim (cases_lt (location_of s (reverse front)) s.end) [
      | inl lt ↦ rw (lt-ltb (location_of s (reverse front)) s.end lt)
          (refl, row-here s p front s.end g at (omega arith) range lt (omega arith), refl)
      | inr ge ↦ rw (le-ltb (location_of s (reverse front)) s.end ge) (omega arith)
    ]
rows-good s p front (x ∷ rest) g whole =
    let more : p ≡ (front ++ x ∷ []) ++ rest = whole ∙ sym (append_assoc front (x ∷ []) rest) in
    let at : prefix p (length front) ≡ reverse front = ap (λ q. prefix q (length front)) whole ∙ prefix-front front (x ∷ rest) in
    let longer : length (front ++ x ∷ []) ≡ length front + 1 = length-append front (x ∷ []) in
    let next : prefix p (length front + 1) ≡ x ∷ reverse front = ap (prefix p) (sym longer)
    ∙ ap (λ q. prefix q (length (front ++ x ∷ []))) more ∙ prefix-front (front ++ x ∷ []) rest ∙ front-more front x in
    let long : length p ≡ length front + 1 + length rest = ap length more ∙ length-append (front ++ x ∷ []) rest
    ∙ ap (λ n. n + length rest) longer in
    let lt : length front < length p = omega arith in
    let forward : location_after s p (length front) ≤ location_after s p (length front + 1) = g.forward (length front) lt in
    let forward' : location_of s (reverse front) ≤ location_of s (x ∷ reverse front) =
    subst (λ b. location_of s b ≤ location_of s (x ∷ reverse front)) at
    (subst (λ b. location_after s p (length front) ≤ location_of s b) next forward) in
    let within : location_of s (x ∷ reverse front) ≤ s.end =
    subst (λ b. location_of s b ≤ s.end) next (g.within (length front + 1) (omega arith)) in
    let later : AreRowsFrom s p (location_of s (x ∷ reverse front)) (rows_after s (x ∷ reverse front) rest) s.end =
    subst (λ b. AreRowsFrom s p (location_of s b) (rows_after s b rest) s.end) (front-more front x)
    (rows-good s p (front ++ x ∷ []) rest g more) in
    let range : (a : ℕ) → s.location ≤ a → a < s.end
    → ((location_of s (reverse front) ≤ a) × (a < location_of s (x ∷ reverse front))) ↔ IsLast s p a (length front) = λ a low high.
    subst (λ b. ((location_of s b ≤ a) × (a < location_of s (x ∷ reverse front))) ↔ IsLast s p a (length front)) at
    (subst (λ b. ((location_after s p (length front) ≤ a) × (a < location_of s b)) ↔ IsLast s p a (length front)) next
    (range-middle s p g (length front) lt a)) in
    elim (cases_lt (location_of s (reverse front)) (location_of s (x ∷ reverse front))) [
      | inl on ↦ rw (lt-ltb (location_of s (reverse front)) (location_of s (x ∷ reverse front)) on)
          (refl, row-here s p front (location_of s (x ∷ reverse front)) g at (omega arith) range on within, later)
      | inr still ↦
          let same : location_of s (x ∷ reverse front) ≡ location_of s (reverse front) = omega arith in
          rw (le-ltb (location_of s (reverse front)) (location_of s (x ∷ reverse front)) still)
          (subst (λ n. AreRowsFrom s p n (rows_after s (x ∷ reverse front) rest) s.end) same later)
    ]

pub rows-of-good : (c : Cie) (f : Fde) → (g : IsGoodFdeProgram c f) → AreRowsOf c f g (rows_of c f)
unfolding rows_of
rows-of-good c f g =
    let p = program_in c f g in
    let s = start_in c f g in
    let same : fde_start c f ≡ s = start-same c f g.first in
    let items : effects_of c (instructions_of f.program) ≡ p = effects-good c g.items _ (good-read-fde c f g) in
    let k : AreRowsFrom s p f.initial_location (rows_after s [] p) s.end = rows-good s p [] p g.good refl in
    subst (λ t. AreRowsFrom s p f.initial_location (rows_after t [] (effects_of c (instructions_of f.program))) s.end) (sym same)
    (subst (λ l. AreRowsFrom s p f.initial_location (rows_after s [] l) s.end) (sym items) k)

-- ---- exactly one row has a covered address

none-below : (a from to : ℕ) (rows : List PlacedRow) → Cover from rows to → a < from → filter (has_address a) rows ≡ []
none-below a from to [] h l = refl
none-below a from to (row ∷ rows) h l =
    let k : filter (has_address a) rows ≡ [] = none-below a row.end to rows h.2 (omega (arith, h.0, h.1)) in
    rw (not-here-below a row (omega (arith, h.0))) k

pub one-row : (a from to : ℕ) (rows : List PlacedRow) → Cover from rows to → from ≤ a → a < to
    → (row : PlacedRow) × (filter (has_address a) rows ≡ row ∷ [])
one-row a from to [] h l g = absurd (omega (arith, h))
one-row a from to (row ∷ rows) h l g = elim (cases_lt a row.end) [
  | inl in_row ↦ (
    row,
    (let k : filter (has_address a) rows ≡ [] = none-below a row.end to rows h.2 in_row in
        rw (here a row (omega (arith, h.0)) in_row) (ap (λ l. row ∷ l) k)),
  )
  | inr beyond ↦ (let k = one-row a row.end to rows h.2 beyond g in (k.0, rw (not-here-above a row beyond) k.1))
]
