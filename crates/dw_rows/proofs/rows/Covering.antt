-- The rows of an FDE's program follow each other without gaps, and cover the addresses that the FDE
-- covers.
use Rattle.std.proofs.Common.{◌≡◌, ℕ, ◌+◌, ◌<◌, ◌≤◌, Bool, true, false, cond, List, [], ◌∷◌, ◌++◌, refl, arith, ltb, leb, inl, inr}
use Rattle.std.proofs.Common.{Option, Some, None, Result, Ok, Err, subst, IsSome}
use Rattle.std.proofs.lemmas.Bool.{cases_lt, lt-ltb, le-ltb}
use Rattle.std.proofs.lemmas.Bool.Decides.{nat_tests}
use Rattle.std.specs.Prelude.{◌&&◌, find}
use Rattle.dw_bytes.specs.declared.fault.Fault.{Fault}
use Rattle.dw_frame.specs.Instructions.{Instruction}
use Rattle.dw_frame.specs.Records.{Cie, Fde}
use Rattle.dw_frame.specs.Codes.{instructions_of}
use Rattle.dw_rules.specs.Rules.{PlacedRow, RowOver}
use Rattle.dw_rules.specs.Effects.{Effect, effect_of, effects_of}
use Rattle.dw_rules.specs.InForce.{Start, location_of, fde_start}
use Rattle.dw_rules.specs.ProgramFault.{refusal_at, item_fault, fde_fault_from, fde_fault}
use Rattle.dw_rows.specs.UnwindRows.{rows_up_to, rows_after, rows_of, has_address, Cover}
use Rattle.dw_rows.proofs.programs.Checking.{passed-from}
use Rattle.dw_rows.proofs.Faults.{option_or-none}
use Rattle.dw_rows.proofs.rows.RowCursors.{item-passes}
use Rattle.dw_rows.proofs.programs.Running.{forward}

cover-up : (s : Start) (before : List Effect) (to : ℕ) (rows : List PlacedRow) (end : ℕ) → location_of s before ≤ to → Cover to rows end
    → Cover (location_of s before) (rows_up_to s before to ++ rows) end
cover-up s before to rows end le h = elim (cases_lt (location_of s before) to) [
  | inl lt ↦ rw (lt-ltb (location_of s before) to lt) (refl, lt, h)
  | inr ge ↦ let same : to ≡ location_of s before = omega arith in
      rw (le-ltb (location_of s before) to ge) (subst (λ n. Cover n rows end) same h)
]

pub cover-after : (c : Cie) (f : Fde) (before : List Effect) (items : List (Result (ℕ × Instruction) Fault))
    → location_of (fde_start c f) before ≤ f.initial_location + f.address_range → fde_fault_from c f before items ≡ None →
    Cover (location_of (fde_start c f) before) (rows_after (fde_start c f) before (effects_of c items))
    (f.initial_location + f.address_range)
cover-after c f before [] le none =
    let s = fde_start c f in
    elim (cases_lt (location_of s before) s.end) [
      | inl lt ↦ rw (lt-ltb (location_of s before) s.end lt) (refl, lt, refl)
      | inr ge ↦ rw (le-ltb (location_of s before) s.end ge) (omega arith)
    ]
cover-after c f before (Err fault ∷ items) le none = let no : Some fault ≡ None = none in cc
cover-after c f before (Ok item ∷ items) le none =
    let s = fde_start c f in
    let x = effect_of c item.1 in
    let both = option_or-none (item_fault (refusal_at s) c before item) (fde_fault_from c f (x ∷ before) items) none in
    let fine : refusal_at s before x ≡ None = (item-passes (refusal_at s) c before item both.0).1 in
    let past = (passed-from s before x fine).past in
    let within : location_of s (x ∷ before) ≤ s.end = grind (arith, nat_tests) in
    cover-up s before (location_of s (x ∷ before)) _ (f.initial_location + f.address_range) (forward s before x fine)
    (cover-after c f (x ∷ before) items within both.1)

pub cover-rows : (c : Cie) (f : Fde) → fde_fault c f ≡ None → Cover f.initial_location (rows_of c f) (f.initial_location + f.address_range)
unfolding fde_fault rows_of
cover-rows c f none = cover-after c f [] (instructions_of f.program) (omega arith) none

-- ---- which row has an address

pub cover-le : {E : Type 0} (from to : ℕ) (rows : List (RowOver E)) → Cover from rows to → from ≤ to
cover-le from to [] h = omega (arith, h)
cover-le from to (row ∷ rows) h = let k : row.end ≤ to = cover-le row.end to rows h.2 in omega (arith, h.0, h.1)

pub not-here-below : (a : ℕ) (row : PlacedRow) → a < row.start → has_address a row ≡ false
not-here-below a row h = let no : leb row.start a ≡ false = grind (arith, nat_tests) in rw no refl

pub not-here-above : (a : ℕ) (row : PlacedRow) → row.end ≤ a → has_address a row ≡ false
not-here-above a row h = let no : ltb a row.end ≡ false = le-ltb a row.end h in
    elim (leb row.start a) as (λ b. (b && ltb a row.end) ≡ false) [ true ↦ no | false ↦ refl ]

pub here : (a : ℕ) (row : PlacedRow) → row.start ≤ a → a < row.end → has_address a row ≡ true
here a row h k = let yes : leb row.start a ≡ true = grind (arith, nat_tests) in rw (yes, lt-ltb a row.end k) refl

pub find-below : (a from to : ℕ) (rows : List PlacedRow) → Cover from rows to → a < from → find (has_address a) rows ≡ None
find-below a from to [] h l = refl
find-below a from to (row ∷ rows) h l =
    let k : find (has_address a) rows ≡ None = find-below a row.end to rows h.2 (omega (arith, h.0, h.1)) in
    rw (not-here-below a row (omega (arith, h.0))) k

pub find-above : (a from to : ℕ) (rows : List PlacedRow) → Cover from rows to → to ≤ a → find (has_address a) rows ≡ None
find-above a from to [] h l = refl
find-above a from to (row ∷ rows) h l =
    let k : find (has_address a) rows ≡ None = find-above a row.end to rows h.2 l in
    let le : row.end ≤ to = cover-le row.end to rows h.2 in
    rw (not-here-above a row (omega arith)) k

pub find-some : (a from to : ℕ) (rows : List PlacedRow) → Cover from rows to → from ≤ a → a < to → IsSome (find (has_address a) rows)
find-some a from to [] h l g = absurd (omega (arith, h))
find-some a from to (row ∷ rows) h l g = elim (cases_lt a row.end) [
  | inl in_row ↦ rw (here a row (omega (arith, h.0)) in_row) refl
  | inr beyond ↦ rw (not-here-above a row beyond) (find-some a row.end to rows h.2 beyond g)
]

none-some : {A : Type 0} (o : Option A) → o ≡ None → IsSome o → ⊥
none-some None e h = cc
none-some (Some x) e h = cc

-- a covered address has a row
pub not-missed : (c : Cie) (f : Fde) (a : ℕ) → fde_fault c f ≡ None → f.initial_location ≤ a → a < f.initial_location + f.address_range
    → find (has_address a) (rows_of c f) ≡ None → ⊥
not-missed c f a none low high missed = none-some _ missed
    (find-some a f.initial_location (f.initial_location + f.address_range) (rows_of c f) (cover-rows c f none) low high)

-- a row that is found among rows that end at `to` begins and ends at or below `to`
pub found-by : {E : Type 0} (p : RowOver E → Bool) (from to : ℕ) (rows : List (RowOver E)) (row : RowOver E) → Cover from rows to
    → find p rows ≡ Some row
    → (row.start ≤ to) × (row.end ≤ to)
found-by {E = E} p from to [] row covered found = cc
found-by {E = E} p from to (first ∷ rows) row covered found =
    go (λ later. found-by p first.end to rows row covered.2 later) (p first) found
  where
    here : first ≡ row → (row.start ≤ to) × (row.end ≤ to)
    here e = subst (λ (r : RowOver E). (r.start ≤ to) × (r.end ≤ to)) e
        (let end = cover-le first.end to rows covered.2 in (omega (arith, covered.1, end), end))

    go : (find p rows ≡ Some row → (row.start ≤ to) × (row.end ≤ to)) → (b : Bool) → cond b (Some first) (find p rows) ≡ Some row
        → (row.start ≤ to) × (row.end ≤ to)
    go next true e = here cc
    go next false e = next e
