-- Tests on operations, states and offsets, and that each is true exactly if what it tests holds.
use Rattle.std.proofs.Common.{◌≡◌, ◌≢◌, ◌∙◌, ℕ, zero, suc, ◌+◌, ◌≤◌, ◌⊎◌, ◌||◌, ◌&&◌, Bool, true, false, not, eqb, List, [], ◌∷◌}
use Rattle.std.proofs.Common.{length, Some, refl, sym, ap, inl, inr, arith}
use Rattle.std.specs.Prelude.{◌==◌, if◌then◌else◌}
use Rattle.std.specs.List.{list_any, list_all}
use Rattle.std.proofs.lemmas.Bool.{cases_Bool, eqb-true, eqb-false, or_left, or_right}
use Rattle.dw_stack.specs.declared.state.StackState.{StackState}
use Rattle.dw_stack.specs.declared.state.Mode.{Mode}
use Rattle.dw_stack.specs.Paths.{Placed, place}
use Rattle.dw_stack.specs.Faults.{is_start}
use Rattle.dw_stack.specs.FirstFault.{number_of, same_state}
use Rattle.dw_stack.proofs.paths.InStates.{Has}
use Rattle.dw_stack.proofs.Stable.{mode_stable}

-- the test b is true exactly if P holds
abbrev pub Tells : Bool → Type 0 → Type 0
Tells b P = ((b ≡ true) × P) ⊎ ((b ≡ false) × (P → ⊥))

pub bool_tells : (b : Bool) → Tells b (b ≡ true)
bool_tells true = inl (refl, refl)
bool_tells false = inr (refl, λ e. cc)

pub equal_tells : (a b : ℕ) → Tells (a == b) (a ≡ b)
equal_tells a b = elim (cases_Bool (eqb a b)) [ inl is ↦ inl (is, eqb-true a b is) | inr is ↦ inr (is, eqb-false a b is) ]

-- ---- states and targets

flag_tells : (b c : Bool) → Tells (if b then c else not c) (b ≡ c)
flag_tells true true = inl (refl, refl)
flag_tells false false = inl (refl, refl)
flag_tells true false = inr (refl, λ e. cc)
flag_tells false true = inr (refl, λ e. cc)

both_tell : {P Q R : Type 0} (b c d : Bool) → Tells b P → Tells c Q → Tells d R → Tells (b && c && d) (P × Q × R)
both_tell b c d first second third = elim first [
  | inr other ↦ inr (ap (λ (x : Bool). x && c && d) other.0, λ all. other.1 all.0)
  | inl p ↦ elim second [
    | inr other ↦ inr (ap (λ (x : Bool). x && c && d) p.0 ∙ ap (λ (x : Bool). true && x && d) other.0, λ all. other.1 all.1)
    | inl q ↦ elim third [
      | inr other ↦ inr (ap (λ (x : Bool). x && c && d) p.0 ∙ (ap (λ (x : Bool). true && x && d) q.0 ∙ other.0), λ all. other.1 all.2)
      | inl r ↦ inl (ap (λ (x : Bool). x && c && d) p.0 ∙ (ap (λ (x : Bool). true && x && d) q.0 ∙ r.0), (p.1, q.1, r.1))
    ]
  ]
]

abbrev made : ℕ → Mode → Bool → StackState
made height m pieced = record { height = height; mode = m; pieced = pieced }

pub same_tells : (s t : StackState) → Tells (same_state s t) (s ≡ t)
same_tells s t = elim (both_tell (s.height == t.height) (number_of s.mode == number_of t.mode) (if s.pieced then t.pieced else not t.pieced)
    (equal_tells s.height t.height) (equal_tells (number_of s.mode) (number_of t.mode)) (flag_tells s.pieced t.pieced)) [
      | inr other ↦ inr (
        other.0,
        λ e. other.1 (
          ap (λ (x : StackState). x.height) e,
          ap (λ (x : StackState). number_of x.mode) e,
          ap (λ (x : StackState). x.pieced) e,
        ),
      )
      | inl all ↦
          let first : made s.height s.mode s.pieced ≡ made t.height s.mode s.pieced = ap (λ (h : ℕ). made h s.mode s.pieced) all.1.0 in
          let second : made t.height s.mode s.pieced ≡ made t.height t.mode s.pieced =
          ap (λ (m : Mode). made t.height m s.pieced) (mode_stable s.mode t.mode all.1.1) in
          let third : made t.height t.mode s.pieced ≡ made t.height t.mode t.pieced = ap (λ (b : Bool). made t.height t.mode b) all.1.2 in
          inl (all.0, first ∙ (second ∙ third))
    ]

pub others_tell : (s : StackState) (others : List StackState)
    → ((list_all (same_state s) others ≡ true) × ((t : StackState) → Has others t → t ≡ s))
    ⊎ ((list_all (same_state s) others ≡ false) × (t : StackState) × Has others t × (s ≢ t))
others_tell s [] = inl (refl, λ t h. absurd h)
others_tell s (u ∷ others) = elim (same_tells s u) [
  | inr other ↦ inr (ap (λ (b : Bool). b && list_all (same_state s) others) other.0, u, inl refl, other.1)
  | inl same ↦
      let passes : list_all (same_state s) (u ∷ others) ≡ list_all (same_state s) others =
      ap (λ (b : Bool). b && list_all (same_state s) others) same.0 in
      elim (others_tell s others) [
        | inr later ↦ inr (passes ∙ later.0, later.1, inr later.2, later.3)
        | inl all ↦ inl (passes ∙ all.0, λ t h. elim h [ inl here ↦ sym here ∙ sym same.1 | inr later ↦ all.1 t later ])
      ]
]

pub start_tells : (ops : List Placed) (len t : ℕ)
    → ((is_start ops len (Some t) ≡ true) × (j : ℕ) × (j ≤ length ops) × (place ops len j ≡ t))
    ⊎ ((is_start ops len (Some t) ≡ false) × ((j : ℕ) → j ≤ length ops → place ops len j ≢ t))
start_tells [] len t = elim (equal_tells len t) [
  | inl here ↦ inl (or_left (len == t) false here.0, 0, omega arith, here.1)
  | inr other ↦ inr (ap (λ (b : Bool). b || false) other.0, λ j le. other.1)
]
start_tells (x ∷ ops) len t = elim (equal_tells x.0 t) [
  | inl here ↦ inl (
    or_right (len == t) ((x.0 == t) || list_any (λ (y : Placed). y.0 == t) ops)
        (or_left (x.0 == t) (list_any (λ (y : Placed). y.0 == t) ops) here.0),
    0,
    omega arith,
    here.1,
  )
  | inr other ↦
      let passes : is_start (x ∷ ops) len (Some t) ≡ is_start ops len (Some t) =
      ap (λ (b : Bool). (len == t) || (b || list_any (λ (y : Placed). y.0 == t) ops)) other.0 in
      elim (start_tells ops len t) [
        | inl found ↦ inl (passes ∙ found.0, found.1 + 1, omega (arith, found.2), found_at found.1 found.3)
        | inr none ↦ inr (passes ∙ none.0, λ j le. nowhere_at j le other.1 none.1)
      ]
]
  where
    found_at : (j : ℕ) → place ops len j ≡ t → place (x ∷ ops) len (j + 1) ≡ t
    found_at j e = ap (place (x ∷ ops) len) (next j) ∙ e
      where
        next : (n : ℕ) → n + 1 ≡ suc n
        next n = omega arith

    nowhere_at : (j : ℕ) → j ≤ length (x ∷ ops) → (x.0 ≢ t) → ((k : ℕ) → k ≤ length ops → place ops len k ≢ t) → place (x ∷ ops) len j ≢ t
    nowhere_at zero le other none e = other e
    nowhere_at (suc j) le other none e = none j (omega arith) e
