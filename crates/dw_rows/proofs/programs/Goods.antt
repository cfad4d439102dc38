-- A program is good (`IsGood`, ../../specs/GoodPrograms.antt) if and only if none of its instructions
-- is refused and its end isn't refused.
use Rattle.std.proofs.Common.{◌≡◌, ◌≢◌, ℕ, zero, suc, ◌+◌, ◌-◌, ◌<◌, ◌≤◌, ◌⊎◌, inl, inr, Bool, List, [], ◌∷◌, ◌++◌, length, reverse, take}
use Rattle.std.proofs.Common.{drop, get_or, refl, sym, ap, ◌∙◌, arith, Option, Some, None, length-append, append_assoc, true, false, cond}
use Rattle.std.proofs.Common.{eqb, ltb, leb, add-one, eq-eqb, drop-cons, subst, ◌↔◌}
use Rattle.std.proofs.lemmas.List.{take-append-drop, length-reverse}
use Rattle.std.proofs.lemmas.Option.{get_or_from_slice_get, slice_get_within, slice_get-get_or}
use Rattle.std.proofs.lemmas.Bool.{cases_lt, lt-ltb, le-ltb}
use Rattle.std.proofs.lemmas.Bool.Decides.{nat_tests}
use Rattle.std.specs.Prelude.{slice_get, ◌&&◌}
use Rattle.dw_bytes.specs.declared.fault.FaultKind.{FaultKind}
use Rattle.dw_bytes.specs.declared.fault.FaultKind.TheVariants.{NotInCie}
use Rattle.dw_frame.specs.Records.{Cie}
use Rattle.dw_rules.specs.declared.register_rules.TheConstants.{MAX_RULES}
use Rattle.dw_rules.specs.declared.remember_stack.TheConstants.{MAX_REMEMBERED}
use Rattle.dw_rules.specs.Rules.{PlacedCfa, rule_count}
use Rattle.dw_rules.specs.Effects.{Effect, stays, advances_loc, sets_loc, remembers_state, restores_state, needs_register_cfa, is_barred}
use Rattle.dw_rules.specs.InForce.{Start, location_of, rule_at, cfa_at, open_count, not_register_cfa, cie_start}
use Rattle.dw_rules.specs.ProgramFault.{is_restore_state, is_remember_state, lacks_cfa, goes_back, refusal_at, refusal_at_end, cie_refusal_at}
use Rattle.dw_rows.specs.GoodPrograms.{prefix, remembers, restores_in, Match, IsLast, IsGood, IsGoodCie, rule_after, cfa_after, location_after}
use Rattle.dw_rows.proofs.programs.Checking.{Passed, passed-from, from-passed, Ended, ended-from, from-ended}
use Rattle.dw_rows.proofs.programs.Beginnings.{prefix-all, length-prefix}
use Rattle.dw_rows.proofs.programs.InForce.{prefix-at, around, reverse-middle}
use Rattle.dw_rows.proofs.programs.Matching.{found, open_count-skip, StaysOut-balanced, balanced-StaysOut, remembers-append, restores-append}
use Rattle.dw_rows.proofs.programs.Matching.{remembers-reverse, restores-reverse, reverse-reverse}
use Rattle.dw_rows.proofs.programs.Effects.{open_count-suc}

-- no instruction of the program is refused, and neither is the program's end
pub record Fine (s : Start) (p : List Effect) : Type 0 where
  pub each : (k : ℕ) (x : Effect) → slice_get p k ≡ Some x → refusal_at s (prefix p k) x ≡ None
  pub ends : refusal_at_end s (reverse p) ≡ None

-- the instruction at index k passes each test of `refusal_at`
at-k : (s : Start) (p : List Effect) → Fine s p → (k : ℕ) → (lt : k < length p) → Passed s (prefix p k) (get_or p k stays)
at-k s p h k lt = passed-from s (prefix p k) (get_or p k stays) (h.each k (get_or p k stays) (slice_get-get_or p k stays lt))

prefix-next : (p : List Effect) (k : ℕ) → k < length p → prefix p (k + 1) ≡ get_or p k stays ∷ prefix p k
prefix-next p k lt = prefix-at p k (get_or p k stays) (slice_get-get_or p k stays lt)

-- If the number of open remember_states plus the number of restore_states is the number of all
-- remember_states, this is also true after the instruction x, unless x is a restore_state and no
-- remember_state is open.
open-step : (before : List Effect) (x : Effect) → (is_restore_state x && eqb (open_count before 0) 0) ≡ false
    → open_count before 0 + restores_in before ≡ remembers before
    → open_count (x ∷ before) 0 + restores_in (x ∷ before) ≡ remembers (x ∷ before)
open-step before restores_state h e =
    let k : open_count before 1 ≡ open_count before 0 - 1 = open_count-suc before 0 in
    let n : open_count before 0 ≢ 0 = λ z. let y : eqb (open_count before 0) 0 ≡ true = eq-eqb (open_count before 0) 0 z in
    let f : eqb (open_count before 0) 0 ≡ false = h in cc in
    omega arith
open-step before remembers_state h e = omega arith
open-step before _ h e = e

open-upto : (s : Start) (p : List Effect) → Fine s p → (k : ℕ) → k ≤ length p
    → open_count (prefix p k) 0 + restores_in (prefix p k) ≡ remembers (prefix p k)
open-upto s p h zero l = refl
open-upto s p h (suc k) l =
    let lt : k < length p = omega arith in
    let e : prefix p (suc k) ≡ get_or p k stays ∷ prefix p k = sym (ap (prefix p) (add-one k)) ∙ prefix-next p k lt in
    rw e (open-step (prefix p k) (get_or p k stays) (at-k s p h k lt).unmatched (open-upto s p h k (omega arith)))

shallow-step : (before : List Effect) (x : Effect) → (is_remember_state x && leb MAX_REMEMBERED (open_count before 0)) ≡ false
    → open_count before 0 ≤ MAX_REMEMBERED → open_count (x ∷ before) 0 ≤ MAX_REMEMBERED
shallow-step before restores_state h e = let k : open_count before 1 ≡ open_count before 0 - 1 = open_count-suc before 0 in omega arith
shallow-step before remembers_state h e = let f : leb MAX_REMEMBERED (open_count before 0) ≡ false = h in grind (arith, nat_tests)
shallow-step before _ h e = e

shallow-upto : (s : Start) (p : List Effect) → Fine s p → (k : ℕ) → k ≤ length p → open_count (prefix p k) 0 ≤ MAX_REMEMBERED
shallow-upto s p h zero l = omega arith
shallow-upto s p h (suc k) l =
    let lt : k < length p = omega arith in
    let e : prefix p (suc k) ≡ get_or p k stays ∷ prefix p k = sym (ap (prefix p) (add-one k)) ∙ prefix-next p k lt in
    rw e (shallow-step (prefix p k) (get_or p k stays) (at-k s p h k lt).deep (shallow-upto s p h k (omega arith)))

-- a program is its first k instructions, the instruction x at index k, and the instructions after
-- it
pub take-split : (p : List Effect) (k : ℕ) (x : Effect) → slice_get p k ≡ Some x → p ≡ reverse (prefix p k) ++ x ∷ drop (k + 1) p
take-split p k x h =
    let lt : k < length p = slice_get_within p k x h in
    let is : get_or p k stays ≡ x = get_or_from_slice_get p k x stays h in
    let d : drop k p ≡ get_or p k stays ∷ drop (k + 1) p = rw add-one (drop-cons p k stays lt) in
    sym (take-append-drop k p) ∙ ap (λ l. take k p ++ l) (d ∙ rw is refl)
    ∙ ap (λ l. l ++ x ∷ drop (k + 1) p) (sym (reverse-reverse (take k p)))

-- a restore_state has a match if a remember_state is open before it
pub match-from : (p : List Effect) (j : ℕ) → slice_get p j ≡ Some restores_state → 0 < open_count (prefix p j) 0 → (i : ℕ) × Match p i j
match-from p j at some =
    let f = found (prefix p j) 0 some in
    let ends : reverse (prefix p j) ≡ reverse f.outer ++ remembers_state ∷ reverse f.inner =
    ap reverse f.whole ∙ reverse-middle f.inner f.outer remembers_state in
    let long : length (prefix p j) ≡ j = length-prefix p j (omega (arith, slice_get_within p j restores_state at)) in
    let parts : length (prefix p j) ≡ length f.inner + (length f.outer + 1) =
    ap length f.whole ∙ length-append f.inner (remembers_state ∷ f.outer) ∙ omega arith in (
      length f.outer,
      record {
        front = reverse f.outer;
        between = reverse f.inner;
        back = drop (j + 1) p;
        whole = take-split p j restores_state at ∙ ap (λ l. l ++ restores_state ∷ drop (j + 1) p) ends
            ∙ append_assoc (reverse f.outer) (remembers_state ∷ reverse f.inner) (restores_state ∷ drop (j + 1) p);
        at_remember = length-reverse f.outer;
        at_restore = omega (arith, length-reverse f.inner);
        balanced = balanced-StaysOut f.inner f.out (omega (arith, f.equal));
      },
    )

-- if a restore_state has a match, a remember_state is open before it
pub open-matched : (p : List Effect) (i j : ℕ) → Match p i j → 0 < open_count (prefix p j) 0
open-matched p i j m =
    let a = around p i j m in
    let k : open_count (reverse m.between ++ remembers_state ∷ reverse m.front) 0 ≡ open_count (remembers_state ∷ reverse m.front) 0 =
    open_count-skip (reverse m.between) (remembers_state ∷ reverse m.front) 0 0 (StaysOut-balanced m.between m.balanced)
    (omega (arith, m.balanced.equal, remembers-reverse m.between, restores-reverse m.between)) in
    rw (a.at_restore, k) (omega arith)

-- A restore_state in `xs` closes a remember_state that comes before `xs`. When `xs` begins, e later
-- remember_states are open, too. `inner` is the instructions in `xs` before that restore_state.
record Closes (e : ℕ) (xs : List Effect) : Type 0 where
  inner : List Effect
  after : List Effect
  whole : xs ≡ inner ++ restores_state ∷ after
  each : (front back : List Effect) → inner ≡ front ++ back → restores_in front ≤ remembers front + e
  equal : restores_in inner ≡ remembers inner + e

nil-each : (e : ℕ) (front back : List Effect) → [] ≡ front ++ back → restores_in front ≤ remembers front + e
nil-each e [] back q = omega arith
nil-each e (x ∷ front) back q = cc

cons-each : (e : ℕ) (x : Effect) (xs : List Effect)
    → ((front back : List Effect) → xs ≡ front ++ back → restores_in (x ∷ front) ≤ remembers (x ∷ front) + e) → (front back : List Effect)
    → x ∷ xs ≡ front ++ back → restores_in front ≤ remembers front + e
cons-each e x xs h [] back q = omega arith
cons-each e x xs h (y ∷ front) back q = let same : x ≡ y = cc in let rest : xs ≡ front ++ back = cc in rw (← same) (h front back rest)

closes : (e : ℕ) (xs : List Effect) → Closes e xs ⊎ (restores_in xs ≤ remembers xs + e)
closes e [] = inr (omega arith)
closes zero (restores_state ∷ xs) = inl (record { inner = []; after = xs; whole = refl; each = nil-each 0; equal = refl })
closes (suc e) (restores_state ∷ xs) = elim (closes e xs) [
  | inl k ↦ inl (record {
    inner = restores_state ∷ k.inner;
    after = k.after;
    whole = ap (λ l. restores_state ∷ l) k.whole;
    each = cons-each (suc e) restores_state k.inner (λ f b q. let h : restores_in f ≤ remembers f + e = k.each f b q in omega arith);
    equal = omega (arith, k.equal);
  })
  | inr h ↦ inr (omega arith)
]
closes e (remembers_state ∷ xs) = elim (closes (suc e) xs) [
  | inl k ↦ inl (record {
    inner = remembers_state ∷ k.inner;
    after = k.after;
    whole = ap (λ l. remembers_state ∷ l) k.whole;
    each = cons-each e remembers_state k.inner (λ f b q. let h : restores_in f ≤ remembers f + suc e = k.each f b q in omega arith);
    equal = omega (arith, k.equal);
  })
  | inr h ↦ inr (omega arith)
]
closes e (x ∷ xs) = elim (closes e xs) [
  | inl k ↦ inl (record {
    inner = x ∷ k.inner;
    after = k.after;
    whole = ap (λ l. x ∷ l) k.whole;
    each = cons-each e x k.inner (λ f b q. k.each f b q);
    equal = k.equal;
  })
  | inr h ↦ inr h
]

-- if no remember_state is open at the program's end, each remember_state has a match
pub match-later : (s : Start) (p : List Effect) → Fine s p → open_count (reverse p) 0 ≡ 0 → (i : ℕ) → slice_get p i ≡ Some remembers_state
    → (j : ℕ) × Match p i j
match-later s p h none i at =
    let lt : i < length p = slice_get_within p i remembers_state at in
    let split : p ≡ reverse (prefix p i) ++ remembers_state ∷ drop (i + 1) p = take-split p i remembers_state at in
    elim (closes 0 (drop (i + 1) p)) [
      | inl k ↦ (
        i + 1 + length k.inner,
        record {
          front = reverse (prefix p i);
          between = k.inner;
          back = k.after;
          whole = split ∙ ap (λ l. reverse (prefix p i) ++ remembers_state ∷ l) k.whole;
          at_remember = length-reverse (prefix p i) ∙ length-prefix p i (omega arith);
          at_restore = refl;
          balanced = record {
            equal = omega (arith, k.equal);
            each = λ f b q. let e : restores_in f ≤ remembers f + 0 = k.each f b q in
                omega arith;
          };
        },
      )
      | inr few ↦
          let here : open_count (prefix p i) 0 + restores_in (prefix p i) ≡ remembers (prefix p i) =
          open-upto s p h i (omega arith) in
          let whole : open_count (reverse p) 0 + restores_in (reverse p) ≡ remembers (reverse p) = let e =
          open-upto s p h (length p) (omega arith) in rw (prefix-all p (length p) (omega arith)) at e in
          let m : remembers p ≡ remembers (reverse (prefix p i)) + (remembers (drop (i + 1) p) + 1) =
          ap remembers split ∙ remembers-append (reverse (prefix p i)) (remembers_state ∷ drop (i + 1) p) in
          let r : restores_in p ≡ restores_in (reverse (prefix p i)) + restores_in (drop (i + 1) p) = ap restores_in split
          ∙ restores-append (reverse (prefix p i)) (remembers_state ∷ drop (i + 1) p) in
          absurd (omega (
            arith,
            remembers-reverse p,
            restores-reverse p,
            remembers-reverse (prefix p i),
            restores-reverse (prefix p i),
          ))
    ]

-- if two splits of a list have fronts of the same length, their backs are equal
front-same : (a c b d : List Effect) → a ++ b ≡ c ++ d → length a ≡ length c → b ≡ d
front-same [] [] b d e l = e
front-same [] (y ∷ c) b d e l = absurd (omega arith)
front-same (x ∷ a) [] b d e l = absurd (omega arith)
front-same (x ∷ a) (y ∷ c) b d e l = front-same a c b d (cc) (omega arith)

get-middle : (front back : List Effect) (x : Effect) → slice_get (front ++ x ∷ back) (length front) ≡ Some x
get-middle [] back x = refl
get-middle (y ∷ front) back x = get-middle front back x

get-split : (p front back : List Effect) (x : Effect) (n : ℕ) → p ≡ front ++ x ∷ back → length front ≡ n → slice_get p n ≡ Some x
get-split p front back x n e l = rw (e, ← l) (get-middle front back x)

-- if each remember_state has a match, none is open at the program's end
pub none-open : (p : List Effect) → ((i : ℕ) → slice_get p i ≡ Some remembers_state → (j : ℕ) × Match p i j) → open_count (reverse p) 0 ≡ 0
none-open p h = elim (cases_lt 0 (open_count (reverse p) 0)) [
  | inr z ↦ omega arith
  | inl some ↦
      let f = found (reverse p) 0 some in
      let split : p ≡ reverse f.outer ++ remembers_state ∷ reverse f.inner = sym (reverse-reverse p) ∙ ap reverse f.whole
      ∙ reverse-middle f.inner f.outer remembers_state in
      let at : slice_get p (length f.outer) ≡ Some remembers_state = get-split p (reverse f.outer) (reverse f.inner) remembers_state
      (length f.outer) split (length-reverse f.outer) in
      let m = (h (length f.outer) at).1 in
      let same : remembers_state ∷ reverse f.inner ≡ remembers_state ∷ (m.between ++ restores_state ∷ m.back) =
      front-same (reverse f.outer) m.front _ _ (sym split ∙ m.whole) (omega (arith, length-reverse f.outer, m.at_remember)) in
      let rest : reverse f.inner ≡ m.between ++ restores_state ∷ m.back = cc in
      let inner : f.inner ≡ reverse m.back ++ restores_state ∷ reverse m.between = sym (reverse-reverse f.inner) ∙ ap reverse rest
      ∙ reverse-middle m.between m.back restores_state in
      let ahead : remembers (reverse m.back) ≤ restores_in (reverse m.back) + 0 = f.out.each (reverse m.back) _ inner in
      let a : remembers f.inner ≡ remembers (reverse m.back) + remembers (reverse m.between) =
      ap remembers inner ∙ remembers-append (reverse m.back) (restores_state ∷ reverse m.between) in
      let b : restores_in f.inner ≡ restores_in (reverse m.back) + (restores_in (reverse m.between) + 1) = ap restores_in inner
      ∙ restores-append (reverse m.back) (restores_state ∷ reverse m.between) in
      absurd (omega (arith, f.equal, m.balanced.equal, remembers-reverse m.between, restores-reverse m.between))
]

-- an instruction that passes the test `goes_back` doesn't move the location back
forward-step : (s : Start) (b : List Effect) (x : Effect) → goes_back (location_of s b) x ≡ false → location_of s b ≤ location_of s (x ∷ b)
forward-step s b (sets_loc a) h = let k : leb a (location_of s b) ≡ false = h in grind (arith, nat_tests)
forward-step s b (advances_loc d) h = omega arith
forward-step s b _ h = omega arith

lacks-none : (c : Option PlacedCfa) → c ≢ None → lacks_cfa c ≡ false
lacks-none None h = absurd (h refl)
lacks-none (Some x) h = refl

none-lacks : (c : Option PlacedCfa) → lacks_cfa c ≡ false → c ≢ None
none-lacks None h = cc
none-lacks (Some x) h = λ e. cc

and-false : (a b : Bool) → a ≡ true → (a && b) ≡ false → b ≡ false
and-false true b h e = e
and-false false b h e = cc

not-above : (a b : ℕ) → ltb a b ≡ false → b ≤ a
not-above a b h = grind (arith, nat_tests)

-- a program is good if none of its instructions is refused, nor its end
pub good-from : (s : Start) (p : List Effect) → s.location ≤ s.end → Fine s p → IsGood s p
good-from s p range h = record {
  forward = λ k lt. rw (prefix-next p k lt) (forward-step s (prefix p k) (get_or p k stays) (at-k s p h k lt).back);
  within = λ k le. within k le;
  above = λ k a at. let t = passed-from s (prefix p k) (sets_loc a) (h.each k (sets_loc a) at) in
      let f : leb a (location_of s (prefix p k)) ≡ false = t.back in grind (arith, nat_tests);
  restored = λ j at. match-from p j at (let t = passed-from s (prefix p j) restores_state (h.each j restores_state at) in
      let f : eqb (open_count (prefix p j) 0) 0 ≡ false = t.unmatched in grind (arith, nat_tests));
  remembered = match-later s p h closed;
  shallow = λ k le. omega (arith, shallow-upto s p h k le, open-upto s p h k le, remembers-reverse (take k p), restores-reverse (take k p));
  kind = λ k x at changes. and-false (needs_register_cfa x) _ changes (passed-from s (prefix p k) x (h.each k x at)).kind;
  narrow = λ k x at. (passed-from s (prefix p k) x (h.each k x at)).wide;
  few = λ k lt. few k lt;
  covered = λ a k low high last. covered a k low high last;
}
  where
    both : Ended s (reverse p)
    both = ended-from s (reverse p) h.ends

    closed : open_count (reverse p) 0 ≡ 0
    closed = let f = both.closed in grind (arith, nat_tests)

    within : (k : ℕ) → k ≤ length p → location_after s p k ≤ s.end
    within zero le = range
    within (suc k) le =
        let lt : k < length p = omega arith in
        let t = (at-k s p h k lt).past in
        let e : prefix p (suc k) ≡ get_or p k stays ∷ prefix p k = sym (ap (prefix p) (add-one k)) ∙ prefix-next p k lt in
        rw e (let n : location_of s (get_or p k stays ∷ prefix p k) ≤ s.end = grind (arith, nat_tests) in n)

    few : (k : ℕ) → k < length p → rule_count (rule_after s p (k + 1)) ≤ MAX_RULES
    few k lt = subst (λ b. rule_count (rule_at s b 0) ≤ MAX_RULES) (sym (prefix-next p k lt))
        (not-above MAX_RULES _ (at-k s p h k lt).many)

    covered : (a k : ℕ) → s.location ≤ a → a < s.end → IsLast s p a k → cfa_after s p k ≢ None
    covered a k low high last = elim (cases_lt k (length p)) [
      | inl lt ↦
          let past : a < location_after s p (k + 1) = last.last (k + 1) (omega arith) (omega arith) in
          let moved : location_of s (prefix p k) < location_of s (get_or p k stays ∷ prefix p k) = let r = last.reached in
          rw (← prefix-next p k lt) (omega arith) in
          none-lacks (cfa_after s p k) (and-false _ _ (lt-ltb _ _ moved) (at-k s p h k lt).no_cfa)
      | inr end ↦
          let whole : prefix p k ≡ reverse p = prefix-all p k end in
          let before : location_of s (reverse p) < s.end = let r : location_after s p k ≤ a = last.reached in
          let r' : location_of s (reverse p) ≤ a = rw whole at r in omega arith in
          rw whole (none-lacks (cfa_at s (reverse p) 0) (and-false _ _ (lt-ltb _ _ before) both.no_cfa))
    ]

-- in a good program the location never goes back, over any number of instructions
pub climbs : (s : Start) (p : List Effect) → IsGood s p → (k n : ℕ) → k + n ≤ length p → location_after s p k ≤ location_after s p (k + n)
climbs s p g k zero le = let e : k + 0 ≡ k = omega arith in rw e (omega arith)
climbs s p g k (suc n) le =
    let a : location_after s p k ≤ location_after s p (k + n) = climbs s p g k n (omega arith) in
    let b : location_after s p (k + n) ≤ location_after s p (k + n + 1) = g.forward (k + n) (omega arith) in
    let e : k + suc n ≡ k + n + 1 = omega arith in
    rw e (omega arith)

pub climbs-to : (s : Start) (p : List Effect) → IsGood s p → (k m : ℕ) → k ≤ m → m ≤ length p → location_after s p k ≤ location_after s p m
climbs-to s p g k m le lt = let c : location_after s p k ≤ location_after s p (k + (m - k)) = climbs s p g k (m - k) (omega arith) in
    let e : k + (m - k) ≡ m = omega arith in rw e at c

not-below : (a b : ℕ) → b ≤ a → ltb a b ≡ false
not-below a b h = le-ltb a b h

-- in a good program the instruction x at index k passes each test of `refusal_at`; first, the test
-- `goes_back`
good-back : (s : Start) (p : List Effect) → IsGood s p → (k : ℕ) (x : Effect) → slice_get p k ≡ Some x
    → goes_back (location_after s p k) x ≡ false
good-back s p g k (sets_loc a) at = let h : location_after s p k < a = g.above k a at in grind (arith, nat_tests)
good-back s p g k _ at = refl

good-unmatched : (s : Start) (p : List Effect) → IsGood s p → (k : ℕ) (x : Effect) → slice_get p k ≡ Some x
    → (is_restore_state x && eqb (open_count (prefix p k) 0) 0) ≡ false
good-unmatched s p g k restores_state at = let m = g.restored k at in let o : 0 < open_count (prefix p k) 0 = open-matched p m.0 k m.1 in
    grind (arith, nat_tests)
good-unmatched s p g k _ at = refl

good-open : (s : Start) (p : List Effect) → IsGood s p → (k : ℕ) → k ≤ length p
    → open_count (prefix p k) 0 + restores_in (prefix p k) ≡ remembers (prefix p k)
good-open s p g zero le = refl
good-open s p g (suc k) le =
    let lt : k < length p = omega arith in
    let e : prefix p (suc k) ≡ get_or p k stays ∷ prefix p k = sym (ap (prefix p) (add-one k)) ∙ prefix-next p k lt in
    rw e (open-step (prefix p k) (get_or p k stays) (good-unmatched s p g k _ (slice_get-get_or p k stays lt))
    (good-open s p g k (omega arith)))

good-deep : (s : Start) (p : List Effect) → IsGood s p → (k : ℕ) (x : Effect) → slice_get p k ≡ Some x
    → (is_remember_state x && leb MAX_REMEMBERED (open_count (prefix p k) 0)) ≡ false
good-deep s p g k remembers_state at =
    let lt : k < length p = slice_get_within p k remembers_state at in
    let o : open_count (prefix p k) 0 + restores_in (prefix p k) ≡ remembers (prefix p k) = good-open s p g k (omega arith) in
    let few : remembers (take (k + 1) p) ≤ restores_in (take (k + 1) p) + MAX_REMEMBERED = g.shallow (k + 1) (omega arith) in
    let m : remembers (prefix p (k + 1)) ≡ remembers (prefix p k) + 1 = ap remembers (prefix-at p k remembers_state at) in
    let r : restores_in (prefix p (k + 1)) ≡ restores_in (prefix p k) = ap restores_in (prefix-at p k remembers_state at) in
    let n : open_count (prefix p k) 0 < MAX_REMEMBERED =
    omega (arith, remembers-reverse (take (k + 1) p), restores-reverse (take (k + 1) p)) in
    grind (arith, nat_tests)
good-deep s p g k _ at = refl

when : (a b : Bool) → (a ≡ true → b ≡ false) → (a && b) ≡ false
when true b h = h refl
when false b h = refl

good-kind : (s : Start) (p : List Effect) → IsGood s p → (k : ℕ) (x : Effect) → slice_get p k ≡ Some x
    → (needs_register_cfa x && not_register_cfa (cfa_after s p k)) ≡ false
good-kind s p g k x at = when (needs_register_cfa x) _ (g.kind k x at)

good-no_cfa : (s : Start) (p : List Effect) → IsGood s p → (k : ℕ) → k < length p
    → (ltb (location_after s p k) (location_after s p (k + 1)) && lacks_cfa (cfa_after s p k)) ≡ false
good-no_cfa s p g k lt = elim (cases_lt (location_after s p k) (location_after s p (k + 1))) [
  | inr h ↦ rw (le-ltb (location_after s p k) (location_after s p (k + 1)) h) refl
  | inl h ↦
      let from : s.location ≤ location_after s p k = climbs-to s p g 0 k (omega arith) (omega arith) in
      let to : location_after s p (k + 1) ≤ s.end = g.within (k + 1) (omega arith) in
      let last : IsLast s p (location_after s p k) k =
      record {
        within = omega arith;
        reached = omega arith;
        last = λ m above le. let c : location_after s p (k + 1)
            ≤ location_after s p m = climbs-to s p g (k + 1) m (omega arith) le in omega arith;
      } in
      let f : lacks_cfa (cfa_after s p k) ≡ false =
      lacks-none (cfa_after s p k) (g.covered (location_after s p k) k from (omega arith) last) in
      rw (lt-ltb (location_after s p k) (location_after s p (k + 1)) h, f) refl
]

pub fine-good : (s : Start) (p : List Effect) → IsGood s p → Fine s p
fine-good s p g = record {
  each = λ k x at.
      let lt : k < length p = slice_get_within p k x at in
      let next : prefix p (k + 1) ≡ x ∷ prefix p k = prefix-at p k x at in
      from-passed s (prefix p k) x (record {
        back = good-back s p g k x at;
        past = subst (λ b. ltb s.end (location_of s b) ≡ false) next
            (not-below s.end (location_after s p (k + 1)) (g.within (k + 1) (omega arith)));
        no_cfa = subst (λ b. (ltb (location_after s p k) (location_of s b) && lacks_cfa (cfa_after s p k)) ≡ false) next
            (good-no_cfa s p g k lt);
        unmatched = good-unmatched s p g k x at;
        deep = good-deep s p g k x at;
        kind = good-kind s p g k x at;
        wide = g.narrow k x at;
        many = subst (λ b. ltb MAX_RULES (rule_count (rule_at s b 0)) ≡ false) next (not-below MAX_RULES _ (g.few k lt));
      });
  ends =
      let closed : open_count (reverse p) 0 ≡ 0 = none-open p g.remembered in
      let a : ltb 0 (open_count (reverse p) 0) ≡ false = rw closed refl in
      from-ended s (reverse p) (record { closed = a; no_cfa = at_end });
}
  where
    whole : prefix p (length p) ≡ reverse p
    whole = prefix-all p (length p) (omega arith)

    and-right : (a b : Bool) → b ≡ false → (a && b) ≡ false
    and-right true b e = e
    and-right false b e = refl

    at_end : (ltb (location_of s (reverse p)) s.end && lacks_cfa (cfa_at s (reverse p) 0)) ≡ false
    at_end = elim (cases_lt (location_after s p (length p)) s.end) [
      | inr h ↦ let h' : s.end ≤ location_of s (reverse p) = rw whole at h in rw (le-ltb (location_of s (reverse p)) s.end h') refl
      | inl h ↦
          let from : s.location ≤ location_after s p (length p) = climbs-to s p g 0 (length p) (omega arith) (omega arith) in
          let last : IsLast s p (location_after s p (length p)) (length p) =
          record { within = omega arith; reached = omega arith; last = λ m above le. absurd (omega arith) } in
          let f : lacks_cfa (cfa_after s p (length p)) ≡ false =
          lacks-none _ (g.covered (location_after s p (length p)) (length p) from h last) in
          let f' : lacks_cfa (cfa_at s (reverse p) 0) ≡ false = rw whole at f in
          and-right _ _ f'
    ]

-- a program is good if and only if none of its instructions is refused and its end isn't refused
pub fine-iff : (s : Start) (p : List Effect) → s.location ≤ s.end → Fine s p ↔ IsGood s p
fine-iff s p range = ((λ h. good-from s p range h), (λ g. fine-good s p g))

-- ---- CIEs

cond-none : (b : Bool) (f : Option FaultKind) → cond b (Some NotInCie) f ≡ None → (b ≡ false) × (f ≡ None)
cond-none true f h = cc
cond-none false f h = (refl, h)

cie-kind : (c : Cie) (p : List Effect) → IsGoodCie c p → (k : ℕ) (x : Effect) → slice_get p k ≡ Some x
    → (needs_register_cfa x && not_register_cfa (cfa_after (cie_start c) p k)) ≡ false
cie-kind c p g k x at = when (needs_register_cfa x) _ (g.kind k x at)

-- an instruction that may be in a CIE doesn't move the location
cie-still : (c : Cie) (b : List Effect) (x : Effect) → is_barred x ≡ false → location_of (cie_start c) b ≡ 0 → location_of (cie_start c) (x ∷ b) ≡ 0
cie-still c b (advances_loc d) n h = cc
cie-still c b (sets_loc a) n h = cc
cie-still c b _ n h = h

cie-upto : (c : Cie) (p : List Effect) → IsGoodCie c p → (k : ℕ) → k ≤ length p → location_of (cie_start c) (prefix p k) ≡ 0
cie-upto c p g zero l = refl
cie-upto c p g (suc k) l =
    let lt : k < length p = omega arith in
    let e : prefix p (suc k) ≡ get_or p k stays ∷ prefix p k = sym (ap (prefix p) (add-one k)) ∙ prefix-next p k lt in
    rw e (cie-still c (prefix p k) (get_or p k stays) (g.allowed k _ (slice_get-get_or p k stays lt)) (cie-upto c p g k (omega arith)))

barred-back : (l : ℕ) (x : Effect) → is_barred x ≡ false → goes_back l x ≡ false
barred-back l (sets_loc a) n = cc
barred-back l _ n = refl

barred-restores_state : (x : Effect) (b : Bool) → is_barred x ≡ false → (is_restore_state x && b) ≡ false
barred-restores_state restores_state b n = cc
barred-restores_state _ b n = refl

barred-remembers_state : (x : Effect) (b : Bool) → is_barred x ≡ false → (is_remember_state x && b) ≡ false
barred-remembers_state remembers_state b n = cc
barred-remembers_state _ b n = refl

both-zero : (a b : ℕ) (c : Bool) → a ≡ 0 → b ≡ 0 → (ltb a b && c) ≡ false
both-zero a b c e f = rw (e, f) refl

cie-passes : (c : Cie) (p : List Effect) → IsGoodCie c p → (k : ℕ) (x : Effect) → slice_get p k ≡ Some x → cie_refusal_at c (prefix p k) x ≡ None
cie-passes c p g k x at =
    let n : is_barred x ≡ false = g.allowed k x at in
    let lt : k < length p = slice_get_within p k x at in
    let here : location_of (cie_start c) (prefix p k) ≡ 0 = cie-upto c p g k (omega arith) in
    let there : location_of (cie_start c) (x ∷ prefix p k) ≡ 0 = cie-still c (prefix p k) x n here in
    let next : prefix p (k + 1) ≡ x ∷ prefix p k = prefix-at p k x at in
    let f : refusal_at (cie_start c) (prefix p k) x ≡ None = from-passed (cie_start c) (prefix p k) x (record {
      back = barred-back _ x n;
      past = le-ltb 0 (location_of (cie_start c) (x ∷ prefix p k)) (omega arith);
      no_cfa = both-zero (location_of (cie_start c) (prefix p k)) (location_of (cie_start c) (x ∷ prefix p k)) _ here there;
      unmatched = barred-restores_state x _ n;
      deep = barred-remembers_state x _ n;
      kind = cie-kind c p g k x at;
      wide = g.narrow k x at;
      many = subst (λ b. ltb MAX_RULES (rule_count (rule_at (cie_start c) b 0)) ≡ false) next (not-below MAX_RULES _ (g.few k lt));
    }) in
    rw (n, f) refl

-- no instruction of a CIE is refused
abbrev pub FineCie : Cie → List Effect → Type 0
FineCie c p = (k : ℕ) (x : Effect) → slice_get p k ≡ Some x → cie_refusal_at c (prefix p k) x ≡ None

pub fine-cie-iff : (c : Cie) (p : List Effect) → FineCie c p ↔ IsGoodCie c p
fine-cie-iff c p = (from, (λ g. cie-passes c p g))
  where
    from : FineCie c p → IsGoodCie c p
    from h = record {
      allowed = λ k x at. (cond-none (is_barred x) _ (h k x at)).0;
      kind = λ k x at changes. and-false (needs_register_cfa x) _ changes
          (passed-from (cie_start c) (prefix p k) x (cond-none (is_barred x) _ (h k x at)).1).kind;
      narrow = λ k x at. (passed-from (cie_start c) (prefix p k) x (cond-none (is_barred x) _ (h k x at)).1).wide;
      few = λ k lt.
          let at = slice_get-get_or p k stays lt in
          let f = (cond-none (is_barred (get_or p k stays)) _ (h k (get_or p k stays) at)).1 in
          subst (λ b. rule_count (rule_at (cie_start c) b 0) ≤ MAX_RULES) (sym (prefix-next p k lt))
          (not-above MAX_RULES _ (passed-from (cie_start c) (prefix p k) (get_or p k stays) f).many);
    }
