-- Insertions into a table of rules, and removals from it, at an index.
use Rattle.std.proofs.Common.{◌≡◌, ◌≢◌, ℕ, ◌+◌, ◌<◌, ◌≤◌, false, true, List, [], ◌∷◌, length, refl, ap, arith, eqb, add-one, inl, inr}
use Rattle.std.proofs.Common.{eq-eqb, Some, get_or, subst, take, ◌-◌, rules}
use Rattle.std.proofs.lemmas.Option.{slice_get-get_or, slice_get_within}
use Rattle.std.proofs.lemmas.Bool.{cases_lt, cases_eq, lt-ltb, le-ltb}
use Rattle.std.proofs.lemmas.List.{same_lists, places}
use Rattle.std.proofs.lemmas.Bool.Decides.{nat_tests}
use Rattle.std.specs.Prelude.{insert, remove, slice_get}
use Rattle.dw_rules.specs.Rules.{PlacedRule, default, IsTable}
use Rattle.dw_rules.specs.declared.stored_rule.StoredRule.TheVariants.{Default, Undefined, SameValue, Offset, ValOffset, Register, Expression}
use Rattle.dw_rules.specs.declared.stored_rule.StoredRule.TheVariants.{ValExpression}
use Rattle.dw_rules.specs.RegisterRules.{rule_index}
use Rattle.dw_rules.specs.Views.{stored_rule_of, entry_of, entries_of}
use Rattle.dw_rules.specs.declared.stored_rule.StoredRule.{StoredRule}
use Rattle.dw_rules.specs.declared.register_rules.RuleEntry.{RuleEntry}
use Rattle.dw_rules.proofs.Tables.{cleared, inserted, Clears, clears-cleared}

insert-suc : (e : RuleEntry) (es : List RuleEntry) (n : ℕ) (x : RuleEntry) → insert (e ∷ es) (n + 1) x ≡ e ∷ insert es n x
insert-suc e es n x = rw add-one refl

remove-suc : (e : RuleEntry) (es : List RuleEntry) (n : ℕ) → remove (e ∷ es) (n + 1) ≡ e ∷ remove es n
remove-suc e es n = rw add-one refl

get-suc : (e : RuleEntry) (es : List RuleEntry) (n : ℕ) → slice_get (e ∷ es) (n + 1) ≡ slice_get es n
get-suc e es n = rw add-one refl

remove-place : (es : List RuleEntry) (q : ℕ) (e : RuleEntry) → slice_get es (rule_index q (entries_of es)) ≡ Some e → e.register ≡ q
    → entries_of (remove es (rule_index q (entries_of es))) ≡ cleared q (entries_of es)
remove-place [] q e g s = cc
remove-place (f ∷ es) q e g s = elim (cases_lt f.register q) [
  | inl h ↦
      let g' : slice_get es (rule_index q (entries_of es)) ≡ Some e = rw (lt-ltb f.register q h, get-suc) at g in
      let k : entries_of (remove es (rule_index q (entries_of es))) ≡ cleared q (entries_of es) = remove-place es q e g' s in
      rw (lt-ltb f.register q h, remove-suc, k) refl
  | inr h ↦
      let g' : Some f ≡ Some e = rw (le-ltb f.register q h) at g in
      let fe : f ≡ e = cc in
      let yes : eqb f.register q ≡ true = eq-eqb f.register q (rw fe s) in
      rw (le-ltb f.register q h, yes) refl
]

-- if the entry at the index where q belongs isn't for q, no entry is, so removing q's entry changes
-- nothing
cleared-absent : (es : List RuleEntry) (q : ℕ) → ((e : RuleEntry) → slice_get es (rule_index q (entries_of es)) ≡ Some e → e.register ≢ q)
    → cleared q (entries_of es) ≡ entries_of es
cleared-absent [] q n = refl
cleared-absent (f ∷ es) q n = elim (cases_lt f.register q) [
  | inl h ↦
      let n' : (e : RuleEntry) → slice_get es (rule_index q (entries_of es)) ≡ Some e
      → e.register ≢ q = λ e g. n e (rw (lt-ltb f.register q h, get-suc) g) in
      let k : cleared q (entries_of es) ≡ entries_of es = cleared-absent es q n' in
      rw (lt-ltb f.register q h, k) refl
  | inr h ↦
      let ne : f.register ≢ q = n f (rw (le-ltb f.register q h) refl) in
      let no : eqb f.register q ≡ false = grind (arith, nat_tests) in
      rw (le-ltb f.register q h, no) refl
]

-- if all registers of the table are at least q, the index of q is 0
place-none : (low : ℕ) (es : List RuleEntry) (q : ℕ) → IsTable low (entries_of es) → q ≤ low → rule_index q (entries_of es) ≡ 0
place-none low [] q t h = refl
place-none low (e ∷ es) q t h = let above : q ≤ e.register = omega (arith, t.0) in rw (le-ltb e.register q above) refl

-- removing q's entry doesn't change the index of q
pub place-removed : (low : ℕ) (es : List RuleEntry) (q : ℕ) (e : RuleEntry) → IsTable low (entries_of es)
    → slice_get es (rule_index q (entries_of es)) ≡ Some e → e.register ≡ q
    → rule_index q (entries_of (remove es (rule_index q (entries_of es)))) ≡ rule_index q (entries_of es)
place-removed low [] q e t g s = cc
place-removed low (f ∷ es) q e t g s = elim (cases_lt f.register q) [
  | inl h ↦
      let g' : slice_get es (rule_index q (entries_of es)) ≡ Some e = rw (lt-ltb f.register q h, get-suc) at g in
      let k : rule_index q (entries_of (remove es (rule_index q (entries_of es)))) ≡ rule_index q (entries_of es) =
      place-removed (f.register + 1) es q e t.3 g' s in
      rw (lt-ltb f.register q h, remove-suc, lt-ltb f.register q h, k) refl
  | inr h ↦
      let none : rule_index q (entries_of es) ≡ 0 = place-none (f.register + 1) es q t.3 (let g' : Some f ≡ Some e = rw (le-ltb f.register q h) at g in
      let fe : f ≡ e = cc in let same : f.register ≡ q = rw fe s in omega arith) in
      rw (le-ltb f.register q h) none
]

pub removed-place : (es read new : List RuleEntry) (q p : ℕ) (d : RuleEntry) → read ≡ es → p ≡ rule_index q (entries_of es) → p < length es
    → (get_or read p d).register ≡ q → new ≡ remove es p → IsTable 0 (entries_of es) → p ≡ rule_index q (entries_of new)
removed-place es read new q p d same place lt h e t =
    let lt' : rule_index q (entries_of es) < length es = rw place at lt in
    let g : slice_get es (rule_index q (entries_of es)) ≡ Some (get_or es (rule_index q (entries_of es)) d) =
    slice_get-get_or es (rule_index q (entries_of es)) d lt' in
    let h' : (get_or es (rule_index q (entries_of es)) d).register ≡ q = rw (same, place) at h in
    let k = place-removed 0 es q _ t g h' in
    rw (e, place, k) refl

pub insert-place : (es : List RuleEntry) (q : ℕ) (y : PlacedRule) (x : RuleEntry) → entry_of x ≡ (q, y)
    → entries_of (insert es (rule_index q (entries_of es)) x) ≡ inserted q y (entries_of es)
insert-place [] q y x is = ap (λ (z : ℕ × PlacedRule). z ∷ []) is
insert-place (e ∷ es) q y x is = elim (cases_lt e.register q) [
  | inl h ↦
      let k : entries_of (insert es (rule_index q (entries_of es)) x) ≡ inserted q y (entries_of es) = insert-place es q y x is in
      rw (lt-ltb e.register q h, insert-suc, k) refl
  | inr h ↦ rw (le-ltb e.register q h) (ap (λ (z : ℕ × PlacedRule). z ∷ entries_of (e ∷ es)) is)
]

pub clears-removed : (es read new : List RuleEntry) (q p : ℕ) (d : RuleEntry) → read ≡ es → p ≡ rule_index q (entries_of es) → p < length es
    → (get_or read p d).register ≡ q → new ≡ remove es p → IsTable 0 (entries_of es) → Clears (entries_of es) q (entries_of new)
clears-removed es read new q p d same place lt h e t =
    let lt' : rule_index q (entries_of es) < length es = rw place at lt in
    let g : slice_get es (rule_index q (entries_of es)) ≡ Some (get_or es (rule_index q (entries_of es)) d) =
    slice_get-get_or es (rule_index q (entries_of es)) d lt' in
    let h' : (get_or es (rule_index q (entries_of es)) d).register ≡ q = rw (same, place) at h in
    let k : entries_of (remove es (rule_index q (entries_of es))) ≡ cleared q (entries_of es) = remove-place es q _ g h' in
    rw (e, place, k) (clears-cleared (entries_of es) q t)

pub clears-nothing : (es read : List RuleEntry) (q p : ℕ) (d : RuleEntry) → read ≡ es → p ≡ rule_index q (entries_of es) → p < length es
    → ((get_or read p d).register ≢ q) → IsTable 0 (entries_of es) → Clears (entries_of es) q (entries_of es)
clears-nothing es read q p d same place lt h t =
    let lt' : rule_index q (entries_of es) < length es = rw place at lt in
    let g : slice_get es (rule_index q (entries_of es)) ≡ Some (get_or es (rule_index q (entries_of es)) d) =
    slice_get-get_or es (rule_index q (entries_of es)) d lt' in
    let h' : (get_or es (rule_index q (entries_of es)) d).register ≢ q = rw (same, place) at h in
    let k : cleared q (entries_of es) ≡ entries_of es =
    cleared-absent es q (λ e s r. h' (let i : get_or es (rule_index q (entries_of es)) d ≡ e = cc in rw i r)) in
    subst (λ x. Clears (entries_of es) q x) k (clears-cleared (entries_of es) q t)

pub clears-end : (es : List RuleEntry) (q p : ℕ) → p ≡ rule_index q (entries_of es) → length es ≤ p → IsTable 0 (entries_of es)
    → Clears (entries_of es) q (entries_of es)
clears-end es q p place le t =
    let le' : length es ≤ rule_index q (entries_of es) = rw place at le in
    let k : cleared q (entries_of es) ≡ entries_of es =
    cleared-absent es q (λ e s r. let i : rule_index q (entries_of es) < length es = slice_get_within es
    (rule_index q (entries_of es)) e s in absurd (omega arith)) in
    subst (λ x. Clears (entries_of es) q x) k (clears-cleared (entries_of es) q t)

pub length-entries_of : (es : List RuleEntry) → length (entries_of es) ≡ length es
length-entries_of [] = refl
length-entries_of (e ∷ es) = omega (arith, length-entries_of es)

pub stored_rule_of-some : (x : StoredRule) → x ≢ Default → stored_rule_of x ≢ default
stored_rule_of-some Default h e = h refl
stored_rule_of-some Undefined h e = cc
stored_rule_of-some SameValue h e = cc
stored_rule_of-some (Offset n) h e = cc
stored_rule_of-some (ValOffset n) h e = cc
stored_rule_of-some (Register r) h e = cc
stored_rule_of-some (Expression at) h e = cc
stored_rule_of-some (ValExpression at) h e = cc

-- inserting an entry and then cutting the list to its old length is the same as first dropping the
-- last element and then inserting the entry
pub insert-last : (es : List RuleEntry) (p : ℕ) (x : RuleEntry) → p < length es → take (length es) (insert es p x) ≡ insert (take (length es - 1) es) p x
insert-last es p x lt = same_lists _ _ (search (rules, places)) (λ k d h. grind (arith, places, cases_lt k p, cases_eq k p))
