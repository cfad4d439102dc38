-- The rules of a compact row are those of the packed row.
use Rattle.std.proofs.Common.{◌≡◌, ◌≢◌, ℕ, zero, suc, ◌+◌, ◌%◌, ◌<◌, ◌≤◌, ℤ, pos, negsuc, ◌⊎◌, ◌&&◌, Bool, leb, true, false, Some, rules, List, [], ◌++◌, refl, sym, ap, ◌∙◌, arith, append_assoc, inl, inr, get_or, length}
use Rattle.std.proofs.Math.Nat.{mod-eq_of_lt}
use Rattle.std.proofs.lemmas.Bool.{cases_lt, lt-leb, ne_eqb, lt-ltb, le-ltb}
use Rattle.std.proofs.lemmas.List.{append-nil, map-append}
use Rattle.dw_rules.specs.Rules.{Cfa, PlacedRule, Row, Rule, RuleOver, default, offset, register_and_offset, rule_in, rule_list, rules_below, with_rule}
use Rattle.dw_rules.specs.RowsWithExpressions.{given_entry, rules_with_expressions}
use Rattle.dw_compact_rows.specs.Slots.{rule_in_slots, rule_of_slot}
use Rattle.dw_compact_rows.proofs.Slots.{past-slots, slot-read}
use Rattle.dw_cached_rows.specs.declared.packed_row.PackedRow.{PackedRow}
use Rattle.dw_cached_rows.specs.PackedRows.{IsInWords, IsRowOf, is_packed, rule_given, saved_rule, saving_with}

and-false : (b : Bool) → (b && false) ≡ false
and-false true = refl
and-false false = refl

pub not-packed : (r : ℕ) → r ≢ 3 → r ≢ 6 → (r < 12) ⊎ (16 < r) → is_packed r ≡ false
not-packed r three six (inl low) = rw (ne_eqb r 3 three, ne_eqb r 6 six, lt-leb 12 r low) refl
not-packed r three six (inr high) = rw (ne_eqb r 3 three, ne_eqb r 6 six, lt-leb r 16 high) (and-false (leb 12 r))

-- registers without rules are left out
skipped : (a n : ℕ) (f : ℕ → PlacedRule) → a ≤ n → ((r : ℕ) → a ≤ r → r < n → f r ≡ default) → rules_below n f ≡ rules_below a f
skipped a zero f low none = let same : a ≡ zero = omega (arith, low) in rw same refl
skipped a (suc n) f low none = elim (cases_lt n a) [
  | inl end ↦ let same : a ≡ suc n = omega (arith, low, end) in rw same refl
  | inr more ↦
      let last : f n ≡ default = none n more (omega arith) in
      rw (last, append-nil (rules_below n f)) (skipped a n f more (λ r from to. none r from (omega (arith, to))))
]

nested : {X : Type 0} → (a b c d e f g : List X) → ((((((a ++ b) ++ c) ++ d) ++ e) ++ f) ++ g) ≡ a ++ (b ++ (c ++ (d ++ (e ++ (f ++ g)))))
nested a b c d e f g =
    append_assoc ((((a ++ b) ++ c) ++ d) ++ e) f g ∙ append_assoc (((a ++ b) ++ c) ++ d) e (f ++ g)
    ∙ append_assoc ((a ++ b) ++ c) d (e ++ (f ++ g)) ∙ append_assoc (a ++ b) c (d ++ (e ++ (f ++ g)))
    ∙ append_assoc a b (c ++ (d ++ (e ++ (f ++ g))))

-- the rules of registers for which an entry has room, one after another
pub listed : (f : ℕ → PlacedRule) → ((r : ℕ) → is_packed r ≡ false → r < 65536 → f r ≡ default)
    → rule_list f ≡ with_rule 3 (f 3) ++ (with_rule 6 (f 6) ++ (with_rule 12 (f 12) ++ (with_rule 13 (f 13) ++ (with_rule 14 (f 14)
    ++ (with_rule 15 (f 15) ++ with_rule 16 (f 16))))))
unfolding rule_list
listed f none =
    let high : rules_below 65536 f ≡ rules_below 17 f = skipped 17 65536 f (omega arith) (λ r from to. none r (not-packed r (omega (arith, from)) (omega (arith, from)) (inr (omega (arith, from)))) to) in
    let middle : rules_below 12 f ≡ rules_below 7 f = skipped 7 12 f (omega arith) (λ r from to. none r (not-packed r (omega (arith, from, to)) (omega (arith, from, to)) (inl (omega (arith, to)))) (omega (arith, to))) in
    let low : rules_below 6 f ≡ rules_below 4 f = skipped 4 6 f (omega arith) (λ r from to. none r (not-packed r (omega (arith, from, to)) (omega (arith, from, to)) (inl (omega (arith, to)))) (omega (arith, to))) in
    let first : rules_below 3 f ≡ [] = skipped 0 3 f (omega arith) (λ r from to. none r (not-packed r (omega (arith, from, to)) (omega (arith, from, to)) (inl (omega (arith, to)))) (omega (arith, to))) in
    let three : rules_below 6 f ≡ with_rule 3 (f 3) = low ∙ ap (λ l. l ++ with_rule 3 (f 3)) first in
    let six : rules_below 12 f ≡ with_rule 3 (f 3) ++ with_rule 6 (f 6) = middle ∙ ap (λ l. l ++ with_rule 6 (f 6)) three in
    high ∙ ap (λ l. ((((l ++ with_rule 12 (f 12)) ++ with_rule 13 (f 13)) ++ with_rule 14 (f 14)) ++ with_rule 15 (f 15)) ++ with_rule 16 (f 16)) six
    ∙ nested (with_rule 3 (f 3)) (with_rule 6 (f 6)) (with_rule 12 (f 12)) (with_rule 13 (f 13)) (with_rule 14 (f 14)) (with_rule 15 (f 15))
    (with_rule 16 (f 16))

two-given : (xs ys : List (ℕ × PlacedRule)) → rules_with_expressions [] (xs ++ ys) ≡ rules_with_expressions [] xs ++ rules_with_expressions [] ys
two-given xs ys = map-append (given_entry []) xs ys

-- each register is given by its words
pub given : (p : PackedRow) (f : ℕ → PlacedRule) → ((r : ℕ) → is_packed r ≡ false → r < 65536 → f r ≡ default)
    → rule_given 3 (f 3) ≡ saved_rule 3 p.rbx → rule_given 6 (f 6) ≡ saved_rule 6 p.rbp → rule_given 12 (f 12) ≡ saved_rule 12 p.r12
    → rule_given 13 (f 13) ≡ saved_rule 13 p.r13 → rule_given 14 (f 14) ≡ saved_rule 14 p.r14 → rule_given 15 (f 15) ≡ saved_rule 15 p.r15
    → rules_with_expressions [] (rule_list f) ≡ saving_with p (rule_given 16 (f 16))
given p f none a b c d e g =
    ap (rules_with_expressions []) (listed f none)
    ∙ two-given (with_rule 3 (f 3)) _ ∙ rw a (ap (λ l. saved_rule 3 p.rbx ++ l)
    (two-given (with_rule 6 (f 6)) _ ∙ rw b (ap (λ l. saved_rule 6 p.rbp ++ l)
    (two-given (with_rule 12 (f 12)) _ ∙ rw c (ap (λ l. saved_rule 12 p.r12 ++ l)
    (two-given (with_rule 13 (f 13)) _ ∙ rw d (ap (λ l. saved_rule 13 p.r13 ++ l)
    (two-given (with_rule 14 (f 14)) _ ∙ rw e (ap (λ l. saved_rule 14 p.r14 ++ l)
    (two-given (with_rule 15 (f 15)) _ ∙ rw g refl))))))))))

-- what is said of a register by the words that its slot was found to have
pub by-words : (r : ℕ) (s : List ℤ) (i : ℕ) (k slot words : ℤ) → i ≡ r → slot ≡ get_or s i (pos 0) → IsInWords slot words → k ≡ words
    → rule_given r (rule_in_slots s r) ≡ saved_rule r k
by-words r s i k slot words is read in_words same =
    ap (λ (n : ℕ). rule_given r (rule_in_slots s n)) (sym is) ∙ ap (λ (z : ℤ). rule_given r (rule_of_slot z)) (sym read)
    ∙ in_words r ∙ ap (saved_rule r) (sym same)

-- the same of all registers, where other registers have no rules
pub given-by-slots : (p : PackedRow) (rules : List (ℕ × PlacedRule)) (s : List ℤ) → rules ≡ rule_list (rule_in_slots s)
    → ((r : ℕ) → is_packed r ≡ false → r < 65536 → rule_in rules r ≡ default)
    → rule_given 3 (rule_in_slots s 3) ≡ saved_rule 3 p.rbx → rule_given 6 (rule_in_slots s 6) ≡ saved_rule 6 p.rbp
    → rule_given 12 (rule_in_slots s 12) ≡ saved_rule 12 p.r12 → rule_given 13 (rule_in_slots s 13) ≡ saved_rule 13 p.r13
    → rule_given 14 (rule_in_slots s 14) ≡ saved_rule 14 p.r14 → rule_given 15 (rule_in_slots s 15) ≡ saved_rule 15 p.r15
    → rules_with_expressions [] rules ≡ saving_with p (rule_given 16 (rule_in rules 16))
given-by-slots p rules s is none a b c d e g =
    let f = rule_in_slots s in
    let read : (r : ℕ) → r < 65536 → rule_in rules r ≡ f r = λ r low. ap (λ (l : List (ℕ × PlacedRule)). rule_in l r) is ∙ slot-read s r low in
    ap (rules_with_expressions []) is
    ∙ given p f (λ r other low. sym (read r low) ∙ none r other low) a b c d e g
    ∙ ap (λ (x : PlacedRule). saving_with p (rule_given 16 x)) (sym (read 16 (omega arith)))

-- no register without room has a rule
pub others-free : (rules : List (ℕ × PlacedRule)) (s : List ℤ) → rules ≡ rule_list (rule_in_slots s) → length s ≡ 32
    → ((r : ℕ) → r < 32 → is_packed r ≡ false → rule_in_slots s r ≡ default)
    → (r : ℕ) → is_packed r ≡ false → r < 65536 → rule_in rules r ≡ default
others-free rules s is long free r other low =
    ap (λ (l : List (ℕ × PlacedRule)). rule_in l r) is ∙ slot-read s r low ∙ elim (cases_lt r 32) [
      | inl within ↦ free r within other
      | inr past ↦ past-slots s r (omega (arith, long, past))
    ]

-- ---- the row of an entry

whole : (p empty : PackedRow) → empty.form < 128 → (p.form ≡ empty.form) × (p.cfa_offset ≡ empty.cfa_offset)
    → ◌≡◌ {A = Cfa} (register_and_offset empty.form empty.cfa_offset) (register_and_offset (p.form % 128) p.cfa_offset)
whole p empty small same =
    let form : empty.form ≡ p.form % 128 = sym same.0 ∙ sym (mod-eq_of_lt (omega (arith, same.0, small))) in
    (λ i. register_and_offset (form i) (sym same.1 i))

past : (p empty : PackedRow) → empty.form < 128 → (p.form ≡ empty.form) × (p.cfa_offset ≡ empty.cfa_offset)
    → ◌≡◌ {A = Cfa} (register_and_offset empty.form empty.cfa_offset) (register_and_offset ((p.form + 128) % 128) p.cfa_offset)
past p empty small same =
    let form : empty.form ≡ (p.form + 128) % 128 = search rules in
    (λ i. register_and_offset (form i) (sym same.1 i))

-- the return address is saved just below the CFA
pub saved-row : (p empty : PackedRow) (row : Row) (r : ℕ) (n : ℤ) (rule : PlacedRule) → row.cfa ≡ Some (register_and_offset r n)
    → ◌≡◌ {A = Cfa} (register_and_offset r n) (register_and_offset empty.form empty.cfa_offset) → (empty.form ≢ 0) × (empty.form < 64)
    → (p.form ≡ empty.form) × (p.cfa_offset ≡ empty.cfa_offset) → row.rules ≡ saving_with p (rule_given 16 rule)
    → rule ≡ offset (negsuc 7) → IsRowOf p row
saved-row p empty row r n rule cfa is form same rules_are last =
    let small : p.form < 128 = omega (arith, same.0, form.1) in
    record {
      some = λ zero. form.0 (sym same.0 ∙ zero);
      usual = λ realigned. omega (arith, same.0, form.1, realigned);
      cfa = cfa ∙ ap Some (is ∙ whole p empty (omega (arith, form.1)) same);
      rules = rw (lt-ltb p.form 128 small) (rules_are ∙ ap (λ (x : PlacedRule). saving_with p (rule_given 16 x)) last);
    }

-- the return address is undefined, and no register is saved
pub last-row : (p empty : PackedRow) (row : Row) (r : ℕ) (n : ℤ) (rule : PlacedRule) → row.cfa ≡ Some (register_and_offset r n)
    → ◌≡◌ {A = Cfa} (register_and_offset r n) (register_and_offset empty.form empty.cfa_offset) → (empty.form ≢ 0) × (empty.form < 64)
    → (p.form ≡ empty.form) × (p.cfa_offset ≡ empty.cfa_offset) → row.rules ≡ saving_with p (rule_given 16 rule)
    → rule ≡ RuleOver.undefined → ((rest : List (ℕ × Rule)) → saving_with p rest ≡ rest) → IsRowOf (record p { form = p.form + 128 }) row
last-row p empty row r n rule cfa is form same rules_are last none =
    let small : p.form < 128 = omega (arith, same.0, form.1) in
    record {
      some = λ zero. omega (arith, zero);
      usual = λ realigned. omega (arith, realigned);
      cfa = cfa ∙ ap Some (is ∙ past p empty (omega (arith, form.1)) same);
      rules = rw (le-ltb (p.form + 128) 128 (omega arith))
          (rules_are ∙ none (rule_given 16 rule) ∙ ap (rule_given 16) last);
    }
