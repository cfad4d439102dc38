-- Rows of realigned stacks, as their expressions are read.
use Rattle.std.proofs.Common.{◌≡◌, ◌≢◌, ℕ, zero, suc, ℤ, pos, negsuc, ◌+ℤ◌, ◌==◌, Bool, true, false, if◌then◌else◌, List, [], ◌∷◌, ◌++◌, arith, get_or, length, refl, sym, ap, subst, ◌∙◌, append_assoc, ◌≤◌, inl, inr}
use Rattle.std.specs.Prelude.{IfSome, Option, Some, None, map}
use Rattle.std.specs.List.{AllByRecursion}
use Rattle.dw_rules.specs.Views.{numbered_rule_of, rule_of}
use Rattle.dw_rules.specs.declared.row.RegisterRule.{RegisterRule}
use Rattle.dw_cached_rows.specs.declared.packed_row.PackedRow.{PackedRow}
use Rattle.std.proofs.lemmas.Bool.{cases_lt, eqb-false}
use Rattle.std.proofs.lemmas.Bool.Decides.{nat_tests}
use Rattle.std.proofs.lemmas.List.{map-append}
use Rattle.dw_cached_rows.proofs.CompactPacking.{not-packed}
use Rattle.dw_bytes.specs.declared.target.Target.{Target}
use Rattle.dw_stack.specs.Expressions.{operations_in}
use Rattle.dw_stack.specs.Located.{LocatedExpression}
use Rattle.dw_rules.specs.Rules.{Cfa, Rule, cfa_expression, default, expression, rule_in}
use Rattle.dw_cached_rows.specs.PackedRows.{IsCoded, IsSavedByRbp, address_operations, is_packed, is_small, little_64, word_byte, word_operations, words_for}
use Rattle.dw_cached_rows.proofs.Words.{coded}

two-bytes : (l : List ℕ) → length l ≡ 2 → l ≡ get_or l 0 0 ∷ get_or l 1 0 ∷ []
two-bytes [] long = absurd (cc)
two-bytes (a ∷ []) long = absurd (cc)
two-bytes (a ∷ b ∷ []) long = refl
two-bytes (a ∷ b ∷ c ∷ l) long = absurd (omega (arith, long))

three-bytes : (l : List ℕ) → length l ≡ 3 → l ≡ get_or l 0 0 ∷ get_or l 1 0 ∷ get_or l 2 0 ∷ []
three-bytes [] long = absurd (cc)
three-bytes (a ∷ []) long = absurd (cc)
three-bytes (a ∷ b ∷ []) long = absurd (cc)
three-bytes (a ∷ b ∷ c ∷ []) long = refl
three-bytes (a ∷ b ∷ c ∷ d ∷ l) long = absurd (omega (arith, long))

pub address-read : (bytes : List ℕ) (x : ℕ → LocatedExpression) (o : Option ℤ) → length bytes ≡ 2 → get_or bytes 0 0 ≡ 0x76
    → ((at : ℕ) → (x at).target ≡ little_64) → ((at : ℕ) → (x at).bytes ≡ bytes)
    → IfSome o (λ words. (is_small words ≡ true) × (word_byte words ≡ get_or bytes 1 0))
    → IfSome o (λ words. (at : ℕ) → IsCoded (address_operations words) 2 (x at))
address-read bytes x None long first target same found = tt
address-read bytes x (Some words) long first target same found = λ at.
    let is : (x at).bytes ≡ 0x76 ∷ word_byte words ∷ [] =
    same at ∙ two-bytes bytes long ∙ ap (λ (a : ℕ). a ∷ get_or bytes 1 0 ∷ []) first ∙ ap (λ (b : ℕ). 0x76 ∷ b ∷ []) (sym found.1) in
    record {
      target = target at;
      are = ap (λ (t : Target). operations_in t (x at).bytes) (target at) ∙ ap (operations_in little_64) is ∙ (coded words found.0).0;
      long = ap length is;
    }

pub word-read : (bytes : List ℕ) (x : ℕ → LocatedExpression) (o : Option ℤ) → length bytes ≡ 3 → get_or bytes 0 0 ≡ 0x76
    → get_or bytes 2 0 ≡ 0x06 → ((at : ℕ) → (x at).target ≡ little_64) → ((at : ℕ) → (x at).bytes ≡ bytes)
    → IfSome o (λ words. (is_small words ≡ true) × (word_byte words ≡ get_or bytes 1 0))
    → IfSome o (λ words. (at : ℕ) → IsCoded (word_operations words) 3 (x at))
word-read bytes x None long first last target same found = tt
word-read bytes x (Some words) long first last target same found = λ at.
    let is : (x at).bytes ≡ 0x76 ∷ word_byte words ∷ 0x06 ∷ [] =
    same at ∙ three-bytes bytes long ∙ ap (λ (a : ℕ). a ∷ get_or bytes 1 0 ∷ get_or bytes 2 0 ∷ []) first
    ∙ ap (λ (b : ℕ). 0x76 ∷ b ∷ get_or bytes 2 0 ∷ []) (sym found.1) ∙ ap (λ (a : ℕ). 0x76 ∷ word_byte words ∷ a ∷ []) last in
    record {
      target = target at;
      are = ap (λ (t : Target). operations_in t (x at).bytes) (target at) ∙ ap (operations_in little_64) is ∙ (coded words found.0).1;
      long = ap length is;
    }

pub cfa-read : (o : Option ℤ) (x : ℕ → LocatedExpression) (at : ℕ) (cfa : Cfa) → cfa ≡ cfa_expression (x at)
    → IfSome o (λ words. (at : ℕ) → IsCoded (word_operations words) 3 (x at))
    → IfSome o (λ words. (y : LocatedExpression) × (cfa ≡ cfa_expression y) × IsCoded (word_operations words) 3 y)
cfa-read None x at cfa is coded-so = tt
cfa-read (Some words) x at cfa is coded-so = (x at, is, coded-so at)

pub saved-read : (saved words : ℤ) (rule : Rule) (x : LocatedExpression) → saved ≢ pos 0 → words ≡ saved +ℤ pos 1 → rule ≡ expression x
    → IsCoded (address_operations words) 2 x → IsSavedByRbp saved rule
saved-read (pos zero) words rule x some is rule-is coded-so = absurd (some refl)
saved-read (pos (suc n)) words rule x some is rule-is coded-so = (x, rule-is, subst (λ (k : ℤ). IsCoded (address_operations k) 2 x) is coded-so)
saved-read (negsuc n) words rule x some is rule-is coded-so = (x, rule-is, subst (λ (k : ℤ). IsCoded (address_operations k) 2 x) is coded-so)

-- ---- registers without rules

pub comes : (came : List (ℕ × RegisterRule)) (x : ℕ × RegisterRule) (left rest all : List (ℕ × Rule))
    → map numbered_rule_of came ++ left ≡ all → left ≡ numbered_rule_of x ∷ rest → map numbered_rule_of (came ++ x ∷ []) ++ rest ≡ all
comes came x left rest all whole next =
    ap (λ (l : List (ℕ × Rule)). l ++ rest) (map-append numbered_rule_of came (x ∷ []))
    ∙ append_assoc (map numbered_rule_of came) (numbered_rule_of x ∷ []) rest
    ∙ ap (λ (l : List (ℕ × Rule)). map numbered_rule_of came ++ l) (sym next) ∙ whole

abbrev pub IsPackedItem : ℕ × RegisterRule → Type 0
IsPackedItem item = is_packed item.0 ≡ true

pub all-more : (items : List (ℕ × RegisterRule)) (x : ℕ × RegisterRule) → AllByRecursion IsPackedItem items → is_packed x.0 ≡ true
    → AllByRecursion IsPackedItem (items ++ x ∷ [])
all-more [] x all here = (here, tt)
all-more (item ∷ items) x all here = (all.0, all-more items x all.1 here)

-- a register for which no rule is listed has none
none-in : (items : List (ℕ × RegisterRule)) (r : ℕ) → AllByRecursion IsPackedItem items → is_packed r ≡ false
    → rule_in (map numbered_rule_of items) r ≡ default
none-in [] r all other = refl
none-in (item ∷ items) r all other = go (item.0 == r) refl (none-in items r all.1 other)
  where
    go : (b : Bool) → (item.0 == r) ≡ b → rule_in (map numbered_rule_of items) r ≡ default
        → (if b then rule_of item.1 else rule_in (map numbered_rule_of items) r) ≡ default
    go true same later =
        let is : item.0 ≡ r = grind (arith, nat_tests, same) in
        absurd (cc (all.0, ap is_packed is, other))
    go false same later = later

pub not-listed : (rules : List (ℕ × Rule)) (items : List (ℕ × RegisterRule)) (r : ℕ) → rules ≡ map numbered_rule_of items
    → AllByRecursion IsPackedItem items → is_packed r ≡ false → rule_in rules r ≡ default
not-listed rules items r whole all other = ap (λ (l : List (ℕ × Rule)). rule_in l r) whole ∙ none-in items r all other

-- ---- the row of an entry

-- what the six registers of a row say, and that no other has a rule, says it of each register
pub each-saved : (p : PackedRow) (rules : List (ℕ × Rule)) → ((r : ℕ) → is_packed r ≡ false → rule_in rules r ≡ default)
    → IsSavedByRbp p.rbx (rule_in rules 3) → IsSavedByRbp p.rbp (rule_in rules 6) → IsSavedByRbp p.r12 (rule_in rules 12)
    → IsSavedByRbp p.r13 (rule_in rules 13) → IsSavedByRbp p.r14 (rule_in rules 14) → IsSavedByRbp p.r15 (rule_in rules 15)
    → (r : ℕ) → r ≢ 16 → IsSavedByRbp (words_for p r) (rule_in rules r)
each-saved p rules others rbx rbp r12 r13 r14 r15 r differs =
    by-case 3 p.rbx _ rbx (λ a. by-case 6 p.rbp _ rbp (λ b. by-case 12 p.r12 _ r12 (λ d. by-case 13 p.r13 _ r13 (λ e. by-case 14 p.r14 _ r14
    (λ f. by-case 15 p.r15 _ r15 (λ h. others r (free r differs a b d e f h)))))))
  where
    by-case : (n : ℕ) (k rest : ℤ) → IsSavedByRbp k (rule_in rules n) → ((n == r) ≡ false → IsSavedByRbp rest (rule_in rules r))
        → IsSavedByRbp (if n == r then k else rest) (rule_in rules r)
    by-case n k rest here other = go (n == r) refl
      where
        go : (b : Bool) → (n == r) ≡ b → IsSavedByRbp (if b then k else rest) (rule_in rules r)
        go true same =
            let is : n ≡ r = grind (arith, nat_tests, same) in
            subst (λ (m : ℕ). IsSavedByRbp k (rule_in rules m)) is here
        go false same = other same

    between : (r : ℕ) → r ≢ 16 → 12 ≢ r → 13 ≢ r → 14 ≢ r → 15 ≢ r → 12 ≤ r → r ≤ 16 → ⊥
    between r far a b d e high within = grind (arith, nat_tests, far, a, b, d, e, high, within)

    free : (r : ℕ) → r ≢ 16 → (3 == r) ≡ false → (6 == r) ≡ false → (12 == r) ≡ false → (13 == r) ≡ false → (14 == r) ≡ false
        → (15 == r) ≡ false → is_packed r ≡ false
    free r far a b d e f h =
        let three : r ≢ 3 = λ is. eqb-false 3 r a (sym is) in
        let six : r ≢ 6 = λ is. eqb-false 6 r b (sym is) in
        not-packed r three six (elim (cases_lt r 12) [
          | inl low ↦ inl low
          | inr high ↦ elim (cases_lt 16 r) [
            | inl past ↦ inr past
            | inr within ↦ absurd (between r far (eqb-false 12 r d) (eqb-false 13 r e) (eqb-false 14 r f) (eqb-false 15 r h) high within)
          ]
        ])
