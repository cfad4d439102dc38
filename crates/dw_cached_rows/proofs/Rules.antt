-- The rules of a packed row: they are in ascending order, none is an expression, and which one each
-- register has.
use Rattle.std.proofs.Common.{◌≡◌, ℕ, zero, suc, ◌+◌, ◌<◌, ◌≤◌, ◌==◌, nat_lt, ℤ, pos, negsuc, ◌*ℤ◌, Bool, true, false, if◌then◌else◌, List, [], ◌∷◌, ◌++◌, refl, ◌∙◌, arith}
use Rattle.std.specs.List.{AllByRecursion}
use Rattle.std.proofs.lemmas.List.Elements.{All-from_recursion}
use Rattle.dw_rules.specs.Rules.{Rule, IsTable, rule_in, default, offset}
use Rattle.dw_unwind.specs.DirectAnswers.{IsDirect, AreDirect}
use Rattle.dw_cached_rows.specs.declared.packed_row.PackedRow.{PackedRow}
use Rattle.dw_cached_rows.specs.declared.packed_row.TheConstants.{LAST}
use Rattle.dw_cached_rows.specs.PackedRows.{last_rules, rules_of, saved_rule, saving_rules}

-- ---- the rules are a table

lower : (low m : ℕ) (rules : List (ℕ × Rule)) → low ≤ m → IsTable m rules → IsTable low rules
lower low m [] le table = tt
lower low m (entry ∷ rules) le table = (omega (arith, le, table.0), table.1, table.2, table.3)

saved-table : (low r : ℕ) (k : ℤ) (rest : List (ℕ × Rule)) → low ≤ r → r < 65536 → IsTable (r + 1) rest
    → IsTable low (saved_rule r k ++ rest)
saved-table low r (pos zero) rest le lt table = lower low (r + 1) rest (omega (arith, le)) table
saved-table low r (pos (suc n)) rest le lt table = (le, lt, (λ e. absurd (cc)), table)
saved-table low r (negsuc n) rest le lt table = (le, lt, (λ e. absurd (cc)), table)

-- ---- no rule is an expression

saved-direct : (r : ℕ) (k : ℤ) (rest : List (ℕ × Rule)) → AllByRecursion (λ (entry : ℕ × Rule). IsDirect entry.1) rest
    → AllByRecursion (λ (entry : ℕ × Rule). IsDirect entry.1) (saved_rule r k ++ rest)
saved-direct r (pos zero) rest all = all
saved-direct r (pos (suc n)) rest all = (tt, all)
saved-direct r (negsuc n) rest all = (tt, all)

-- ---- the rule of a register

-- the rule that a register has if it is saved at this many words from the CFA
abbrev pub rule_by : ℤ → Rule
rule_by (pos zero) = default
rule_by k = offset (k *ℤ pos 8)

skip : (r n : ℕ) (k : ℤ) (rest : List (ℕ × Rule)) → (r == n) ≡ false → rule_in (saved_rule r k ++ rest) n ≡ rule_in rest n
skip r n (pos zero) rest other = refl
skip r n (pos (suc m)) rest other = rw other refl
skip r n (negsuc m) rest other = rw other refl

own : (r : ℕ) (k : ℤ) (rest : List (ℕ × Rule)) → (r == r) ≡ true → rule_in rest r ≡ default → rule_in (saved_rule r k ++ rest) r ≡ rule_by k
own r (pos zero) rest same none = none
own r (pos (suc m)) rest same none = rw same refl
own r (negsuc m) rest same none = rw same refl

-- ---- all rules

pub table-of : (p : PackedRow) → IsTable 0 (rules_of p)
table-of p = go (nat_lt p.form LAST)
  where
    go : (b : Bool) → IsTable 0 (if b then saving_rules p else last_rules)
    go true = saved-table 0 3 p.rbx _ (omega arith) (omega arith) (saved-table 4 6 p.rbp _ (omega arith) (omega arith)
        (saved-table 7 12 p.r12 _ (omega arith) (omega arith) (saved-table 13 13 p.r13 _ (omega arith) (omega arith)
        (saved-table 14 14 p.r14 _ (omega arith) (omega arith) (saved-table 15 15 p.r15 _ (omega arith) (omega arith)
        (omega arith, omega arith, (λ e. absurd (cc)), tt))))))
    go false = (omega arith, omega arith, (λ e. absurd (cc)), tt)

pub direct-of : (p : PackedRow) → AreDirect (rules_of p)
direct-of p = All-from_recursion (λ (entry : ℕ × Rule). IsDirect entry.1) (rules_of p) (go (nat_lt p.form LAST))
  where
    go : (b : Bool) → AllByRecursion (λ (entry : ℕ × Rule). IsDirect entry.1) (if b then saving_rules p else last_rules)
    go true = saved-direct 3 p.rbx _ (saved-direct 6 p.rbp _ (saved-direct 12 p.r12 _ (saved-direct 13 p.r13 _
        (saved-direct 14 p.r14 _ (saved-direct 15 p.r15 _ (tt, tt))))))
    go false = (tt, tt)

pub saving-of : (p : PackedRow) → nat_lt p.form LAST ≡ true → rules_of p ≡ saving_rules p
saving-of p lt = rw lt refl

pub last-of : (p : PackedRow) → nat_lt p.form LAST ≡ false → rules_of p ≡ last_rules
last-of p ge = rw ge refl

-- the rules of the callee-saved registers, of the stack pointer and of the return address
pub rbp-rule : (p : PackedRow) → rule_in (saving_rules p) 6 ≡ rule_by p.rbp
rbp-rule p = skip 3 6 p.rbx _ refl
    ∙ own 6 p.rbp _ refl (skip 12 6 p.r12 _ refl ∙ skip 13 6 p.r13 _ refl ∙ skip 14 6 p.r14 _ refl ∙ skip 15 6 p.r15 _ refl)

pub rsp-rule : (p : PackedRow) → rule_in (saving_rules p) 7 ≡ default
rsp-rule p = skip 3 7 p.rbx _ refl ∙ skip 6 7 p.rbp _ refl ∙ skip 12 7 p.r12 _ refl ∙ skip 13 7 p.r13 _ refl ∙ skip 14 7 p.r14 _ refl
    ∙ skip 15 7 p.r15 _ refl

pub return-rule : (p : PackedRow) → rule_in (saving_rules p) 16 ≡ offset (negsuc 7)
return-rule p = skip 3 16 p.rbx _ refl ∙ skip 6 16 p.rbp _ refl ∙ skip 12 16 p.r12 _ refl ∙ skip 13 16 p.r13 _ refl
    ∙ skip 14 16 p.r14 _ refl ∙ skip 15 16 p.r15 _ refl

pub rbx-rule : (p : PackedRow) → rule_in (saving_rules p) 3 ≡ rule_by p.rbx
rbx-rule p = own 3 p.rbx _ refl (skip 6 3 p.rbp _ refl ∙ skip 12 3 p.r12 _ refl ∙ skip 13 3 p.r13 _ refl ∙ skip 14 3 p.r14 _ refl ∙ skip 15 3 p.r15 _ refl)

pub r12-rule : (p : PackedRow) → rule_in (saving_rules p) 12 ≡ rule_by p.r12
r12-rule p = skip 3 12 p.rbx _ refl ∙ skip 6 12 p.rbp _ refl
    ∙ own 12 p.r12 _ refl (skip 13 12 p.r13 _ refl ∙ skip 14 12 p.r14 _ refl ∙ skip 15 12 p.r15 _ refl)

pub r13-rule : (p : PackedRow) → rule_in (saving_rules p) 13 ≡ rule_by p.r13
r13-rule p = skip 3 13 p.rbx _ refl ∙ skip 6 13 p.rbp _ refl ∙ skip 12 13 p.r12 _ refl
    ∙ own 13 p.r13 _ refl (skip 14 13 p.r14 _ refl ∙ skip 15 13 p.r15 _ refl)

pub r14-rule : (p : PackedRow) → rule_in (saving_rules p) 14 ≡ rule_by p.r14
r14-rule p = skip 3 14 p.rbx _ refl ∙ skip 6 14 p.rbp _ refl ∙ skip 12 14 p.r12 _ refl ∙ skip 13 14 p.r13 _ refl
    ∙ own 14 p.r14 _ refl (skip 15 14 p.r15 _ refl)

pub r15-rule : (p : PackedRow) → rule_in (saving_rules p) 15 ≡ rule_by p.r15
r15-rule p = skip 3 15 p.rbx _ refl ∙ skip 6 15 p.rbp _ refl ∙ skip 12 15 p.r12 _ refl ∙ skip 13 15 p.r13 _ refl ∙ skip 14 15 p.r14 _ refl
    ∙ own 15 p.r15 _ refl (refl)
