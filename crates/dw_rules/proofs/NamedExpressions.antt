-- If the rules at a program's start have a property, and its instructions set only rules with this
-- property, the rules after the instructions have the property.
use Rattle.std.proofs.Common.{ℕ, zero, suc, List, [], ◌∷◌, Option, Some, Bool, true, false, cond, Contains, refl, arith}
use Rattle.std.specs.Prelude.{All, IfSome, ℤ, ◌==◌}
use Rattle.std.proofs.lemmas.List.Elements.{All-append, All-from_recursion}
use Rattle.dw_rules.specs.Rules.{PlacedRule, default, PlacedCfa, register_and_offset, with_rule, rules_below, rule_list}
use Rattle.dw_rules.specs.Effects.{Effect, defines_cfa, changes_register, changes_offset, sets, restores, remembers_state, restores_state}
use Rattle.dw_rules.specs.InForce.{Start, rule_at, with_register, with_offset, cfa_at}

here : (x : Effect) (before : List Effect) → Contains (x ∷ before) x
here x before = (0, omega arith, refl)

past : (x y : Effect) (before : List Effect) → Contains before x → Contains (y ∷ before) x
past x y before (k, lt, is) = (suc k, omega arith, is)

chosen : {X : Type 0} (P : X → Type 0) (b : Bool) (x y : X) → P x → P y → P (cond b x y)
chosen P true x y h k = h
chosen P false x y h k = k

-- each register rule that the instructions set has the property
abbrev pub EachSet : (PlacedRule → Type 0) → List Effect → Type 0
EachSet P before = (q : ℕ) (x : PlacedRule) → Contains before (sets q x) → P x

-- each CFA rule that the instructions define has the property
abbrev pub EachDefined : (PlacedCfa → Type 0) → List Effect → Type 0
EachDefined P before = (c : PlacedCfa) → Contains before (defines_cfa c) → P c

set-past : (P : PlacedRule → Type 0) (y : Effect) (before : List Effect) → EachSet P (y ∷ before) → EachSet P before
set-past P y before each q x among = each q x (past (sets q x) y before among)

define_cfa-past : (P : PlacedCfa → Type 0) (y : Effect) (before : List Effect) → EachDefined P (y ∷ before) → EachDefined P before
define_cfa-past P y before each c among = each c (past (defines_cfa c) y before among)

-- ---- the rules of registers

pub rules-have : (P : PlacedRule → Type 0) (s : Start) → ((r : ℕ) → P (s.rules r)) → (before : List Effect) → EachSet P before
    → (d r : ℕ) → P (rule_at s before d r)
rules-have P s start [] each d r = start r
rules-have P s start (restores_state ∷ before) each d r =
    rules-have P s start before (set-past P restores_state before each) (suc d) r
rules-have P s start (remembers_state ∷ before) each zero r =
    rules-have P s start before (set-past P remembers_state before each) zero r
rules-have P s start (remembers_state ∷ before) each (suc d) r =
    rules-have P s start before (set-past P remembers_state before each) d r
rules-have P s start (sets q x ∷ before) each zero r =
    chosen P (q == r) x (rule_at s before zero r) (each q x (here (sets q x) before))
    (rules-have P s start before (set-past P (sets q x) before each) zero r)
rules-have P s start (restores q ∷ before) each zero r =
    chosen P (q == r) (s.rules r) (rule_at s before zero r) (start r)
    (rules-have P s start before (set-past P (restores q) before each) zero r)
rules-have P s start (y ∷ before) each d r = rules-have P s start before (set-past P y before each) d r

-- ---- the rule of the CFA

with-register : (P : PlacedCfa → Type 0) → ((r : ℕ) (n : ℤ) → P (register_and_offset r n)) → (q : ℕ) (c : Option PlacedCfa) → IfSome c P
    → IfSome (with_register q c) P
with-register P sums q (Some (register_and_offset r n)) h = sums q n
with-register P sums q c h = h

with-offset : (P : PlacedCfa → Type 0) → ((r : ℕ) (n : ℤ) → P (register_and_offset r n)) → (n : ℤ) (c : Option PlacedCfa) → IfSome c P
    → IfSome (with_offset n c) P
with-offset P sums n (Some (register_and_offset r m)) h = sums r n
with-offset P sums n c h = h

pub cfa-has : (P : PlacedCfa → Type 0) → ((r : ℕ) (n : ℤ) → P (register_and_offset r n)) → (s : Start) → IfSome s.cfa P
    → (before : List Effect)
    → EachDefined P before → (d : ℕ) → IfSome (cfa_at s before d) P
cfa-has P sums s start [] each d = start
cfa-has P sums s start (restores_state ∷ before) each d =
    cfa-has P sums s start before (define_cfa-past P restores_state before each) (suc d)
cfa-has P sums s start (remembers_state ∷ before) each zero =
    cfa-has P sums s start before (define_cfa-past P remembers_state before each) zero
cfa-has P sums s start (remembers_state ∷ before) each (suc d) =
    cfa-has P sums s start before (define_cfa-past P remembers_state before each) d
cfa-has P sums s start (defines_cfa c ∷ before) each zero = each c (here (defines_cfa c) before)
cfa-has P sums s start (changes_register q ∷ before) each zero =
    with-register P sums q (cfa_at s before zero) (cfa-has P sums s start before
    (define_cfa-past P (changes_register q) before each) zero)
cfa-has P sums s start (changes_offset n ∷ before) each zero =
    with-offset P sums n (cfa_at s before zero) (cfa-has P sums s start before (define_cfa-past P (changes_offset n) before each) zero)
cfa-has P sums s start (y ∷ before) each d = cfa-has P sums s start before (define_cfa-past P y before each) d

-- ---- lists of rules

abbrev pub OfEntry : (PlacedRule → Type 0) → ℕ × PlacedRule → Type 0
OfEntry P entry = P entry.1

one-rule : (P : PlacedRule → Type 0) (r : ℕ) (x : PlacedRule) → P x → All (OfEntry P) (with_rule r x)
one-rule P r default h = All-from_recursion (OfEntry P) [] tt
one-rule P r x h = All-from_recursion (OfEntry P) ((r, x) ∷ []) (h, tt)

rules-below : (P : PlacedRule → Type 0) (n : ℕ) (rules : ℕ → PlacedRule) → ((r : ℕ) → P (rules r)) → All (OfEntry P) (rules_below n rules)
rules-below P zero rules each = All-from_recursion (OfEntry P) [] tt
rules-below P (suc n) rules each =
    All-append (OfEntry P) (rules_below n rules) (with_rule n (rules n)) (rules-below P n rules each) (one-rule P n (rules n) (each n))

pub listed-have : (P : PlacedRule → Type 0) (rules : ℕ → PlacedRule) → ((r : ℕ) → P (rules r)) → All (OfEntry P) (rule_list rules)
unfolding rule_list
listed-have P rules each = rules-below P 65536 rules each
