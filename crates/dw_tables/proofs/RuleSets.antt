-- Rule sets, each with its return address register (`zipped`).
use Rattle.std.proofs.Common.{◌≡◌, ℕ, zero, suc, ◌<◌, List, [], ◌∷◌, ◌++◌, length, get_or, refl, sym, ap, arith, Some}
use Rattle.std.specs.Prelude.{slice_get}
use Rattle.dw_rules.specs.RuleSet.{StoredRules}
use Rattle.dw_tables.specs.CompiledTable.{StoredSet, zipped, set_numbered}

pub zipped-length : (rules : List StoredRules) (registers : List ℕ) → length rules ≡ length registers
    → length (zipped rules registers) ≡ length registers
zipped-length [] [] even = refl
zipped-length [] (r ∷ registers) even = absurd (omega arith)
zipped-length (k ∷ rules) [] even = absurd (omega arith)
zipped-length (k ∷ rules) (r ∷ registers) even = ap suc (zipped-length rules registers (omega arith))

pub zipped-more : (rules : List StoredRules) (registers : List ℕ) (k : StoredRules) (r : ℕ) → length rules ≡ length registers
    → zipped (rules ++ k ∷ []) (registers ++ r ∷ []) ≡ zipped rules registers ++ record { rules = k; register = r } ∷ []
zipped-more [] [] k r even = refl
zipped-more [] (q ∷ registers) k r even = absurd (omega arith)
zipped-more (j ∷ rules) [] k r even = absurd (omega arith)
zipped-more (j ∷ rules) (q ∷ registers) k r even =
    ap (λ (l : List StoredSet). record { rules = j; register = q } ∷ l) (zipped-more rules registers k r (omega arith))

pub zipped-at : (rules : List StoredRules) (registers : List ℕ) (n : ℕ) (k : StoredRules) (r : ℕ) → length rules ≡ length registers
    → n < length rules → k ≡ get_or rules n k → r ≡ get_or registers n r
    → slice_get (zipped rules registers) n ≡ Some (record { rules = k; register = r })
zipped-at [] registers n k r even lt is is_register = absurd (omega arith)
zipped-at (j ∷ rules) [] n k r even lt is is_register = absurd (omega arith)
zipped-at (j ∷ rules) (q ∷ registers) zero k r even lt is is_register =
    let x : StoredSet = record { rules = k; register = r } in
    ap Some (λ i. record { rules = sym is i; register = sym is_register i })
zipped-at (j ∷ rules) (q ∷ registers) (suc n) k r even lt is is_register =
    zipped-at rules registers n k r (omega arith) (omega arith) is is_register

pub zipped-register : (rules : List StoredRules) (registers : List ℕ) (n r : ℕ) → length rules ≡ length registers → n < length registers
    → r ≡ get_or registers n r → (set_numbered (zipped rules registers) n).register ≡ r
zipped-register [] [] n r even lt is = absurd (omega arith)
zipped-register [] (q ∷ registers) n r even lt is = absurd (omega arith)
zipped-register (j ∷ rules) [] n r even lt is = absurd (omega arith)
zipped-register (j ∷ rules) (q ∷ registers) zero r even lt is = sym is
zipped-register (j ∷ rules) (q ∷ registers) (suc n) r even lt is =
    zipped-register rules registers n r (omega arith) (omega arith) is

-- a rule set is that of its rules
pub zipped-rules : (rules : List StoredRules) (registers : List ℕ) (n : ℕ) (k : StoredRules) → length rules ≡ length registers
    → slice_get rules n ≡ Some k → (set_numbered (zipped rules registers) n).rules ≡ k
zipped-rules [] registers n k even is = cc
zipped-rules (j ∷ rules) [] n k even is = absurd (omega arith)
zipped-rules (j ∷ rules) (q ∷ registers) zero k even is = cc
zipped-rules (j ∷ rules) (q ∷ registers) (suc n) k even is = zipped-rules rules registers n k (omega arith) is
