-- Steps in place: contents that stay where they are, and rules that only read memory.
use Rattle.std.proofs.Common.{◌≡◌, ◌≢◌, ℕ, ◌+◌, ◌<◌, ◌≤◌, ◌%◌, ◌^◌, ◌==◌, Bool, true, false, if◌then◌else◌, List, [], ◌∷◌, ◌++◌}
use Rattle.std.proofs.Common.{◌⊎◌, inl, inr, refl, sym, ap, subst, ◌∙◌, add-one, arith, drop, drop-cons}
use Rattle.std.proofs.Common.{◌||◌, length, get_or, map, replicate, set, ℤ}
use Rattle.std.specs.Prelude.{IfSome, Option, Some, None, pos}
use Rattle.std.proofs.lemmas.Bool.Decides.{nat_tests}
use Rattle.std.proofs.lemmas.List.{get_or-set_other, get_or-set_same, drop_all, map-append}
use Rattle.dw_bytes.specs.declared.target.Target.{Target}
use Rattle.dw_rules.specs.Abi.{Abi, abi_of, is_among, or_rule, rule_under}
use Rattle.dw_stack.specs.Located.{LocatedExpression}
use Rattle.dw_rules.specs.Rules.{IsTable, Rule, default, offset, rule_in}
use Rattle.dw_eval.specs.World.{World}
use Rattle.dw_unwind.specs.Caller.{Answer, IsRegister, content_plus, machine, value}
use Rattle.dw_unwind.specs.Contents.{HasContents, Overlays, abi_rules, content_changed}
use Rattle.dw_rules.specs.SavedRules.{Saved, as_saved}
use Rattle.dw_unwind.specs.UsualSteps.{IsLeftOf}
use Rattle.dw_unwind.specs.Walks.{content_of}
use Rattle.dw_unwind.specs.declared.usual_step.TheConstants.{LITTLE_64}
use Rattle.dw_unwind.proofs.Contents.{all-zero, overlaid, overlays-next, role-content, role-is, role_answer}

-- ---- contents that stay where they are

mod-small : (n : ℕ) → n < 2 ^ 64 → (n + 0) % 2 ^ 64 ≡ n
mod-small n lt = omega (arith, lt)

-- a content of a register in a machine of 64 bits is its content modulo 2^64
same-content : (registers memory : ℕ → Option ℕ) (x : Option ℕ) → IfSome x (λ n. n < 2 ^ 64)
    → content_of (content_plus (machine LITTLE_64 registers memory) (pos 0) x) ≡ x
same-content registers memory (Some n) lt = ap Some (mod-small n lt)
same-content registers memory None lt = refl

pub kept-in-place : (memory old final : ℕ → Option ℕ) (cfa : Answer) (registers : List ℕ)
    → ((r : ℕ) → IfSome (old r) (λ n. n < 2 ^ 64)) → ((r : ℕ) → final r ≡ (if is_among r registers then old r else None))
    → HasContents (machine LITTLE_64 old memory) cfa (abi_rules (abi_of registers None)) final
kept-in-place memory old final cfa registers fits is r =
    let e = machine LITTLE_64 old memory in (
      role_answer e cfa (abi_of registers None r) r,
      role-is e cfa (abi_of registers None r) r,
      role-content e cfa registers final r
          (is r ∙ ap (λ (x : Option ℕ). if is_among r registers then x else None) (sym (same-content old memory (old r) (fits r)))),
    )

-- ---- rules that only read memory

-- what such a rule gives doesn't depend on registers
saved-by : (t : Target) (registers others memory : ℕ → Option ℕ) (cfa : Answer) (r : ℕ) (n : ℤ) (a : Answer)
    → IsRegister (machine t registers memory) cfa r (offset n) a → IsRegister (machine t others memory) cfa r (offset n) a
saved-by t registers others memory cfa r n a is = is

pub overlays-by : (t : Target) (registers others memory : ℕ → Option ℕ) (cfa : Answer) (saved : List Saved) (base final : ℕ → Option ℕ)
    → Overlays (machine t registers memory) cfa (map as_saved saved) base final
    → Overlays (machine t others memory) cfa (map as_saved saved) base final
overlays-by t registers others memory cfa [] base final over = over
overlays-by t registers others memory cfa (x ∷ saved) base final over = (
  over.0,
  saved-by t registers others memory cfa x.0 x.1 over.0 over.1,
  overlays-by t registers others memory cfa saved (content_changed base x.0 (content_of over.0)) final over.2,
)

-- under any ABI, a register that the row saves in memory has the row's rule
pub saved-under : (abi : Abi) (rules : List (ℕ × Rule)) (number : ℕ) (n : ℤ) → rule_in rules number ≡ offset n
    → rule_under abi rules number ≡ offset n
saved-under abi rules number n is = rw is refl

-- ---- the last one of a row's rules

last-above : (low : ℕ) (rules : List (ℕ × Rule)) (n : ℕ) (x : Rule) → IsTable low (rules ++ (n, x) ∷ []) → low ≤ n
last-above low [] n x table = table.0
last-above low (entry ∷ rules) n x table = omega (arith, table.0, last-above (entry.0 + 1) rules n x table.3)

pub same-number : (n : ℕ) → (n == n) ≡ true
same-number n = grind (arith, nat_tests)

pub lower-number : (m n : ℕ) → m + 1 ≤ n → (m == n) ≡ false
lower-number m n le = grind (arith, nat_tests)

-- the rule of the register whose entry is the last one
last-rule : (low : ℕ) (rules : List (ℕ × Rule)) (n : ℕ) (x : Rule) → IsTable low (rules ++ (n, x) ∷ [])
    → rule_in (rules ++ (n, x) ∷ []) n ≡ x
last-rule low [] n x table = ap (λ (b : Bool). if b then x else default) (same-number n)
last-rule low (entry ∷ rules) n x table =
    ap (λ (b : Bool). if b then entry.1 else rule_in (rules ++ (n, x) ∷ []) n)
    (lower-number entry.0 n (last-above (entry.0 + 1) rules n x table.3)) ∙ last-rule (entry.0 + 1) rules n x table.3

pub last-saved : (rules saved : List Saved) (n : ℕ) (o : ℤ) → rules ≡ saved ++ (n, o) ∷ []
    → IsTable {E = LocatedExpression} 0 (map as_saved rules) → rule_in {E = LocatedExpression} (map as_saved rules) n ≡ offset o
last-saved rules saved n o whole table =
    let all : map as_saved rules ≡ map as_saved saved ++ (n, offset o) ∷ [] =
    ap (λ (l : List Saved). map as_saved l) whole ∙ map-append as_saved saved ((n, o) ∷ []) in
    ap (λ (l : List (ℕ × Rule)). rule_in l n) all
    ∙ last-rule 0 (map as_saved saved) n (offset o) (subst (λ (l : List (ℕ × Rule)). IsTable 0 l) all table)

overlays-both : (e : World) (cfa : Answer) (rules later : List (ℕ × Rule)) (base middle final : ℕ → Option ℕ)
    → Overlays e cfa rules base middle → Overlays e cfa later middle final → Overlays e cfa (rules ++ later) base final
overlays-both e cfa [] later base middle final over after = subst (λ (f : ℕ → Option ℕ). Overlays e cfa later f final) (sym over) after
overlays-both e cfa (entry ∷ rules) later base middle final over after = (
  over.0,
  over.1,
  overlays-both e cfa rules later (content_changed base entry.0 (content_of over.0)) middle final over.2 after,
)

-- the contents by all rules, once the content by the last one was written after those by the others
overlays-last : (e : World) (cfa : Answer) (rules saved : List Saved) (n content : ℕ) (o : ℤ) (base middle final : ℕ → Option ℕ)
    → rules ≡ saved ++ (n, o) ∷ [] → IsRegister e cfa n (offset o) (value content) → Overlays e cfa (map as_saved saved) base middle
    → ((r : ℕ) → final r ≡ content_changed middle n (Some content) r) → Overlays e cfa (map as_saved rules) base final
overlays-last e cfa rules saved n content o base middle final whole gives over changed =
    subst (λ (l : List (ℕ × Rule)). Overlays e cfa l base final)
    (sym (ap (λ (l : List Saved). map as_saved l) whole ∙ map-append as_saved saved ((n, o) ∷ [])))
    (overlays-both e cfa (map as_saved saved) ((n, offset o) ∷ []) base middle final over
    (overlays-next e cfa ((n, offset o) ∷ []) [] n (offset o) (value content) (Some content) middle final final refl gives changed refl refl))

-- a register gets once more the content that its rule gives
pub has-again : (e : World) (cfa : Answer) (f : ℕ → Rule) (n : ℕ) (a : Answer) (base final : ℕ → Option ℕ) → IsRegister e cfa n (f n) a
    → HasContents e cfa f base → ((r : ℕ) → final r ≡ content_changed base n (content_of a) r) → HasContents e cfa f final
has-again e cfa f n a base final is has changed r = go (n == r) refl
  where
    go : (here : Bool) → (n == r) ≡ here → (y : Answer) × IsRegister e cfa r (f r) y × (final r ≡ content_of y)
    go true at =
        let same : n ≡ r = grind (arith, nat_tests) in
        (a, subst (λ (k : ℕ). IsRegister e cfa k (f k) a) same is, changed r ∙ ap (λ (b : Bool). if b then content_of a else base r) at)
    go false at =
        let h = has r in (h.0, h.1, changed r ∙ ap (λ (b : Bool). if b then content_of a else base r) at ∙ h.2)

-- the contents by all rules, once the rules that are left were followed and the content that had
-- been read before was written
pub left-has : (e : World) (cfa : Answer) (f : ℕ → Rule) (rules left : List Saved) (n content : ℕ) (o : ℤ) (base middle final : ℕ → Option ℕ)
    → IsTable {E = LocatedExpression} 0 (map as_saved rules) → IsLeftOf rules n o left → IsRegister e cfa n (offset o) (value content)
    → HasContents e cfa f base → Overlays e cfa (map as_saved left) base middle
    → ((r : ℕ) → final r ≡ content_changed middle n (Some content) r)
    → HasContents e cfa (λ r. or_rule (rule_in (map as_saved rules) r) (f r)) final
left-has e cfa f rules left n content o base middle final table is gives has over changed = go is.others
  where
    all : ℕ → Rule
    all = λ r. or_rule (rule_in (map as_saved rules) r) (f r)

    go : (rules ≡ left ++ (n, o) ∷ []) ⊎ (rules ≡ left) → HasContents e cfa all final
    go (inl whole) =
        overlaid e cfa (map as_saved rules) 0 f base final table has
        (overlays-last e cfa rules left n content o base middle final whole gives over changed)
    go (inr same) =
        let each = subst (λ (l : List Saved). Overlays e cfa (map as_saved l) base middle) (sym same) over in
        has-again e cfa all n (value content) middle final
        (subst (λ (x : Rule). IsRegister e cfa n x (value content)) (sym (ap (λ (x : Rule). or_rule x (f n)) is.rule)) gives)
        (overlaid e cfa (map as_saved rules) 0 f base middle table has each) changed

-- ---- flags that are kept where there is a mark

-- the flags before index `i` are done, and the others are those of `old`
pub record ArePickedTo (marks old flags : List ℕ) (i : ℕ) : Type 0 where
  pub length_is : length flags ≡ length old
  pub done : (r : ℕ) → r < i → (get_or flags r 0 == 0) ≡ ((get_or old r 0 == 0) || (get_or marks r 0 == 0))
  pub others : (r : ℕ) → i ≤ r → get_or flags r 0 ≡ get_or old r 0

-- ---- marks

unequal : (n r : ℕ) → (n == r) ≡ false → r ≢ n
unequal n r is = grind (arith, nat_tests)

pub set-marks : (marks : List ℕ) (n r : ℕ) → n < length marks → get_or (set marks n 1) r 0 ≡ (if n == r then 1 else get_or marks r 0)
set-marks marks n r lt = go (n == r) refl
  where
    go : (here : Bool) → (n == r) ≡ here → get_or (set marks n 1) r 0 ≡ (if here then 1 else get_or marks r 0)
    go true is =
        let same : n ≡ r = grind (arith, nat_tests) in
        subst (λ (k : ℕ). get_or (set marks n 1) k 0 ≡ 1) same (get_or-set_same marks n 1 0 lt)
    go false is = get_or-set_other marks n r 1 0 (unequal n r is)

pub marks-first : (numbers : List ℕ) (n r : ℕ)
    → ◌≡◌ {A = ℕ} (if is_among r numbers then 1 else get_or (replicate n 0) r 0) (if is_among r numbers then 1 else 0)
marks-first numbers n r = ap (λ (x : ℕ). if is_among r numbers then 1 else x) (all-zero n r)

pub marks-next : (marks next : List ℕ) (numbers : List ℕ) (i r : ℕ) → i < length numbers
    → get_or next r 0 ≡ (if get_or numbers i 0 == r then 1 else get_or marks r 0)
    → (if is_among r (drop (i + 1) numbers) then 1 else get_or next r 0) ≡ (if is_among r (drop i numbers) then 1 else get_or marks r 0)
marks-next marks next numbers i r lt is =
    let n = get_or numbers i 0 in
    let cut : drop i numbers ≡ n ∷ drop (i + 1) numbers = rw (add-one) (drop-cons numbers i 0 lt) in
    ap (λ (x : ℕ). if is_among r (drop (i + 1) numbers) then 1 else x) is
    ∙ go (n == r) (is_among r (drop (i + 1) numbers))
    ∙ ap (λ (l : List ℕ). if is_among r l then 1 else get_or marks r 0) (sym cut)
  where
    go : (here later : Bool) → (if later then 1 else (if here then 1 else get_or marks r 0)) ≡ (if here || later then 1 else get_or marks r 0)
    go true true = refl
    go true false = refl
    go false true = refl
    go false false = refl

-- ---- flags of listed registers

pub set-flags : (old flags : List ℕ) (n r : ℕ) → n < length flags
    → get_or (set flags n (get_or old n 0)) r 0 ≡ (if n == r then get_or old r 0 else get_or flags r 0)
set-flags old flags n r lt = go (n == r) refl
  where
    go : (here : Bool) → (n == r) ≡ here → get_or (set flags n (get_or old n 0)) r 0 ≡ (if here then get_or old r 0 else get_or flags r 0)
    go true is =
        let same : n ≡ r = grind (arith, nat_tests) in
        subst (λ (k : ℕ). get_or (set flags n (get_or old n 0)) k 0 ≡ get_or old k 0) same (get_or-set_same flags n (get_or old n 0) 0 lt)
    go false is = get_or-set_other flags n r (get_or old n 0) 0 (unequal n r is)

pub listed-first : (old numbers : List ℕ) (n r : ℕ)
    → (if is_among r numbers then get_or old r 0 else get_or (replicate n 0) r 0) ≡ (if is_among r numbers then get_or old r 0 else 0)
listed-first old numbers n r = ap (λ (x : ℕ). if is_among r numbers then get_or old r 0 else x) (all-zero n r)

pub listed-next : (old flags next numbers : List ℕ) (i r : ℕ) → i < length numbers
    → get_or next r 0 ≡ (if get_or numbers i 0 == r then get_or old r 0 else get_or flags r 0)
    → (if is_among r (drop (i + 1) numbers) then get_or old r 0 else get_or next r 0)
    ≡ (if is_among r (drop i numbers) then get_or old r 0 else get_or flags r 0)
listed-next old flags next numbers i r lt is =
    let n = get_or numbers i 0 in
    let cut : drop i numbers ≡ n ∷ drop (i + 1) numbers = rw (add-one) (drop-cons numbers i 0 lt) in
    ap (λ (x : ℕ). if is_among r (drop (i + 1) numbers) then get_or old r 0 else x) is
    ∙ go (n == r) (is_among r (drop (i + 1) numbers))
    ∙ ap (λ (l : List ℕ). if is_among r l then get_or old r 0 else get_or flags r 0) (sym cut)
  where
    go : (here later : Bool) → (if later then get_or old r 0 else (if here then get_or old r 0 else get_or flags r 0))
        ≡ (if here || later then get_or old r 0 else get_or flags r 0)
    go true true = refl
    go true false = refl
    go false true = refl
    go false false = refl

pub listed-all : (numbers : List ℕ) (i r kept flag final : ℕ) → length numbers ≤ i
    → (if is_among r (drop i numbers) then kept else flag) ≡ final → flag ≡ final
listed-all numbers i r kept flag final le is =
    let none : drop i numbers ≡ [] = drop_all i numbers le in
    ap (λ (l : List ℕ). if is_among r l then kept else flag) (sym none) ∙ is
