-- The contents of a caller's registers, found register by register.
use Rattle.std.proofs.Common.{◌≡◌, ◌≢◌, ℕ, zero, suc, ◌+◌, ◌<◌, ◌≤◌, ◌==◌, Bool, true, false, if◌then◌else◌, List, [], ◌∷◌, length, get_or, drop}
use Rattle.std.proofs.Common.{replicate, refl, sym, ap, subst, ◌∙◌, arith, add-one, drop-cons, ◌||◌}
use Rattle.std.specs.Prelude.{Option, Some, None, All, pos}
use Rattle.std.specs.List.{AllByRecursion}
use Rattle.std.proofs.Math.Path.{fun_ext}
use Rattle.std.proofs.lemmas.Bool.{cases_lt}
use Rattle.std.proofs.Common.{inl, inr}
use Rattle.std.proofs.lemmas.Bool.Decides.{nat_tests}
use Rattle.std.proofs.lemmas.List.{get_or_past}
use Rattle.std.proofs.lemmas.List.Elements.{recursion_from_All}
use Rattle.dw_bytes.specs.declared.target.Target.{Target}
use Rattle.dw_eval.specs.World.{World}
use Rattle.dw_rules.specs.Abi.{Abi, Role, unnamed, kept, stack_pointer, abi_of, is_among, or_rule, rule_of_role, rule_under, rules_under}
use Rattle.dw_rules.specs.Rules.{Rule, Cfa, Row, IsTable, RuleOver, rule_in, default, same_value, offset, val_offset, register, expression}
use Rattle.dw_rules.specs.Rules.{val_expression}
use Rattle.dw_rules.specs.Views.{rule_of}
use Rattle.dw_rules.specs.declared.row.RegisterRule as declared
use Rattle.dw_rules.specs.declared.row.RegisterRule.TheVariants as rules
use Rattle.std.specs.Bool.{OnTrue}
use Rattle.dw_unwind.specs.Caller.{Answer, value, undefined, unreadable, division_by_zero, content, if_value, number_plus}
use Rattle.dw_unwind.specs.Caller.{AreRegisters, Caller, IsCaller, IsCfa, IsRegister}
use Rattle.dw_unwind.specs.Contents.{HasContents, Keeps, Overlays, abi_rules, content_changed, content_in}
use Rattle.dw_unwind.specs.Modules.{as_linked, over_modules}
use Rattle.dw_unwind.specs.Walks.{CallerRelation, content_of, contents_of}
use Rattle.dw_unwind.specs.declared.modules.Module.{Module}

-- ---- a register file

-- if a list of flags is 0 at r, register r has no content
off : (contents known : List ℕ) (r : ℕ) → get_or known r 0 ≡ 0 → content_in contents known r ≡ None
off contents known r is = rw is refl

pub all-zero : (n r : ℕ) → ◌≡◌ {A = ℕ} (get_or (replicate n 0) r 0) 0
all-zero zero r = refl
all-zero (suc n) zero = refl
all-zero (suc n) (suc r) = all-zero n r

pub nothing-known : (contents : List ℕ) (n r : ℕ) → content_in contents (replicate n 0) r ≡ None
nothing-known contents n r = off contents (replicate n 0) r (all-zero n r)

pub nothing-past : (contents known : List ℕ) (r : ℕ) → length known ≤ r → content_in contents known r ≡ None
nothing-past contents known r le = off contents known r (get_or_past known r 0 le)

-- ---- contents that are written one after the other

pub keeps-next : (e : World) (registers : List ℕ) (i d : ℕ) (base next final : ℕ → Option ℕ) (x : Option ℕ) → i < length registers
    → ((r : ℕ) → next r ≡ content_changed base (get_or registers i d) x r) → x ≡ content_of (content e (get_or registers i d))
    → Keeps e (drop (i + 1) registers) next final → Keeps e (drop i registers) base final
keeps-next e registers i d base next final x lt changed same-content keeps =
    let same : drop i registers ≡ get_or registers i d ∷ drop (i + 1) registers = rw (add-one) (drop-cons registers i d lt) in
    subst (λ (l : List ℕ). Keeps e l base final) (sym same)
    (subst (λ (f : ℕ → Option ℕ). Keeps e (drop (i + 1) registers) f final)
    (fun_ext (λ r. changed r ∙ ap (λ (y : Option ℕ). content_changed base (get_or registers i d) y r) same-content)) keeps)

pub keeps-no-more : (e : World) (registers : List ℕ) (base : ℕ → Option ℕ) → registers ≡ [] → Keeps e registers base base
keeps-no-more e registers base none = subst (λ (l : List ℕ). Keeps e l base base) (sym none) refl

pub overlays-next : (e : World) (cfa : Answer) (rules rest : List (ℕ × Rule)) (n : ℕ) (rule : Rule) (a : Answer) (x : Option ℕ)
    (base next final : ℕ → Option ℕ) → rules ≡ (n, rule) ∷ rest → IsRegister e cfa n rule a
    → ((r : ℕ) → next r ≡ content_changed base n x r) → x ≡ content_of a → Overlays e cfa rest next final → Overlays e cfa rules base final
overlays-next e cfa rules rest n rule a x base next final whole gives changed same-content over =
    subst (λ (l : List (ℕ × Rule)). Overlays e cfa l base final) (sym whole) (
      a,
      gives,
      subst (λ (f : ℕ → Option ℕ). Overlays e cfa rest f final)
          (fun_ext (λ r. changed r ∙ ap (λ (y : Option ℕ). content_changed base n y r) same-content)) over,
    )

pub overlays-no-more : (e : World) (cfa : Answer) (rules : List (ℕ × Rule)) (base : ℕ → Option ℕ) → rules ≡ [] → Overlays e cfa rules base base
overlays-no-more e cfa rules base none = subst (λ (l : List (ℕ × Rule)). Overlays e cfa l base base) (sym none) refl

-- ---- the contents that an ABI gives

pub same_number : (n r : ℕ) → (n == r) ≡ true → n ≡ r
same_number n r is = grind (arith, nat_tests)

-- the registers that are kept have the contents that they have now
kept-contents : (e : World) (registers : List ℕ) (base final : ℕ → Option ℕ) → Keeps e registers base final
    → (r : ℕ) → final r ≡ (if is_among r registers then content_of (content e r) else base r)
kept-contents e [] base final keeps r = ap (λ (f : ℕ → Option ℕ). f r) (sym keeps)
kept-contents e (n ∷ registers) base final keeps r =
    kept-contents e registers (content_changed base n (content_of (content e n))) final keeps r
    ∙ go (n == r) (is_among r registers) (same_number n r)
  where
    go : (here among : Bool) → (here ≡ true → n ≡ r)
        → (if among then content_of (content e r) else (if here then content_of (content e n) else base r))
        ≡ (if here || among then content_of (content e r) else base r)
    go true true same = refl
    go true false same = ap (λ (k : ℕ). content_of (content e k)) (same refl)
    go false true same = refl
    go false false same = refl

-- the answer for the register `r` by the rule that an ABI gives for its role
abbrev pub role_answer : World → Answer → Role → ℕ → Answer
role_answer e cfa unnamed r = undefined
role_answer e cfa kept r = content e r
role_answer e cfa stack_pointer r = if_value cfa (λ c. value (number_plus e (pos 0) c))

pub role-is : (e : World) (cfa : Answer) (role : Role) (r : ℕ) → IsRegister e cfa r (rule_of_role role) (role_answer e cfa role r)
role-is e cfa unnamed r = refl
role-is e cfa kept r = refl
role-is e cfa stack_pointer r = refl

-- the contents that the rules of an ABI give: first the kept registers, and then the stack pointer
pub role-content : (e : World) (cfa : Answer) (registers : List ℕ) (final : ℕ → Option ℕ) (r : ℕ)
    → final r ≡ (if is_among r registers then content_of (content e r) else None)
    → final r ≡ content_of (role_answer e cfa (abi_of registers None r) r)
role-content e cfa registers final r is = is ∙ go (is_among r registers)
  where
    go : (among : Bool) → (if among then content_of (content e r) else None)
        ≡ content_of (role_answer e cfa (if among then kept else unnamed) r)
    go true = refl
    go false = refl

pub kept-has : (e : World) (cfa : Answer) (registers : List ℕ) (base final : ℕ → Option ℕ) → ((r : ℕ) → base r ≡ None)
    → Keeps e registers base final → HasContents e cfa (abi_rules (abi_of registers None)) final
kept-has e cfa registers base final none keeps r = (
  role_answer e cfa (abi_of registers None r) r,
  role-is e cfa (abi_of registers None r) r,
  role-content e cfa registers final r
      (kept-contents e registers base final keeps r ∙ ap (λ (x : Option ℕ). if is_among r registers then content_of (content e r) else x) (none r)),
)

-- a register gets another content
pub changed-has : (e : World) (cfa : Answer) (n : ℕ) (x : Rule) (a : Answer) (f : ℕ → Rule) (base : ℕ → Option ℕ) → IsRegister e cfa n x a
    → HasContents e cfa f base → HasContents e cfa (λ r. if n == r then x else f r) (content_changed base n (content_of a))
changed-has e cfa n x a f base is has r = go (n == r) (same_number n r)
  where
    go : (here : Bool) → (here ≡ true → n ≡ r) → (y : Answer) × IsRegister e cfa r (if here then x else f r) y
        × ((if here then content_of a else base r) ≡ content_of y)
    go true same = (a, subst (λ (k : ℕ). IsRegister e cfa k x a) (same refl) is, refl)
    go false same = has r

pub pointer-has : (e : World) (cfa : Answer) (registers : List ℕ) (n : ℕ) (a : Answer) (x : Option ℕ)
    (base next : ℕ → Option ℕ) → IsRegister e cfa n (rule_of_role stack_pointer) a → HasContents e cfa (abi_rules (abi_of registers None)) base
    → ((r : ℕ) → next r ≡ content_changed base n x r) → x ≡ content_of a → HasContents e cfa (abi_rules (abi_of registers (Some n))) next
pointer-has e cfa registers n a x base next is has changed same-content r =
    let h = changed-has e cfa n (rule_of_role stack_pointer) a (abi_rules (abi_of registers None)) base is has r in
    (h.0, go (n == r) h.0 h.1, changed r ∙ ap (λ (y : Option ℕ). content_changed base n y r) same-content ∙ h.2)
  where
    go : (here : Bool) (y : Answer)
        → IsRegister e cfa r (if here then rule_of_role stack_pointer else abi_rules (abi_of registers None) r) y
        → IsRegister e cfa r (rule_of_role (if here || false then stack_pointer
        else (if is_among r registers then kept else unnamed))) y
    go true y h = h
    go false y h = h

-- ---- the contents that the rules of a row give on top

none-below : (low : ℕ) (rules : List (ℕ × Rule)) (r : ℕ) → IsTable low rules → r < low → rule_in rules r ≡ default
none-below low [] r table lt = refl
none-below low (entry ∷ rules) r table lt =
    go (entry.0 == r) (same_number entry.0 r) (none-below (entry.0 + 1) rules r table.3 (omega (arith, table.0, lt)))
  where
    go : (here : Bool) → (here ≡ true → entry.0 ≡ r) → rule_in rules r ≡ default → (if here then entry.1 else rule_in rules r) ≡ default
    go true same later = absurd (omega (arith, same refl, table.0, lt))
    go false same later = later

pub or-some : (x y : Rule) → x ≢ default → or_rule x y ≡ x
or-some default y some = absurd (some refl)
or-some RuleOver.undefined y some = refl
or-some same_value y some = refl
or-some (offset n) y some = refl
or-some (val_offset n) y some = refl
or-some (register n) y some = refl
or-some (expression n) y some = refl
or-some (val_expression n) y some = refl

first-rule : (n : ℕ) (x y : Rule) (rules : List (ℕ × Rule)) (r : ℕ) → x ≢ default → IsTable (n + 1) rules
    → or_rule (rule_in rules r) (if n == r then x else y) ≡ or_rule (if n == r then x else rule_in rules r) y
first-rule n x y rules r some table = go (n == r) (same_number n r)
  where
    go : (here : Bool) → (here ≡ true → n ≡ r)
        → or_rule (rule_in rules r) (if here then x else y) ≡ or_rule (if here then x else rule_in rules r) y
    go true same =
        ap (λ (z : Rule). or_rule z x) (none-below (n + 1) rules r table (omega (arith, same refl))) ∙ sym (or-some x y some)
    go false same = refl

pub overlaid : (e : World) (cfa : Answer) (rules : List (ℕ × Rule)) (low : ℕ) (f : ℕ → Rule) (base final : ℕ → Option ℕ) → IsTable low rules
    → HasContents e cfa f base → Overlays e cfa rules base final → HasContents e cfa (λ r. or_rule (rule_in rules r) (f r)) final
overlaid e cfa [] low f base final table has over r =
    let h = has r in (h.0, h.1, ap (λ (g : ℕ → Option ℕ). g r) (sym over) ∙ h.2)
overlaid e cfa (entry ∷ rules) low f base final table has over r =
    let n = entry.0 in let x = entry.1 in
    let here = changed-has e cfa n x over.0 f base over.1 has in
    let h = overlaid e cfa rules (n + 1) (λ k. if n == k then x else f k) (content_changed base n (content_of over.0)) final table.3 here over.2 r in
    (h.0, subst (λ (y : Rule). IsRegister e cfa r y h.0) (first-rule n x (f r) rules r table.2 table.3) h.1, h.2)

-- ---- a list of answers with these contents

pub among : ℕ → List (ℕ × Rule) → Bool
among r [] = false
among r (entry ∷ rules) = if entry.0 == r then true else among r rules

pub absent : (r : ℕ) (rules : List (ℕ × Rule)) → among r rules ≡ false → rule_in rules r ≡ default
unfolding among
absent r [] is = refl
absent r (entry ∷ rules) is = go (entry.0 == r) (absent r rules) is
  where
    go : (here : Bool) → (among r rules ≡ false → rule_in rules r ≡ default) → (if here then true else among r rules) ≡ false
        → (if here then entry.1 else rule_in rules r) ≡ default
    go true later h = absurd (cc)
    go false later h = later h

pub listed : (e : World) (cfa : Answer) (f : ℕ → Rule) (final : ℕ → Option ℕ) (rules : List (ℕ × Rule)) → HasContents e cfa f final
    → AllByRecursion (λ (entry : ℕ × Rule). entry.1 ≡ f entry.0) rules
    → (answers : List (ℕ × Answer)) × AreRegisters e cfa rules answers
    × ((r : ℕ) → contents_of answers r ≡ (if among r rules then final r else None))
unfolding among
listed e cfa f final [] has each = ([], tt, λ r. refl)
listed e cfa f final (entry ∷ rules) has each =
    let rest = listed e cfa f final rules has each.1 in
    let h = has entry.0 in (
      (entry.0, h.0) ∷ rest.0,
      (refl, subst (λ (y : Rule). IsRegister e cfa entry.0 y h.0) (sym each.0) h.1, rest.1),
      λ r. go r rest.0 (entry.0 == r) (same_number entry.0 r) (rest.2 r),
    )
  where
    go : (r : ℕ) (answers : List (ℕ × Answer)) (here : Bool) → (here ≡ true → entry.0 ≡ r)
        → contents_of answers r ≡ (if among r rules then final r else None)
        → (if here then content_of (has entry.0).0 else contents_of answers r)
        ≡ (if (if here then true else among r rules) then final r else None)
    go r answers true same more = sym (has entry.0).2 ∙ ap final (same refl)
    go r answers false same more = more

-- a register without a rule has no content
default-none : (e : World) (cfa : Answer) (r : ℕ) (x : Rule) (a : Answer) (c : Option ℕ) → x ≡ default → IsRegister e cfa r x a
    → c ≡ content_of a → c ≡ None
default-none e cfa r x a c is gives has =
    has ∙ ap content_of (subst (λ (y : Rule). IsRegister e cfa r y a) is gives)

-- the caller by a row's rules, where the contents of its registers are known instead of the answers
pub by_contents : (e : World) (abi : Abi) (number : ℕ) (row : Row) (cfa returned : Answer) (rule : Cfa) (final : ℕ → Option ℕ)
    → ((abi : Abi) (rules : List (ℕ × Rule)) → All (λ entry. entry.1 ≡ rule_under abi rules entry.0) (rules_under abi rules))
    → ((abi : Abi) (rules : List (ℕ × Rule)) (r : ℕ) → r < 65536 → rule_in (rules_under abi rules) r ≡ rule_under abi rules r)
    → row.cfa ≡ Some rule → IsCfa e (Some rule) cfa → HasContents e cfa (rule_under abi row.rules) final
    → ((r : ℕ) → 65536 ≤ r → final r ≡ None) → IsRegister e cfa number (rule_under abi row.rules number) returned
    → (registers : List (ℕ × Answer))
    × IsCaller e abi number row (record { cfa = cfa; registers = registers; return_address = returned }) × (contents_of registers ≡ final)
by_contents e abi number row cfa returned rule final each all rule-is is has far back =
    let f = rule_under abi row.rules in
    let rules = rules_under abi row.rules in
    let found = listed e cfa f final rules has
    (recursion_from_All (λ (entry : ℕ × Rule). entry.1 ≡ f entry.0) rules (each abi row.rules)) in (
      found.0,
      record {
        cfa = subst (λ (o : Option Cfa). IsCfa e o cfa) (sym rule-is) is;
        registers = found.1;
        return_address = back;
      },
      fun_ext (λ r. found.2 r ∙ go r (among r rules) refl),
    )
  where
    low : (r : ℕ) → among r (rules_under abi row.rules) ≡ false → r < 65536 → final r ≡ None
    low r none lt =
        let h = has r in
        default-none e cfa r (rule_under abi row.rules r) h.0 (final r)
        (sym (all abi row.rules r lt) ∙ absent r (rules_under abi row.rules) none) h.1 h.2

    nothing : (r : ℕ) → among r (rules_under abi row.rules) ≡ false → final r ≡ None
    nothing r none = elim (cases_lt r 65536) [ inl lt ↦ low r none lt | inr le ↦ far r le ]

    go : (r : ℕ) (b : Bool) → among r (rules_under abi row.rules) ≡ b → (if b then final r else None) ≡ final r
    go r true is = refl
    go r false is = sym (nothing r is)

-- an answer with a content is that value
pub value-of : (a : Answer) (n : ℕ) → content_of a ≡ Some n → a ≡ value n
value-of (value k) n is = cc
value-of undefined n is = absurd (cc)
value-of unreadable n is = absurd (cc)
value-of division_by_zero n is = absurd (cc)

pub known-register : (e : World) (cfa : Answer) (f : ℕ → Rule) (final : ℕ → Option ℕ) (r n : ℕ) → HasContents e cfa f final
    → final r ≡ Some n → IsRegister e cfa r (f r) (value n)
known-register e cfa f final r n has is =
    let h = has r in subst (λ (a : Answer). IsRegister e cfa r (f r) a) (value-of h.0 n (sym h.2 ∙ is)) h.1

pub on-true : (b : Bool) (P Q : Type 0) → (P → Q) → OnTrue b P → OnTrue b Q
on-true true P Q f h = f h
on-true false P Q f h = tt

pub unnamed-default : (registers : List ℕ) (r : ℕ) → is_among r registers ≡ false
    → ◌≡◌ {A = Rule} default (rule_of_role (abi_of registers None r))
unnamed-default registers r is = rw is refl

some-rule : (x : declared.RegisterRule) → (x ≡ rules.Default → ⊥) → rule_of x ≢ default
some-rule rules.Default other is = other refl
some-rule rules.Undefined other is = cc
some-rule rules.SameValue other is = cc
some-rule (rules.Offset n) other is = cc
some-rule (rules.ValOffset n) other is = cc
some-rule (rules.Register n) other is = cc
some-rule (rules.Expression at e) other is = cc
some-rule (rules.ValExpression at e) other is = cc

-- a register to which the row gives no rule has the ABI's rule, and any other the row's
pub by-abi : (e : World) (cfa : Answer) (r : ℕ) (x y z : Rule) (a : Answer) → default ≡ x → z ≡ y → IsRegister e cfa r z a
    → IsRegister e cfa r (or_rule x y) a
by-abi e cfa r x y z a none same gives =
    subst (λ (w : Rule). IsRegister e cfa r (or_rule w y) a) none (subst (λ (w : Rule). IsRegister e cfa r w a) same gives)

pub by-row : (e : World) (cfa : Answer) (r : ℕ) (x : declared.RegisterRule) (y z : Rule) (a : Answer) → (x ≡ rules.Default → ⊥)
    → rule_of x ≡ z → IsRegister e cfa r (rule_of x) a → IsRegister e cfa r (or_rule z y) a
by-row e cfa r x y z a other same gives =
    subst (λ (w : Rule). IsRegister e cfa r (or_rule w y) a) same
    (subst (λ (w : Rule). IsRegister e cfa r w a) (sym (or-some (rule_of x) y (some-rule x other))) gives)

-- the first module of a list gives a caller
pub first-gives : {T : Type 0} (target_of : T → Target) (over : T → CallerRelation) (modules : List (Module T)) (i : ℕ) (m : Module T)
    (registers : ℕ → Option ℕ) (address linked : ℕ) (target : Target) (found : Option Caller) (c : Caller) → i < length modules
    → m ≡ get_or modules i m → target ≡ target_of m.rows → linked ≡ as_linked target m.load_address address
    → over m.rows registers linked found → found ≡ Some c → over_modules target_of over (drop i modules) registers address (Some c)
first-gives {T} target_of over modules i m registers address linked target found c lt here of-target where-linked gives is =
    let same : drop i modules ≡ m ∷ drop (i + 1) modules =
    rw (add-one) (drop-cons modules i m lt ∙ ap (λ (x : Module T). x ∷ drop (suc i) modules) (sym here)) in
    let at : linked ≡ as_linked (target_of m.rows) m.load_address address =
    where-linked ∙ ap (λ (t : Target). as_linked t m.load_address address) of-target in
    subst (λ (l : List (Module T)). over_modules target_of over l registers address (Some c)) (sym same)
    (Some c, subst (λ (a : ℕ). over m.rows registers a (Some c)) at (subst (λ (o : Option Caller). over m.rows registers linked o) is gives), refl)
