-- Contents without a place in a register file: those of registers with a number of PLACES or more.
use Rattle.std.proofs.Common.{◌≡◌, ◌≢◌, ℕ, zero, suc, ◌+◌, ◌<◌, ◌≤◌, ◌==◌, ◌&&◌, ◌||◌, Bool, true, false, not, if◌then◌else◌, List, [], ◌∷◌, ◌++◌}
use Rattle.std.proofs.Common.{refl, sym, ap, subst, ◌∙◌, arith, add-one, drop, drop-cons, get_or, inl, inr, length}
use Rattle.std.specs.Prelude.{Any, All, IsSome, Option, Some, None, is_some}
use Rattle.std.specs.Bool.{MatchBool, OnTrue}
use Rattle.std.specs.Option.{option_to_list}
use Rattle.std.proofs.Math.Path.{fun_ext}
use Rattle.std.proofs.lemmas.Bool.{cases_lt}
use Rattle.std.proofs.lemmas.Bool.Decides.{nat_tests}
use Rattle.std.proofs.lemmas.List.Elements.{recursion_from_All}
use Rattle.dw_eval.specs.World.{World}
use Rattle.dw_rules.specs.Abi.{Abi, Role, unnamed, kept, stack_pointer, abi_of, is_among, or_rule, rule_of_role, rule_under, rules_under}
use Rattle.dw_rules.specs.Rules.{Rule, Cfa, Row, IsTable, RuleOver, rule_in, default, same_value, offset, val_offset, register, expression}
use Rattle.dw_rules.specs.Rules.{val_expression}
use Rattle.dw_unwind.specs.declared.register_file.TheConstants.{PLACES}
use Rattle.dw_unwind.specs.Caller.{Answer, value, undefined, unreadable, division_by_zero, Caller, IsCaller, IsCfa, IsRegister}
use Rattle.dw_unwind.specs.Contents.{HasContents, Overlays, content_changed}
use Rattle.dw_unwind.specs.MissingPlaces.{HasFarContent, IsFarContent, LacksContent, LacksFarContents, Writes}
use Rattle.dw_unwind.specs.Walks.{content_of, contents_of}
use Rattle.dw_unwind.proofs.Contents.{absent, among, listed, same_number}
use Rattle.dw_unwind.proofs.InPlace.{has-again, lower-number, same-number}

-- ---- contents that are written one after the other

-- nothing is written yet
pub writes-first : (base : ℕ → Option ℕ) → Writes base base true
writes-first base = record { near = λ r lt. refl; all = refl }

-- after a further register is written
pub writes-next : (wanted base next : ℕ → Option ℕ) (n : ℕ) (x : Option ℕ) (before now : Bool) → Writes wanted base before
    → ((r : ℕ) → r < PLACES → next r ≡ content_changed base n x r) → OnTrue now ((r : ℕ) → next r ≡ content_changed base n x r)
    → Writes (content_changed wanted n x) next (before && now)
writes-next wanted base next n x before now writes near changed = record {
  near = λ r lt. ap (λ (y : Option ℕ). if n == r then x else y) (writes.near r lt) ∙ sym (near r lt);
  all = go before now writes.all changed;
}
  where
    go : (one other : Bool) → OnTrue one (wanted ≡ base) → OnTrue other ((r : ℕ) → next r ≡ content_changed base n x r)
        → OnTrue (one && other) (content_changed wanted n x ≡ next)
    go true true same changed = ap (λ (f : ℕ → Option ℕ). content_changed f n x) same ∙ sym (fun_ext changed)
    go true false same changed = tt
    go false true same changed = tt
    go false false same changed = tt

-- what rules make of the contents `other`, instead of `base`
pub overlays-from : (e : World) (cfa : Answer) (rules : List (ℕ × Rule)) (base other final : ℕ → Option ℕ) → Overlays e cfa rules base final
    → (wanted : ℕ → Option ℕ) × Overlays e cfa rules other wanted × ((r : ℕ) → other r ≡ base r → wanted r ≡ final r)
overlays-from e cfa [] base other final over = (other, refl, λ r same. same ∙ ap (λ (f : ℕ → Option ℕ). f r) over)
overlays-from e cfa (entry ∷ rules) base other final over =
    let x = content_of over.0 in
    let rest = overlays-from e cfa rules (content_changed base entry.0 x) (content_changed other entry.0 x) final over.2 in (
      rest.0,
      (over.0, over.1, rest.1),
      λ r same. rest.2 r (ap (λ (y : Option ℕ). if entry.0 == r then x else y) same),
    )

-- first the registers that an ABI names are written, and then those that a row has rules for
pub writes-both : (named between ruled contents wanted : ℕ → Option ℕ) (first second : Bool) → Writes named between first
    → Writes ruled contents second → ((r : ℕ) → named r ≡ between r → wanted r ≡ ruled r) → Writes wanted contents (first && second)
writes-both named between ruled contents wanted first second one other same = record {
  near = λ r lt. same r (one.near r lt) ∙ other.near r lt;
  all = go first second one.all other.all;
}
  where
    go : (a b : Bool) → OnTrue a (named ≡ between) → OnTrue b (ruled ≡ contents) → OnTrue (a && b) (wanted ≡ contents)
    go true true x y = fun_ext (λ r. same r (ap (λ (f : ℕ → Option ℕ). f r) x)) ∙ y
    go true false x y = tt
    go false true x y = tt
    go false false x y = tt

-- the contents that are there are those that were wanted, if no content lacks a place
near-has : (e : World) (cfa : Answer) (rules : ℕ → Rule) (wanted contents : ℕ → Option ℕ) (all_placed : Bool)
    → HasContents e cfa rules wanted → Writes wanted contents all_placed → ((r : ℕ) → PLACES ≤ r → contents r ≡ None)
    → LacksFarContents e cfa rules → HasContents e cfa rules contents
near-has e cfa rules wanted contents all_placed has writes ends lacks r = elim (cases_lt r PLACES) [
  | inl lt ↦ let h = has r in (h.0, h.1, sym (writes.near r lt) ∙ h.2)
  | inr le ↦ let l = lacks r le in (l.0, l.1, ends r le ∙ sym l.2)
]

pub near-unless : (e : World) (cfa : Answer) (rules : ℕ → Rule) (wanted contents : ℕ → Option ℕ) (all_placed lacks : Bool)
    → HasContents e cfa rules wanted → Writes wanted contents all_placed → ((r : ℕ) → PLACES ≤ r → contents r ≡ None)
    → MatchBool lacks (HasFarContent e cfa rules) (LacksFarContents e cfa rules) → OnTrue (not lacks) (HasContents e cfa rules contents)
near-unless e cfa rules wanted contents all_placed true has writes ends found = tt
near-unless e cfa rules wanted contents all_placed false has writes ends none =
    near-has e cfa rules wanted contents all_placed has writes ends none

-- ---- a register that has a content, or none

pub far-content : (e : World) (cfa : Answer) (rules : ℕ → Rule) (r : ℕ) (a : Answer) → PLACES ≤ r → r < 65536
    → IsRegister e cfa r (rules r) a → IsSome (content_of a) → HasFarContent e cfa rules
far-content e cfa rules r (value n) far small is some = record {
  register = r;
  far = far;
  is_number = small;
  content = n;
  found = is;
}
far-content e cfa rules r undefined far small is some = absurd (cc)
far-content e cfa rules r unreadable far small is some = absurd (cc)
far-content e cfa rules r division_by_zero far small is some = absurd (cc)

pub no-content : (x : Option ℕ) → is_some x ≡ false → x ≡ None
no-content (Some n) is = absurd (cc)
no-content None is = refl

-- ---- the registers of a list

-- a property of the first number of a list, and of the others
pub among-next : (P : ℕ → Type 0) (numbers : List ℕ) (i : ℕ) → i < length numbers → P (get_or numbers i 0)
    → ((r : ℕ) → is_among r (drop (i + 1) numbers) ≡ true → P r) → (r : ℕ) → is_among r (drop i numbers) ≡ true → P r
among-next P numbers i lt here later r is =
    let n = get_or numbers i 0 in
    let cut : drop i numbers ≡ n ∷ drop (i + 1) numbers = rw (add-one) (drop-cons numbers i 0 lt) in
    go (n == r) (same_number n r) (subst (λ (l : List ℕ). is_among r l ≡ true) cut is)
  where
    go : (first : Bool) → (first ≡ true → get_or numbers i 0 ≡ r) → (first || is_among r (drop (i + 1) numbers)) ≡ true → P r
    go true same is = subst P (same refl) here
    go false same is = later r is

pub among-none : (P : ℕ → Type 0) (numbers : List ℕ) → numbers ≡ [] → (r : ℕ) → is_among r numbers ≡ true → P r
among-none P [] none r is = absurd (cc)
among-none P (n ∷ numbers) none r is = absurd (cc)

-- the only number of a list, if there is one
pub among-pointer : (P : ℕ → Type 0) (Found : Type 0) (pointer : Option ℕ) (n : ℕ) (b : Bool) → pointer ≡ Some n → MatchBool b Found (P n)
    → MatchBool b Found ((r : ℕ) → is_among r (option_to_list pointer) ≡ true → P r)
among-pointer P Found None n b is found = absurd (cc)
among-pointer P Found (Some k) n true is found = found
among-pointer P Found (Some k) n false is here = λ r among. go r (k == r) (same_number k r) among
  where
    whole : k ≡ n
    whole = cc

    go : (r : ℕ) (first : Bool) → (first ≡ true → k ≡ r) → (first || false) ≡ true → P r
    go r true same among = let all : n ≡ r = sym whole ∙ same refl in subst P all here
    go r false same among = absurd (cc)

-- ---- the registers of a row's rules

-- the rule of the first entry, or that of the others
pub far-next : (e : World) (cfa : Answer) (rules rest : List (ℕ × Rule)) (n : ℕ) (x : Rule) → rules ≡ (n, x) ∷ rest
    → (PLACES ≤ n → LacksContent e cfa (λ r. x) n) → LacksFarContents e cfa (rule_in rest) → LacksFarContents e cfa (rule_in rules)
far-next e cfa rules rest n x whole here later =
    subst (λ (l : List (ℕ × Rule)). LacksFarContents e cfa (rule_in l)) (sym whole) (λ r far. go r far (n == r) (same_number n r))
  where
    go : (r : ℕ) → PLACES ≤ r → (first : Bool) → (first ≡ true → n ≡ r)
        → (a : Answer) × IsRegister e cfa r (if first then x else rule_in rest r) a × (content_of a ≡ None)
    go r far true same = subst (λ (k : ℕ). PLACES ≤ k → LacksContent e cfa (λ r. x) k) (same refl) here far
    go r far false same = later r far

pub far-none : (e : World) (cfa : Answer) (rules : List (ℕ × Rule)) → rules ≡ [] → LacksFarContents e cfa (rule_in rules)
far-none e cfa [] none r far = (undefined, refl, refl)
far-none e cfa (entry ∷ rules) none r far = absurd (cc)

above : (low : ℕ) (came : List (ℕ × Rule)) (n : ℕ) (rule : Rule) (rest : List (ℕ × Rule)) → IsTable low (came ++ (n, rule) ∷ rest) → low ≤ n
above low [] n rule rest table = table.0
above low (entry ∷ came) n rule rest table = omega (arith, table.0, above (entry.0 + 1) came n rule rest table.3)

-- the rule of an entry's register is the entry's
entry-rule : (low : ℕ) (came : List (ℕ × Rule)) (n : ℕ) (rule : Rule) (rest : List (ℕ × Rule)) → IsTable low (came ++ (n, rule) ∷ rest)
    → rule_in (came ++ (n, rule) ∷ rest) n ≡ rule
entry-rule low [] n rule rest table = ap (λ (b : Bool). if b then rule else rule_in rest n) (same-number n)
entry-rule low (entry ∷ came) n rule rest table =
    ap (λ (b : Bool). if b then entry.1 else rule_in (came ++ (n, rule) ∷ rest) n)
    (lower-number entry.0 n (above (entry.0 + 1) came n rule rest table.3))
    ∙ entry-rule (entry.0 + 1) came n rule rest table.3

pub entry-rule-is : (came : List (ℕ × Rule)) (n : ℕ) (rule : Rule) (left rest rules : List (ℕ × Rule)) → IsTable 0 rules
    → came ++ left ≡ rules → left ≡ (n, rule) ∷ rest → rule ≡ rule_in rules n
entry-rule-is came n rule left rest rules table whole next =
    let same : came ++ (n, rule) ∷ rest ≡ rules = ap (λ (l : List (ℕ × Rule)). came ++ l) (sym next) ∙ whole in
    subst (λ (l : List (ℕ × Rule)). rule ≡ rule_in l n) same
    (sym (entry-rule 0 came n rule rest (subst (λ (l : List (ℕ × Rule)). IsTable 0 l) (sym same) table)))

-- ---- the row and the ABI

-- a register that has a content by the row has that content under any ABI
by-value : (e : World) (cfa : Answer) (x y : Rule) (r n : ℕ) → IsRegister e cfa r x (value n) → IsRegister e cfa r (or_rule x y) (value n)
by-value e cfa default y r n is = absurd (cc)
by-value e cfa RuleOver.undefined y r n is = is
by-value e cfa same_value y r n is = is
by-value e cfa (offset k) y r n is = is
by-value e cfa (val_offset k) y r n is = is
by-value e cfa (register k) y r n is = is
by-value e cfa (expression k) y r n is = is
by-value e cfa (val_expression k) y r n is = is

far-by-row : (e : World) (cfa : Answer) (abi : Abi) (rules : List (ℕ × Rule)) → HasFarContent e cfa (rule_in rules)
    → HasFarContent e cfa (rule_under abi rules)
far-by-row e cfa abi rules h = record {
  register = h.register;
  far = h.far;
  is_number = h.is_number;
  content = h.content;
  found = by-value e cfa (rule_in rules h.register) (rule_of_role (abi h.register)) h.register h.content h.found;
}

or-default : (x : Rule) → x ≡ or_rule x default
or-default default = refl
or-default RuleOver.undefined = refl
or-default same_value = refl
or-default (offset k) = refl
or-default (val_offset k) = refl
or-default (register k) = refl
or-default (expression k) = refl
or-default (val_expression k) = refl

-- no far register has a content, if none does that the ABI names, and none by the row
lacks-all : (e : World) (cfa : Answer) (registers : List ℕ) (pointer : Option ℕ) (rules : List (ℕ × Rule))
    → ((r : ℕ) → is_among r registers ≡ true → PLACES ≤ r → LacksContent e cfa (rule_under (abi_of registers pointer) rules) r)
    → ((r : ℕ) → is_among r (option_to_list pointer) ≡ true → PLACES ≤ r → LacksContent e cfa (rule_under (abi_of registers pointer) rules) r)
    → LacksFarContents e cfa (rule_in rules) → LacksFarContents e cfa (rule_under (abi_of registers pointer) rules)
lacks-all e cfa registers pointer rules by-kept by-pointer by-rules r far =
    go (is_among r (option_to_list pointer)) (is_among r registers) refl refl
  where
    go : (points keeps : Bool) → is_among r (option_to_list pointer) ≡ points → is_among r registers ≡ keeps
        → LacksContent e cfa (rule_under (abi_of registers pointer) rules) r
    go true keeps p k = by-pointer r p far
    go false true p k = by-kept r k far
    go false false p k =
        let role : abi_of registers pointer r ≡ unnamed =
        ap (λ (b : Bool). if b then stack_pointer else (if is_among r registers then kept else unnamed)) p
        ∙ ap (λ (b : Bool). if b then kept else unnamed) k in
        let same : rule_in rules r ≡ rule_under (abi_of registers pointer) rules r =
        or-default (rule_in rules r) ∙ ap (λ (x : Role). or_rule (rule_in rules r) (rule_of_role x)) (sym role) in
        let l = by-rules r far in (l.0, subst (λ (x : Rule). IsRegister e cfa r x l.0) same l.1, l.2)

-- whether a far register has a content, once none has that the ABI names
pub whether-far : (e : World) (cfa : Answer) (registers : List ℕ) (pointer : Option ℕ) (rules : List (ℕ × Rule)) (b : Bool)
    → ((r : ℕ) → is_among r registers ≡ true → PLACES ≤ r → LacksContent e cfa (rule_under (abi_of registers pointer) rules) r)
    → ((r : ℕ) → is_among r (option_to_list pointer) ≡ true → PLACES ≤ r → LacksContent e cfa (rule_under (abi_of registers pointer) rules) r)
    → MatchBool b (HasFarContent e cfa (rule_in rules)) (LacksFarContents e cfa (rule_in rules))
    → MatchBool b (HasFarContent e cfa (rule_under (abi_of registers pointer) rules))
    (LacksFarContents e cfa (rule_under (abi_of registers pointer) rules))
whether-far e cfa registers pointer rules true by-kept by-pointer has = far-by-row e cfa (abi_of registers pointer) rules has
whether-far e cfa registers pointer rules false by-kept by-pointer lacks = lacks-all e cfa registers pointer rules by-kept by-pointer lacks

-- ---- the caller

-- a far register with a content is among the registers of the caller
found-far : (answers : List (ℕ × Answer)) (r n : ℕ) → contents_of answers r ≡ Some n → PLACES ≤ r → Any IsFarContent answers
found-far [] r n is far = absurd (cc)
found-far (y ∷ answers) r n is far = go (y.0 == r) (same_number y.0 r) is (λ later. found-far answers r n later far)
  where
    go : (here : Bool) → (here ≡ true → y.0 ≡ r) → (if here then content_of y.1 else contents_of answers r) ≡ Some n
        → (contents_of answers r ≡ Some n → Any IsFarContent answers) → Any IsFarContent (y ∷ answers)
    go true same is later = (zero, y, omega arith, refl, (subst (λ (k : ℕ). PLACES ≤ k) (sym (same refl)) far, ap is_some is))
    go false same is later =
        let found = later is in (suc found.0, found.1, omega (arith, found.2), found.3, found.4)

-- a register with a content has a rule
not-default : (e : World) (cfa : Answer) (r n : ℕ) (x : Rule) → IsRegister e cfa r x (value n) → x ≢ default
not-default e cfa r n x is same =
    let none : value n ≡ undefined = subst (λ (y : Rule). IsRegister e cfa r y (value n)) same is in absurd (cc)

-- the caller by a row's rules, where one of its registers is far and has a content
pub caller-with-far : (e : World) (abi : Abi) (number : ℕ) (row : Row) (cfa : Answer) (rule : Cfa) (wanted : ℕ → Option ℕ)
    → ((abi : Abi) (rules : List (ℕ × Rule)) → All (λ entry. entry.1 ≡ rule_under abi rules entry.0) (rules_under abi rules))
    → ((abi : Abi) (rules : List (ℕ × Rule)) (r : ℕ) → r < 65536 → rule_in (rules_under abi rules) r ≡ rule_under abi rules r)
    → row.cfa ≡ Some rule → IsCfa e (Some rule) cfa → HasContents e cfa (rule_under abi row.rules) wanted
    → HasFarContent e cfa (rule_under abi row.rules)
    → (caller : Caller) × IsCaller e abi number row caller × Any IsFarContent caller.registers
caller-with-far e abi number row cfa rule wanted each all rule-is is has far =
    let f = rule_under abi row.rules in
    let rules = rules_under abi row.rules in
    let n = far.register in
    let x = Some far.content in
    let found = listed e cfa f (content_changed wanted n x) rules
    (has-again e cfa f n (value far.content) wanted (content_changed wanted n x) far.found has (λ r. refl))
    (recursion_from_All (λ (entry : ℕ × Rule). entry.1 ≡ f entry.0) rules (each abi row.rules)) in
    let there : contents_of found.0 n ≡ (if among n rules then x else None) =
    found.2 n ∙ ap (λ (b : Bool). if among n rules then (if b then x else wanted n) else None) (same-number n) in
    let back = has number in (
      record { cfa = cfa; registers = found.0; return_address = back.0 },
      record {
        cfa = subst (λ (o : Option Cfa). IsCfa e o cfa) (sym rule-is) is;
        registers = found.1;
        return_address = back.1;
      },
      found-far found.0 n far.content (there ∙ go (among n rules) refl) far.far,
    )
  where
    go : (b : Bool) → among far.register (rules_under abi row.rules) ≡ b → (if b then Some far.content else None) ≡ Some far.content
    go true is = refl
    go false none =
        absurd (not-default e cfa far.register far.content (rule_under abi row.rules far.register) far.found
        (sym (all abi row.rules far.register far.is_number) ∙ absent far.register (rules_under abi row.rules) none))
