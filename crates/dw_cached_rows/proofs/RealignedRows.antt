-- Rows of realigned stacks: an entry stands for one, and all for which it stands give the same callers.
use Rattle.std.proofs.Common.{◌==◌, ◌≡◌, ◌≢◌, ◌⊎◌, inl, inr, ℕ, zero, suc, ◌+◌, ◌<◌, ◌≤◌, ◌&&◌, ℤ, pos, negsuc, ◌+ℤ◌, Bool, true, false, if◌then◌else◌, List, [], ◌∷◌, ◌++◌, refl, sym, ap, subst, ◌∙◌, arith}
use Rattle.std.specs.Prelude.{Option, Some, None}
use Rattle.std.proofs.lemmas.Bool.{cases_lt, ne_eqb}
use Rattle.std.proofs.lemmas.Bool.Decides.{nat_tests}
use Rattle.dw_stack.specs.Located.{LocatedExpression}
use Rattle.dw_stack.specs.Paths.{Placed}
use Rattle.dw_stack.specs.declared.state.Kind.{Kind}
use Rattle.dw_stack.specs.declared.state.Kind.TheVariants.{FrameCfa, FrameRegister}
use Rattle.dw_eval.specs.World.{World}
use Rattle.dw_rules.specs.Abi.{Abi, or_rule, rule_of_role, rule_under}
use Rattle.dw_rules.specs.Rules.{Cfa, IsTable, Row, Rule, RuleOver, cfa_expression, default, expression, offset, register, rule_in, rule_list, rules_below, same_value, val_expression, val_offset, with_rule}
use Rattle.dw_rules.proofs.Tables.{IsTable-rule_list, rule_in-rule_list}
use Rattle.dw_unwind.specs.Caller.{Answer, AreRegisters, Gives, IsCfa, IsRegister, division_by_zero, machine, undefined, unreadable, value}
use Rattle.dw_cached_rows.specs.declared.packed_row.PackedRow.{PackedRow}
use Rattle.dw_cached_rows.specs.declared.packed_row.TheConstants.{REALIGNED}
use Rattle.dw_cached_rows.specs.PackedRows.{AreSmall, IsCoded, IsRealignedRowOf, IsSavedByRbp, address_operations, is_saved_small, is_small, little_64, word_byte, word_operations, words_for}
use Rattle.dw_cached_rows.specs.CachedRows.{GivesAt}
use Rattle.dw_cached_rows.proofs.CodedRuns.{coded-run, run-coded}
use Rattle.dw_cached_rows.proofs.RealignedCallers.{no-words}
use Rattle.dw_cached_rows.proofs.Words.{coded}

-- ---- a row for which the entry stands

abbrev expression_by : List ℕ → LocatedExpression
expression_by bytes = record { offset = 0; kind = FrameRegister; target = little_64; bytes = bytes }

abbrev address_expression : ℤ → LocatedExpression
address_expression words = expression_by (0x76 ∷ word_byte words ∷ [])

abbrev word_expression : ℤ → LocatedExpression
word_expression words = expression_by (0x76 ∷ word_byte words ∷ 0x06 ∷ [])

address-coded : (words : ℤ) → is_small words ≡ true → IsCoded (address_operations words) 2 (address_expression words)
address-coded words small = record { target = refl; are = (coded words small).0; long = refl }

word-coded : (words : ℤ) → is_small words ≡ true → IsCoded (word_operations words) 3 (word_expression words)
word-coded words small = record { target = refl; are = (coded words small).1; long = refl }

abbrev by_words : ℤ → Rule
by_words (pos zero) = default
by_words k = expression (address_expression (k +ℤ pos 1))

abbrev rule_for : PackedRow → ℕ → Rule
rule_for p r = if 16 == r then offset (negsuc 7) else by_words (words_for p r)

abbrev pub realigned_row : PackedRow → Row
realigned_row p = record { start = 0; end = 0; cfa = Some (cfa_expression (word_expression p.cfa_offset)); rules = rule_list (rule_for p) }

saved-by : (k : ℤ) → is_saved_small k ≡ true → IsSavedByRbp k (by_words k)
saved-by (pos zero) small = refl
saved-by (pos (suc n)) small = (address_expression (pos (suc n) +ℤ pos 1), refl, address-coded (pos (suc n) +ℤ pos 1) small)
saved-by (negsuc n) small = (address_expression (negsuc n +ℤ pos 1), refl, address-coded (negsuc n +ℤ pos 1) small)

none-far : (low : ℕ) (rules : List (ℕ × Rule)) (r : ℕ) → IsTable low rules → 65536 ≤ r → rule_in rules r ≡ default
none-far low [] r table le = refl
none-far low (entry ∷ rules) r table le = go (entry.0 == r) refl (none-far (entry.0 + 1) rules r table.3 le)
  where
    go : (here : Bool) → (entry.0 == r) ≡ here → rule_in rules r ≡ default → (if here then entry.1 else rule_in rules r) ≡ default
    go true same later = absurd (grind (arith, same, le, table.1))
    go false same later = later

picked : (b : Bool) (k rest : ℤ) → is_saved_small k ≡ true → is_saved_small rest ≡ true → is_saved_small (if b then k else rest) ≡ true
picked true k rest here other = here
picked false k rest here other = other

parts : (a b : Bool) → (a && b) ≡ true → (a ≡ true) × (b ≡ true)
parts true true is = (refl, refl)
parts true false is = absurd (cc)
parts false b is = absurd (cc)

-- what is small of each register, and of the CFA
pub saved-small : (p : PackedRow) → AreSmall p → (is_small p.cfa_offset ≡ true) × ((r : ℕ) → is_saved_small (words_for p r) ≡ true)
saved-small p small =
    let a = parts _ (is_saved_small p.r15) small in
    let b = parts _ (is_saved_small p.r14) a.0 in
    let c = parts _ (is_saved_small p.r13) b.0 in
    let d = parts (is_small p.cfa_offset && is_saved_small p.rbx && is_saved_small p.rbp) (is_saved_small p.r12) c.0 in
    let e = parts (is_small p.cfa_offset && is_saved_small p.rbx) (is_saved_small p.rbp) d.0 in
    let f = parts (is_small p.cfa_offset) (is_saved_small p.rbx) e.0 in (
      f.0,
      λ r. picked (3 == r) p.rbx _ f.1 (picked (6 == r) p.rbp _ e.1 (picked (12 == r) p.r12 _ d.1 (picked (13 == r) p.r13 _ c.1
          (picked (14 == r) p.r14 _ b.1 (picked (15 == r) p.r15 (pos 0) a.1 refl))))),
    )

pub is-realigned : (p : PackedRow) → p.form ≡ REALIGNED → AreSmall p → IsRealignedRowOf p (realigned_row p)
is-realigned p form small = record {
  form = form;
  expression = word_expression p.cfa_offset;
  cfa = refl;
  is = word-coded p.cfa_offset (saved-small p small).0;
  saved = λ r differs. elim (cases_lt r 65536) [
    | inl low ↦ near r differs low
    | inr high ↦ subst (λ (k : ℤ). IsSavedByRbp k (rule_in (rule_list (rule_for p)) r)) (sym (no-words p r high))
        (none-far 0 (rule_list (rule_for p)) r (IsTable-rule_list (rule_for p)) high)
  ];
  returns = rule_in-rule_list (rule_for p) 16 (omega arith);
}
  where
    near : (r : ℕ) → r ≢ 16 → r < 65536 → IsSavedByRbp (words_for p r) (rule_in (rule_list (rule_for p)) r)
    near r differs low =
        let other : (16 == r) ≡ false = ne_eqb 16 r (λ same. differs (sym same)) in
        let rule : rule_in (rule_list (rule_for p)) r ≡ by_words (words_for p r) =
        rule_in-rule_list (rule_for p) r low ∙ ap (λ (b : Bool). if b then offset (negsuc 7) else by_words (words_for p r)) other in
        subst (IsSavedByRbp (words_for p r)) (sym rule) (saved-by (words_for p r) ((saved-small p small).1 r))

-- ---- all such rows give the same callers

-- one rule gives the answers that the other gives, and one is default if the other is
pub record GivesAnswers (e : World) (cfa : Answer) (r : ℕ) (one other : Rule) : Type 0 where
  pub answers : (a : Answer) → IsRegister e cfa r one a → IsRegister e cfa r other a
  pub none : (one ≡ default) → other ≡ default
  pub some : (one ≢ default) → other ≢ default

is-default : (x : Rule) → (x ≡ default) ⊎ (x ≢ default)
is-default default = inl refl
is-default RuleOver.undefined = inr (λ is. absurd (cc))
is-default same_value = inr (λ is. absurd (cc))
is-default (offset n) = inr (λ is. absurd (cc))
is-default (val_offset n) = inr (λ is. absurd (cc))
is-default (register n) = inr (λ is. absurd (cc))
is-default (expression n) = inr (λ is. absurd (cc))
is-default (val_expression n) = inr (λ is. absurd (cc))

with-some : (r : ℕ) (x : Rule) → x ≢ default → with_rule r x ≡ (r, x) ∷ []
with-some r default some = absurd (some refl)
with-some r RuleOver.undefined some = refl
with-some r same_value some = refl
with-some r (offset n) some = refl
with-some r (val_offset n) some = refl
with-some r (register n) some = refl
with-some r (expression n) some = refl
with-some r (val_expression n) some = refl

-- the answers of two lists of rules, one after the other
pub record Parts (e : World) (cfa : Answer) (xs ys : List (ℕ × Rule)) (answers : List (ℕ × Answer)) : Type 0 where
  pub before : List (ℕ × Answer)
  pub after : List (ℕ × Answer)
  pub whole : answers ≡ before ++ after
  pub firsts : AreRegisters e cfa xs before
  pub others : AreRegisters e cfa ys after

split : (e : World) (cfa : Answer) (xs ys : List (ℕ × Rule)) (answers : List (ℕ × Answer)) → AreRegisters e cfa (xs ++ ys) answers
    → Parts e cfa xs ys answers
split e cfa [] ys answers are = record { before = []; after = answers; whole = refl; firsts = tt; others = are }
split e cfa (x ∷ xs) ys [] are = absurd are
split e cfa (x ∷ xs) ys (a ∷ answers) are =
    let rest = split e cfa xs ys answers are.2 in
    record {
      before = a ∷ rest.before;
      after = rest.after;
      whole = ap (λ (l : List (ℕ × Answer)). a ∷ l) rest.whole;
      firsts = (are.0, are.1, rest.firsts);
      others = rest.others;
    }

join : (e : World) (cfa : Answer) (xs ys : List (ℕ × Rule)) (before after : List (ℕ × Answer)) → AreRegisters e cfa xs before
    → AreRegisters e cfa ys after → AreRegisters e cfa (xs ++ ys) (before ++ after)
join e cfa [] ys [] after firsts others = others
join e cfa [] ys (a ∷ before) after firsts others = absurd firsts
join e cfa (x ∷ xs) ys [] after firsts others = absurd firsts
join e cfa (x ∷ xs) ys (a ∷ before) after firsts others = (firsts.0, firsts.1, join e cfa xs ys before after firsts.2 others)

one-rule : (e : World) (cfa : Answer) (r : ℕ) (one other : Rule) (answers : List (ℕ × Answer)) → GivesAnswers e cfa r one other
    → AreRegisters e cfa (with_rule r one) answers → AreRegisters e cfa (with_rule r other) answers
one-rule e cfa r one other answers gives are = elim (is-default one) [
  | inl none ↦
      let same : with_rule r one ≡ with_rule r other = ap (with_rule r) none ∙ sym (ap (with_rule r) (gives.none none)) in
      subst (λ (l : List (ℕ × Rule)). AreRegisters e cfa l answers) same are
  | inr some ↦
      let given : AreRegisters e cfa ((r, one) ∷ []) answers = subst (λ (l : List (ℕ × Rule)). AreRegisters e cfa l answers) (with-some r one some) are in
      subst (λ (l : List (ℕ × Rule)). AreRegisters e cfa l answers) (sym (with-some r other (gives.some some))) (go answers given)
]
  where
    go : (answers : List (ℕ × Answer)) → AreRegisters e cfa ((r, one) ∷ []) answers → AreRegisters e cfa ((r, other) ∷ []) answers
    go [] given = given
    go (a ∷ rest) given = (given.0, gives.answers a.1 given.1, given.2)

below : (e : World) (cfa : Answer) (f g : ℕ → Rule) → ((r : ℕ) → GivesAnswers e cfa r (f r) (g r)) → (n : ℕ) (answers : List (ℕ × Answer))
    → AreRegisters e cfa (rules_below n f) answers → AreRegisters e cfa (rules_below n g) answers
below e cfa f g gives zero answers are = are
below e cfa f g gives (suc n) answers are =
    let parts = split e cfa (rules_below n f) (with_rule n (f n)) answers are in
    subst (AreRegisters e cfa (rules_below n g ++ with_rule n (g n))) (sym parts.whole)
    (join e cfa (rules_below n g) (with_rule n (g n)) parts.before parts.after (below e cfa f g gives n parts.before parts.firsts)
    (one-rule e cfa n (f n) (g n) parts.after (gives n) parts.others))

listed : (e : World) (cfa : Answer) (f g : ℕ → Rule) (answers : List (ℕ × Answer)) → ((r : ℕ) → GivesAnswers e cfa r (f r) (g r))
    → AreRegisters e cfa (rule_list f) answers → AreRegisters e cfa (rule_list g) answers
unfolding rule_list
listed e cfa f g answers gives are = below e cfa f g gives 65536 answers are

same-gives : (e : World) (cfa : Answer) (r : ℕ) (one other : Rule) → one ≡ other → GivesAnswers e cfa r one other
same-gives e cfa r one other same = record {
  answers = λ a is. subst (λ (x : Rule). IsRegister e cfa r x a) same is;
  none = λ is. sym same ∙ is;
  some = λ differs is. differs (same ∙ is);
}

moved : (registers memory : ℕ → Option ℕ) (cfa : Option ℕ) (kind : Kind) (ops : List Placed) (size : ℕ) (x y : LocatedExpression) (a : Answer)
    → IsCoded ops size x → IsCoded ops size y
    → Gives (record { target = little_64; registers = registers; memory = memory; cfa = cfa; frame_base = None; object = None }) kind x a
    → Gives (record { target = little_64; registers = registers; memory = memory; cfa = cfa; frame_base = None; object = None }) kind y a
moved registers memory cfa kind ops size x y a x-is y-is gives = (
  gives.0,
  gives.1,
  coded-run registers memory cfa kind ops size y gives.0 gives.1 y-is (run-coded registers memory cfa kind ops size x gives.0 gives.1 x-is gives.2),
  gives.3,
)

expressions-give : (registers memory : ℕ → Option ℕ) (cfa : Answer) (r : ℕ) (ops : List Placed) (size : ℕ) (x y : LocatedExpression) (one other : Rule)
    → one ≡ expression x → other ≡ expression y → IsCoded ops size x → IsCoded ops size y
    → GivesAnswers (machine little_64 registers memory) cfa r one other
expressions-give registers memory cfa r ops size x y one other one-is other-is x-is y-is = record {
  answers = λ a is. subst (λ (rule : Rule). IsRegister e cfa r rule a) (sym other-is)
      (go cfa a (subst (λ (rule : Rule). IsRegister e cfa r rule a) one-is is));
  none = λ is. absurd (cc (one-is, is));
  some = λ differs is. absurd (cc (other-is, is));
}
  where
    e : World
    e = machine little_64 registers memory

    go : (cfa a : Answer) → IsRegister (machine little_64 registers memory) cfa r (expression x) a
        → IsRegister (machine little_64 registers memory) cfa r (expression y) a
    go (value c) a is = (is.0, moved registers memory (Some c) FrameRegister ops size x y is.0 x-is y-is is.1, is.2)
    go undefined a is = is
    go unreadable a is = is
    go division_by_zero a is = is

each-gives : (registers memory : ℕ → Option ℕ) (cfa : Answer) (abi : Abi) (p : PackedRow) (row held : Row) (r : ℕ) → IsRealignedRowOf p held
    → IsRealignedRowOf p row
    → GivesAnswers (machine little_64 registers memory) cfa r (rule_under abi held.rules r) (rule_under abi row.rules r)
each-gives registers memory cfa abi p row held r held-is row-is = go (16 == r) refl
  where
    e : World
    e = machine little_64 registers memory

    by-kind : (k : ℤ) (one other : Rule) → IsSavedByRbp k one → IsSavedByRbp k other
        → GivesAnswers (machine little_64 registers memory) cfa r (or_rule one (rule_of_role (abi r))) (or_rule other (rule_of_role (abi r)))
    by-kind (pos zero) one other a b =
        same-gives (machine little_64 registers memory) cfa r (or_rule one (rule_of_role (abi r))) (or_rule other (rule_of_role (abi r)))
        (ap (λ (x : Rule). or_rule x (rule_of_role (abi r))) (a ∙ sym b))
    by-kind (pos (suc n)) one other a b =
        expressions-give registers memory cfa r (address_operations (pos (suc n) +ℤ pos 1)) 2 a.0 b.0 (or_rule one (rule_of_role (abi r)))
        (or_rule other (rule_of_role (abi r))) (ap (λ (x : Rule). or_rule x (rule_of_role (abi r))) a.1)
        (ap (λ (x : Rule). or_rule x (rule_of_role (abi r))) b.1) a.2 b.2
    by-kind (negsuc n) one other a b =
        expressions-give registers memory cfa r (address_operations (negsuc n +ℤ pos 1)) 2 a.0 b.0 (or_rule one (rule_of_role (abi r)))
        (or_rule other (rule_of_role (abi r))) (ap (λ (x : Rule). or_rule x (rule_of_role (abi r))) a.1)
        (ap (λ (x : Rule). or_rule x (rule_of_role (abi r))) b.1) a.2 b.2

    go : (b : Bool) → (16 == r) ≡ b
        → GivesAnswers (machine little_64 registers memory) cfa r (rule_under abi held.rules r) (rule_under abi row.rules r)
    go true same =
        let at : 16 ≡ r = grind (arith, nat_tests, same) in
        let rules : rule_in held.rules r ≡ rule_in row.rules r =
        ap (rule_in held.rules) (sym at) ∙ held-is.returns ∙ sym row-is.returns ∙ ap (rule_in row.rules) at in
        same-gives (machine little_64 registers memory) cfa r (rule_under abi held.rules r) (rule_under abi row.rules r)
        (ap (λ (x : Rule). or_rule x (rule_of_role (abi r))) rules)
    go false other =
        let differs : r ≢ 16 = λ at. absurd (cc (other, ap (λ (n : ℕ). 16 == n) at)) in
        by-kind (words_for p r) (rule_in held.rules r) (rule_in row.rules r) (held-is.saved r differs) (row-is.saved r differs)

pub both-realigned : (p : PackedRow) (address : ℕ) (row held : Row) → IsRealignedRowOf p row → IsRealignedRowOf p held → GivesAt address held row
both-realigned p address row held row-is held-is registers memory abi caller knows called =
    let e = machine little_64 registers memory in
    let given : Gives e FrameCfa held-is.expression caller.cfa = subst (λ (rule : Option Cfa). IsCfa e rule caller.cfa) held-is.cfa called.cfa in
    let cfa = moved registers memory None FrameCfa (word_operations p.cfa_offset) 3 held-is.expression row-is.expression caller.cfa held-is.is row-is.is given in
    let returns : rule_under abi held.rules 16 ≡ rule_under abi row.rules 16 =
    ap (λ (x : Rule). or_rule x (rule_of_role (abi 16))) (held-is.returns ∙ sym row-is.returns) in
    record {
      cfa = subst (λ (rule : Option Cfa). IsCfa e rule caller.cfa) (sym row-is.cfa) cfa;
      registers = listed e caller.cfa (rule_under abi held.rules) (rule_under abi row.rules) caller.registers
          (λ r. each-gives registers memory caller.cfa abi p row held r held-is row-is) called.registers;
      return_address = subst (λ (rule : Rule). IsRegister e caller.cfa 16 rule caller.return_address) returns called.return_address;
    }
