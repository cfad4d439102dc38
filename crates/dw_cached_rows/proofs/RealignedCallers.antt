-- A row of a realigned stack gives a caller.
use Rattle.std.proofs.Common.{◌==◌, ◌≡◌, ◌≢◌, ℕ, zero, suc, ◌+◌, ◌<◌, ◌≤◌, ◌^◌, ◌%◌, nat_le, ℤ, pos, negsuc, ◌+ℤ◌, Bool, true, false, if◌then◌else◌, List, [], ◌∷◌, refl, sym, ap, subst, ◌∙◌, arith}
use Rattle.std.specs.Prelude.{All, Option, Some, None, Ok, Err}
use Rattle.std.proofs.lemmas.Bool.{ne_eqb}
use Rattle.std.proofs.lemmas.Bool.Decides.{nat_tests}
use Rattle.dw_bytes.specs.declared.target.Order.TheVariants.{Little}
use Rattle.dw_stack.specs.Located.{LocatedExpression}
use Rattle.dw_stack.specs.Machine.{Unreadable}
use Rattle.dw_stack.specs.declared.state.Kind.TheVariants.{FrameCfa, FrameRegister}
use Rattle.dw_eval.specs.Numbers.{wrap}
use Rattle.dw_eval.specs.Results as results
use Rattle.dw_eval.specs.Values.{if_present, load_bytes, push}
use Rattle.dw_eval.specs.World.{World, number_at}
use Rattle.dw_rules.specs.Abi.{Abi, Role, kept, or_rule, rule_of_role, rule_under, rules_under, stack_pointer, unnamed}
use Rattle.dw_rules.specs.Rules.{Row, Rule, cfa_expression, default, expression, offset, rule_in}
use Rattle.dw_unwind.specs.Caller.{Answer, Gives, IsCaller, IsCfa, IsRegister, content_plus, machine, unreadable, value, word}
use Rattle.dw_unwind.specs.DirectAnswers.{direct_answer}
use Rattle.dw_unwind.specs.Walks.{content_of, contents_of}
use Rattle.dw_unwind.proofs.Contents.{by_contents}
use Rattle.dw_cached_rows.specs.declared.packed_row.PackedRow.{PackedRow}
use Rattle.dw_cached_rows.specs.PackedRows.{IsCoded, IsRealignedRowOf, IsSavedByRbp, address_operations, little_64, word_operations, words_for}
use Rattle.dw_cached_rows.specs.CachedWalks.{address_by, word_at, x86_64}
use Rattle.dw_cached_rows.proofs.CodedRuns.{coded-run, world}
use Rattle.dw_cached_rows.proofs.Steps.{names}
use Rattle.dw_cached_rows.proofs.WordRuns.{address-run, word-run}

-- what dw_rules says of the rules that an ABI adds to
abbrev pub EachUnder : Type 0
EachUnder = (abi : Abi) (rules : List (ℕ × Rule)) → All (λ entry. entry.1 ≡ rule_under abi rules entry.0) (rules_under abi rules)

abbrev pub AllUnder : Type 0
AllUnder = (abi : Abi) (rules : List (ℕ × Rule)) (r : ℕ) → r < 65536 → rule_in (rules_under abi rules) r ≡ rule_under abi rules r

-- ---- the CFA

-- a word that is known is what an expression reads
loaded : (registers memory : ℕ → Option ℕ) (a v : ℕ) → word_at memory a ≡ Some v → load_bytes (world registers memory None) a 8 ≡ Ok (v ∷ [])
loaded registers memory a v known = go (nat_le (a + 8) (2 ^ 64)) (number_at memory Little a 8) known
  where
    go : (b : Bool) (o : Option ℕ)
        → content_of (if b then content_plus (machine little_64 (λ r. None) memory) (pos 0) o else unreadable) ≡ Some v
        → (if b then if_present o (λ n. push (world registers memory None) (pos n)) else Err Unreadable) ≡ Ok (v ∷ [])
    go true None is = absurd (cc)
    go true (Some n) is =
        let whole : wrap 64 (pos n) ≡ wrap 64 (pos n +ℤ pos 0) = ap (λ (m : ℕ). m % 2 ^ 64) (omega arith) in
        let same : wrap 64 (pos n +ℤ pos 0) ≡ v = cc in
        ap (λ (m : ℕ). Ok (m ∷ [])) (whole ∙ same)
    go false o is = absurd (cc)

cfa-is : (registers memory : ℕ → Option ℕ) (base cfa : ℕ) (words : ℤ) (x : LocatedExpression) → IsCoded (word_operations words) 3 x
    → registers 6 ≡ Some base → word_at memory (address_by base words) ≡ Some cfa
    → Gives (machine little_64 registers memory) FrameCfa x (value cfa)
cfa-is registers memory base cfa words x is known read = (
  results.value cfa,
  2,
  coded-run registers memory None FrameCfa (word_operations words) 3 x (results.value cfa) 2 is
      (word-run registers memory base cfa words known (loaded registers memory (address_by base words) cfa read)),
  refl,
)

-- ---- each register

-- the answer for a register of this role, with these words in the entry
abbrev pub saved_answer : World → ℕ → ℕ → Role → ℕ → ℤ → Answer
saved_answer e base cfa role r (pos zero) = direct_answer e cfa r (rule_of_role role)
saved_answer e base cfa role r k = word e (address_by base (k +ℤ pos 1))

by-role : (e : World) (cfa r : ℕ) (role : Role) (rule : Rule) → rule ≡ default
    → IsRegister e (value cfa) r (or_rule rule (rule_of_role role)) (direct_answer e cfa r (rule_of_role role))
by-role e cfa r role rule is = subst (λ (x : Rule). IsRegister e (value cfa) r (or_rule x (rule_of_role role)) (direct_answer e cfa r (rule_of_role role))) (sym is) (go role)
  where
    go : (role : Role) → IsRegister e (value cfa) r (rule_of_role role) (direct_answer e cfa r (rule_of_role role))
    go unnamed = refl
    go kept = refl
    go stack_pointer = refl

by-address : (registers memory : ℕ → Option ℕ) (base cfa r : ℕ) (words : ℤ) (role : Role) (rule : Rule) (x : LocatedExpression)
    → rule ≡ expression x → IsCoded (address_operations words) 2 x → registers 6 ≡ Some base
    → IsRegister (machine little_64 registers memory) (value cfa) r (or_rule rule (rule_of_role role))
    (word (machine little_64 registers memory) (address_by base words))
by-address registers memory base cfa r words role rule x rule-is is known =
    let e = machine little_64 registers memory in
    let a = address_by base words in
    subst (λ (y : Rule). IsRegister e (value cfa) r (or_rule y (rule_of_role role)) (word e a)) (sym rule-is) (
      value a,
      (
        results.value a,
        1,
        coded-run registers memory (Some cfa) FrameRegister (address_operations words) 2 x (results.value a) 1 is
            (address-run registers memory cfa base words known),
        refl,
      ),
      refl,
    )

saved-is : (registers memory : ℕ → Option ℕ) (base cfa r : ℕ) (k : ℤ) (role : Role) (rule : Rule) → IsSavedByRbp k rule
    → registers 6 ≡ Some base
    → IsRegister (machine little_64 registers memory) (value cfa) r (or_rule rule (rule_of_role role))
    (saved_answer (machine little_64 registers memory) base cfa role r k)
saved-is registers memory base cfa r (pos zero) role rule is known = by-role (machine little_64 registers memory) cfa r role rule is
saved-is registers memory base cfa r (pos (suc n)) role rule is known =
    by-address registers memory base cfa r (pos (suc n) +ℤ pos 1) role rule is.0 is.1 is.2 known
saved-is registers memory base cfa r (negsuc n) role rule is known =
    by-address registers memory base cfa r (negsuc n +ℤ pos 1) role rule is.0 is.1 is.2 known

-- the answer for each register
abbrev pub answer : (ℕ → Option ℕ) → (ℕ → Option ℕ) → ℕ → ℕ → PackedRow → ℕ → Answer
answer registers memory base cfa p r = if 16 == r then word (machine little_64 registers memory) (wrap 64 (pos cfa +ℤ negsuc 7))
    else saved_answer (machine little_64 registers memory) base cfa (x86_64 r) r (words_for p r)

each-answer : (registers memory : ℕ → Option ℕ) (base cfa : ℕ) (p : PackedRow) (row : Row) (r : ℕ) → IsRealignedRowOf p row
    → registers 6 ≡ Some base
    → IsRegister (machine little_64 registers memory) (value cfa) r (rule_under x86_64 row.rules r) (answer registers memory base cfa p r)
each-answer registers memory base cfa p row r is known = go (16 == r) refl
  where
    go : (b : Bool) → (16 == r) ≡ b → IsRegister (machine little_64 registers memory) (value cfa) r (rule_under x86_64 row.rules r)
        (if b then word (machine little_64 registers memory) (wrap 64 (pos cfa +ℤ negsuc 7))
        else saved_answer (machine little_64 registers memory) base cfa (x86_64 r) r (words_for p r))
    go true same =
        let at : 16 ≡ r = grind (arith, nat_tests, same) in
        let rule : rule_in row.rules r ≡ offset (negsuc 7) = ap (rule_in row.rules) (sym at) ∙ is.returns in
        subst (λ (x : Rule). IsRegister (machine little_64 registers memory) (value cfa) r (or_rule x (rule_of_role (x86_64 r)))
        (word (machine little_64 registers memory) (wrap 64 (pos cfa +ℤ negsuc 7)))) (sym rule) refl
    go false other =
        let differs : r ≢ 16 = λ at. absurd (cc (other, ap (λ (n : ℕ). 16 == n) at)) in
        saved-is registers memory base cfa r (words_for p r) (x86_64 r) (rule_in row.rules r) (is.saved r differs) known

-- a register past those with 16 bits has no content
pub no-words : (p : PackedRow) (r : ℕ) → 65536 ≤ r → words_for p r ≡ pos 0
no-words p r le =
    let ne : (n : ℕ) → n < 17 → (n == r) ≡ false = λ n low. ne_eqb n r (λ same. omega (arith, same, low, le)) in
    rw (ne 3 (omega arith), ne 6 (omega arith), ne 12 (omega arith), ne 13 (omega arith), ne 14 (omega arith), ne 15 (omega arith)) refl

far : (registers memory : ℕ → Option ℕ) (base cfa : ℕ) (p : PackedRow) (r : ℕ) → 65536 ≤ r
    → content_of (answer registers memory base cfa p r) ≡ None
far registers memory base cfa p r le =
    let e = machine little_64 registers memory in
    let other : (16 == r) ≡ false = ne_eqb 16 r (λ same. omega (arith, same, le)) in
    ap (λ (b : Bool). content_of (if b then word e (wrap 64 (pos cfa +ℤ negsuc 7))
    else saved_answer e base cfa (x86_64 r) r (words_for p r))) other
    ∙ ap (λ (k : ℤ). content_of (saved_answer e base cfa (x86_64 r) r k)) (no-words p r le)
    ∙ ap (λ (role : Role). content_of (direct_answer e cfa r (rule_of_role role))) (names r le)

-- ---- the caller

pub record HasCaller (registers memory : ℕ → Option ℕ) (base cfa : ℕ) (p : PackedRow) (row : Row) : Type 0 where
  pub list : List (ℕ × Answer)
  pub is : IsCaller (machine little_64 registers memory) x86_64 16 row
      (record { cfa = value cfa; registers = list; return_address = answer registers memory base cfa p 16 })
  pub contents : (r : ℕ) → contents_of list r ≡ content_of (answer registers memory base cfa p r)

pub realigned-caller : EachUnder → AllUnder → (registers memory : ℕ → Option ℕ) (base cfa : ℕ) (p : PackedRow) (row : Row)
    → IsRealignedRowOf p row → registers 6 ≡ Some base → word_at memory (address_by base p.cfa_offset) ≡ Some cfa
    → HasCaller registers memory base cfa p row
realigned-caller each all registers memory base cfa p row is known read =
    let e = machine little_64 registers memory in
    let a = answer registers memory base cfa p in
    let gives : IsCfa e (Some (cfa_expression is.expression)) (value cfa) = cfa-is registers memory base cfa p.cfa_offset is.expression is.is known read in
    let made = by_contents e x86_64 16 row (value cfa) (a 16) (cfa_expression is.expression) (λ r. content_of (a r)) each all is.cfa gives
    (λ r. (a r, each-answer registers memory base cfa p row r is known, refl)) (λ r le. far registers memory base cfa p r le)
    (each-answer registers memory base cfa p row 16 is known) in
    record {
      list = made.0;
      is = made.1;
      contents = λ r. ap (λ (f : ℕ → Option ℕ). f r) made.2;
    }
