-- A step of a walk that keeps two registers is that of the definition.
use Rattle.std.proofs.Common.{◌==◌, ◌≡◌, ◌≢◌, inl, inr, ℕ, zero, suc, ◌+◌, ◌<◌, ◌^◌, ◌%◌, nat_lt, ℤ, pos, negsuc, ◌+ℤ◌, Bool, true, false, if◌then◌else◌, List, refl, sym, ap, subst, ◌∙◌, arith, nat_le}
use Rattle.std.specs.Prelude.{Option, Some, None, option_map}
use Rattle.std.proofs.lemmas.Bool.Decides.{nat_tests}
use Rattle.dw_eval.specs.Numbers.{wrap}
use Rattle.dw_bytes.specs.Encoding.{bytes_of_address}
use Rattle.dw_bytes.specs.declared.target.Order.TheVariants.{Little}
use Rattle.dw_eval.specs.World.{World, number_at, width}
use Rattle.dw_rules.specs.Abi.{Abi, or_rule, rule_of_role}
use Rattle.dw_rules.specs.Rules.{Row, Rule, RuleOver, IsTable, default, offset, register_and_offset, rule_in}
use Rattle.dw_unwind.specs.Caller.{Answer, Caller, value, undefined, unreadable, division_by_zero, machine, content_plus, number_plus, word}
use Rattle.dw_unwind.specs.DirectAnswers.{AreDirect, HasDirectCaller, NamesRegisters, answer_under, direct_answer}
use Rattle.dw_unwind.specs.Walks.{Place, address_before, content_of, place_of_caller, stop_of_return}
use Rattle.dw_unwind.specs.declared.frames.Stop.TheVariants.{ReturnUndefined, ReturnUnreadable}
use Rattle.dw_cached_rows.specs.declared.packed_row.PackedRow.{PackedRow}
use Rattle.dw_cached_rows.specs.declared.packed_row.TheConstants.{LAST, REALIGNED}
use Rattle.dw_cached_rows.specs.declared.stack_place.StackPlace.{StackPlace}
use Rattle.dw_cached_rows.specs.declared.stack_place.Step.TheVariants as steps
use Rattle.dw_cached_rows.specs.PackedRows.{IsRealignedRowOf, IsRowOf, IsWalkedRowOf, little_64, rules_of, saving_rules}
use Rattle.dw_cached_rows.specs.CachedWalks.{EndsHere, IsAt, IsStep, caller_frame_pointer, frame_pointer_in, word_at, x86_64}
use Rattle.dw_cached_rows.proofs.Rules.{direct-of, last-of, rbp-rule, return-rule, rsp-rule, rule_by, saving-of, table-of}

-- what dw_unwind says of rows without expressions
abbrev pub Callers : Type 0
Callers = (e : World) (abi : Abi) (column : ℕ) (row : Row) (base content : ℕ) (by : ℤ) → NamesRegisters abi → IsTable 0 row.rules
    → AreDirect row.rules → row.cfa ≡ Some (register_and_offset base by) → e.registers base ≡ Some content
    → HasDirectCaller e abi column row (number_plus e by content)

pub names : NamesRegisters x86_64
names r le = grind (arith, nat_tests, le)

-- the world of a frame
abbrev pub world : (ℕ → Option ℕ) → Place → World
world memory p = machine little_64 p.registers memory

-- a row that was packed gives a caller, if the register of its CFA has a content
pub caller-by : Callers → (memory : ℕ → Option ℕ) (packed : PackedRow) (full : Row) (p : Place) (base : ℕ) → IsRowOf packed full
    → p.registers (packed.form % LAST) ≡ Some base
    → HasDirectCaller (world memory p) x86_64 16 full (wrap 64 (pos base +ℤ packed.cfa_offset))
caller-by callers memory packed full p base is known =
    callers (world memory p) x86_64 16 full (packed.form % LAST) base packed.cfa_offset names
    (subst (λ (rules : List (ℕ × Rule)). IsTable 0 rules) (sym is.rules) (table-of packed))
    (subst AreDirect (sym is.rules) (direct-of packed)) is.cfa known

-- ---- rows for which an entry stands

-- an entry that isn't that of a realigned stack stands for a row
pub direct-row : (p : PackedRow) → p.form ≢ 0 → p.form ≢ REALIGNED → (full : Row) × IsWalkedRowOf p full
direct-row p some usual = (
  record { start = 0; end = 0; cfa = Some (register_and_offset (p.form % LAST) p.cfa_offset); rules = rules_of p },
  inl (record { some = some; usual = usual; cfa = refl; rules = refl }),
)

pub usual-of : (p : PackedRow) (full : Row) (n : ℕ) → p.form ≡ n → (n ≡ REALIGNED → ⊥) → IsWalkedRowOf p full → IsRowOf p full
usual-of p full n form other (inl is) = is
usual-of p full n form other (inr is) = absurd (other (sym form ∙ is.form))

pub realigned-of : (p : PackedRow) (full : Row) → p.form ≡ REALIGNED → IsWalkedRowOf p full → IsRealignedRowOf p full
realigned-of p full form (inl is) = absurd (is.usual form)
realigned-of p full form (inr is) = is

-- ---- contents of 64 bits

mod-id : (n : ℕ) → n < 2 ^ 64 → n % 2 ^ 64 ≡ n
mod-id n lt = omega (arith, lt)

pub same-number : (n : ℕ) → n < 2 ^ 64 → wrap 64 (pos n +ℤ pos 0) ≡ n
same-number n lt = mod-id (n + 0) (omega (arith, lt)) ∙ omega arith

abbrev pub Fits : Option ℕ → Type 0
Fits None = Unit {0}
Fits (Some n) = n < 2 ^ 64

-- what a register that keeps its content has in the caller
pub kept-content : (memory : ℕ → Option ℕ) (p : Place) (o : Option ℕ) → Fits o → content_of (content_plus (world memory p) (pos 0) o) ≡ o
kept-content memory p None fits = refl
kept-content memory p (Some n) fits = ap (λ (m : ℕ). Some m) (same-number n fits)

below-64 : (n : ℕ) → n % 2 ^ 64 < 2 ^ 64
below-64 n = omega arith

plus-fits : (memory : ℕ → Option ℕ) (p : Place) (o : Option ℕ) → Fits (content_of (content_plus (world memory p) (pos 0) o))
plus-fits memory p None = tt
plus-fits memory p (Some n) = below-64 (n + 0)

pub word-fits : (memory : ℕ → Option ℕ) (a : ℕ) → Fits (word_at memory a)
word-fits memory a = go (nat_le (a + 8) (2 ^ 64))
  where
    go : (b : Bool) → Fits (content_of (if b then content_plus (machine little_64 (λ r. None) memory) (pos 0)
        (number_at memory Little a 8) else unreadable))
    go true = plus-fits memory (record { address = 0; looked_up = None; registers = λ r. None }) (number_at memory Little a 8)
    go false = tt

pub pointer-fits : (memory : ℕ → Option ℕ) (here : StackPlace) → here.frame_pointer < 2 ^ 64 → Fits (frame_pointer_in memory here)
pointer-fits memory here below = go (here.is_saved == 0)
  where
    go : (b : Bool) → Fits (if b then Some here.frame_pointer else word_at memory here.frame_pointer)
    go true = below
    go false = word-fits memory here.frame_pointer

value-of : (a : Answer) (n : ℕ) → content_of a ≡ Some n → a ≡ value n
value-of (value k) n is = cc
value-of undefined n is = absurd (cc)
value-of unreadable n is = absurd (cc)
value-of division_by_zero n is = absurd (cc)

wrap-below : (z : ℤ) → wrap 64 z < 2 ^ 64
wrap-below (pos n) = below-64 n
wrap-below (negsuc n) = omega arith

pub plus-below : (n : ℕ) (z : ℤ) → n ≡ wrap 64 z → n < 2 ^ 64
plus-below n z is = subst (λ (m : ℕ). m < 2 ^ 64) (sym is) (wrap-below z)

-- ---- the registers of the caller

-- what the rules of a packed row say of a register, with those of the ABI
abbrev pub answer : (ℕ → Option ℕ) → Row → Place → ℕ → ℕ → Answer
answer memory full p cfa r = answer_under (world memory p) x86_64 full cfa r

pub by-rule : (memory : ℕ → Option ℕ) (full : Row) (p : Place) (cfa r : ℕ) (rule : Rule) → rule_in full.rules r ≡ rule
    → answer memory full p cfa r ≡ direct_answer (world memory p) cfa r (or_rule rule (rule_of_role (x86_64 r)))
by-rule memory full p cfa r rule is =
    ap (λ (x : Rule). direct_answer (world memory p) cfa r (or_rule x (rule_of_role (x86_64 r)))) is

pub rule-of : (full : Row) (packed : PackedRow) (r : ℕ) (rule : Rule) → IsRowOf packed full → nat_lt packed.form LAST ≡ true
    → rule_in (saving_rules packed) r ≡ rule → rule_in full.rules r ≡ rule
rule-of full packed r rule is lt in-saving =
    ap (λ (rules : List (ℕ × Rule)). rule_in rules r) (is.rules ∙ saving-of packed lt) ∙ in-saving

pub pointer-after : (memory : ℕ → Option ℕ) (full : Row) (packed : PackedRow) (p : Place) (cfa : ℕ) → cfa < 2 ^ 64 → IsRowOf packed full
    → nat_lt packed.form LAST ≡ true → content_of (answer memory full p cfa 7) ≡ Some cfa
pointer-after memory full packed p cfa below is lt =
    ap content_of (by-rule memory full p cfa 7 default (rule-of full packed 7 default is lt (rsp-rule packed)))
    ∙ ap (λ (m : ℕ). Some m) (same-number cfa below)

saved-after : (memory : ℕ → Option ℕ) (p : Place) (cfa : ℕ) (k : ℤ) (here : StackPlace)
    → p.registers 6 ≡ frame_pointer_in memory here → Fits (frame_pointer_in memory here)
    → content_of (direct_answer (world memory p) cfa 6 (or_rule (rule_by k) (rule_of_role (x86_64 6)))) ≡ caller_frame_pointer memory cfa k here
saved-after memory p cfa (pos zero) here is fits =
    kept-content memory p (p.registers 6) (subst Fits (sym is) fits) ∙ is
saved-after memory p cfa (pos (suc n)) here is fits = refl
saved-after memory p cfa (negsuc n) here is fits = refl

frame-pointer-after : (memory : ℕ → Option ℕ) (full : Row) (packed : PackedRow) (p : Place) (cfa : ℕ) (here : StackPlace)
    → p.registers 6 ≡ frame_pointer_in memory here → Fits (frame_pointer_in memory here) → IsRowOf packed full
    → nat_lt packed.form LAST ≡ true → content_of (answer memory full p cfa 6) ≡ caller_frame_pointer memory cfa packed.rbp here
frame-pointer-after memory full packed p cfa here is fits row lt =
    ap content_of (by-rule memory full p cfa 6 (rule_by packed.rbp) (rule-of full packed 6 (rule_by packed.rbp) row lt (rbp-rule packed)))
    ∙ saved-after memory p cfa packed.rbp here is fits

pub return-after : (memory : ℕ → Option ℕ) (full : Row) (packed : PackedRow) (p : Place) (cfa : ℕ) → IsRowOf packed full
    → nat_lt packed.form LAST ≡ true → content_of (answer memory full p cfa 16) ≡ word_at memory (wrap 64 (pos cfa +ℤ negsuc 7))
return-after memory full packed p cfa is lt =
    ap content_of (by-rule memory full p cfa 16 (offset (negsuc 7)) (rule-of full packed 16 (offset (negsuc 7)) is lt (return-rule packed)))

-- ---- the steps

low-form : (n : ℕ) → nat_lt n LAST ≡ true → n % LAST ≡ n
low-form n lt = grind (arith, nat_tests, lt)

-- the caller where the return address is saved
pub saved-caller : Callers → (memory : ℕ → Option ℕ) (packed : PackedRow) (full : Row) (p : Place) (base cfa : ℕ)
    → nat_lt packed.form LAST ≡ true → IsRowOf packed full → p.registers packed.form ≡ Some base
    → cfa ≡ wrap 64 (pos base +ℤ packed.cfa_offset) → HasDirectCaller (world memory p) x86_64 16 full cfa
saved-caller callers memory packed full p base cfa lt is known cfa-is =
    subst (HasDirectCaller (world memory p) x86_64 16 full) (sym cfa-is)
    (caller-by callers memory packed full p base is (ap p.registers (low-form packed.form lt) ∙ known))

pub goes-on : Callers → (memory : ℕ → Option ℕ) (packed : PackedRow) (full : Row) (here next : StackPlace) (p : Place) (base cfa ra : ℕ)
    → nat_lt packed.form LAST ≡ true → here.frame_pointer < 2 ^ 64 → cfa ≡ wrap 64 (pos base +ℤ packed.cfa_offset) → cfa < 2 ^ 64
    → word_at memory (wrap 64 (pos cfa +ℤ negsuc 7)) ≡ Some ra → next.address ≡ ra → next.key ≡ ra → next.stack_pointer ≡ cfa
    → frame_pointer_in memory next ≡ caller_frame_pointer memory cfa packed.rbp here
    → IsAt memory here p → IsRowOf packed full → p.registers packed.form ≡ Some base → IsStep memory full p (steps.To next)
goes-on callers memory packed full here next p base cfa ra lt below cfa-is fits ra-is address-is key-is pointer-is after-is at is known =
    let c = saved-caller callers memory packed full p base cfa lt is known cfa-is in
    let caller : Caller = record { cfa = value cfa; registers = c.registers; return_address = answer memory full p cfa 16 } in
    let returns : content_of caller.return_address ≡ Some ra = return-after memory full packed p cfa is lt ∙ ra-is in
    let place = place_of_caller caller ra in (
      caller,
      c.is,
      place,
      ap (option_map (place_of_caller caller)) returns,
      record {
        address = sym address-is;
        looked_up = ap address_before (sym key-is);
        pointer = c.contents 7 ∙ pointer-after memory full packed p cfa fits is lt ∙ ap (λ (n : ℕ). Some n) (sym pointer-is);
        frame_pointer = c.contents 6
            ∙ frame-pointer-after memory full packed p cfa here at.frame_pointer (pointer-fits memory here below) is lt
            ∙ sym after-is;
      },
    )

-- a word without a content is unreadable
pub word-unreadable : (e : World) (a : ℕ) → content_of (word e a) ≡ None → word e a ≡ unreadable
word-unreadable e a none = go (nat_le (a + bytes_of_address e.target.address_size) (2 ^ width e))
    (number_at e.memory e.target.order a (bytes_of_address e.target.address_size)) none
  where
    go : (b : Bool) (o : Option ℕ) → content_of (if b then content_plus e (pos 0) o else unreadable) ≡ None
        → (if b then content_plus e (pos 0) o else unreadable) ≡ unreadable
    go true None none = refl
    go true (Some n) none = absurd (cc)
    go false o none = refl

pub unreadable-return : Callers → (memory : ℕ → Option ℕ) (packed : PackedRow) (full : Row) (p : Place) (base cfa : ℕ)
    → nat_lt packed.form LAST ≡ true → cfa ≡ wrap 64 (pos base +ℤ packed.cfa_offset)
    → word_at memory (wrap 64 (pos cfa +ℤ negsuc 7)) ≡ None → IsRowOf packed full → p.registers packed.form ≡ Some base
    → EndsHere memory full p ReturnUnreadable
unreadable-return callers memory packed full p base cfa lt cfa-is none is known =
    let c = saved-caller callers memory packed full p base cfa lt is known cfa-is in
    let by = by-rule memory full p cfa 16 (offset (negsuc 7)) (rule-of full packed 16 (offset (negsuc 7)) is lt (return-rule packed)) in
    let returns : answer memory full p cfa 16 ≡ unreadable =
    by ∙ word-unreadable (world memory p) (wrap 64 (pos cfa +ℤ negsuc 7)) none in (
      record { cfa = value cfa; registers = c.registers; return_address = answer memory full p cfa 16 },
      c.is,
      ap stop_of_return returns,
    )

pub high-form : (n : ℕ) → n ≡ 135 → nat_lt n LAST ≡ false
high-form n is = rw is refl

-- a row whose return address is undefined, with the CFA by the stack pointer
pub last-frame : Callers → (memory : ℕ → Option ℕ) (packed : PackedRow) (full : Row) (here : StackPlace) (p : Place)
    → packed.form ≡ 135 → IsAt memory here p → IsRowOf packed full → EndsHere memory full p ReturnUndefined
last-frame callers memory packed full here p form at is =
    let seven : packed.form % LAST ≡ 7 = rw form refl in
    let cfa = wrap 64 (pos here.stack_pointer +ℤ packed.cfa_offset) in
    let c = caller-by callers memory packed full p here.stack_pointer is (ap p.registers seven ∙ at.pointer) in
    let rules : rule_in full.rules 16 ≡ RuleOver.undefined =
    ap (λ (rules : List (ℕ × Rule)). rule_in rules 16) (is.rules ∙ last-of packed (high-form packed.form form)) in
    let returns : answer memory full p cfa 16 ≡ undefined = by-rule memory full p cfa 16 RuleOver.undefined rules in (
      record { cfa = value cfa; registers = c.registers; return_address = answer memory full p cfa 16 },
      c.is,
      ap stop_of_return returns,
    )
