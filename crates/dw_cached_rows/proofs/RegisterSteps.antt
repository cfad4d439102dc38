-- A step of a walk that keeps the callee-saved registers is that of the definition.
use Rattle.std.proofs.Common.{◌==◌, Bool, false, if◌then◌else◌, arith, ◌≡◌, ℕ, zero, suc, ◌<◌, ◌^◌, ◌%◌, nat_lt, ℤ, pos, negsuc, ◌+ℤ◌, true, refl, sym, ap, subst, ◌∙◌, List}
use Rattle.std.specs.Prelude.{Option, Some, None, option_map}
use Rattle.std.proofs.lemmas.Bool.Decides.{nat_tests}
use Rattle.dw_eval.specs.Numbers.{wrap}
use Rattle.dw_rules.specs.Abi.{Role, kept, or_rule, rule_of_role}
use Rattle.dw_rules.specs.Rules.{Row, Rule, RuleOver, offset, rule_in}
use Rattle.dw_unwind.specs.Caller.{Caller, value, undefined, unreadable}
use Rattle.dw_unwind.specs.DirectAnswers.{direct_answer}
use Rattle.dw_unwind.specs.Walks.{Place, address_before, content_of, place_of_caller, stop_of_return}
use Rattle.dw_unwind.specs.declared.frames.Stop.TheVariants.{ReturnUndefined, ReturnUnreadable}
use Rattle.dw_cached_rows.specs.declared.packed_row.PackedRow.{PackedRow}
use Rattle.dw_cached_rows.specs.declared.packed_row.TheConstants.{LAST}
use Rattle.dw_cached_rows.specs.declared.register_place.RegisterPlace.{RegisterPlace}
use Rattle.dw_cached_rows.specs.declared.register_place.RegisterStep.TheVariants as steps
use Rattle.dw_cached_rows.specs.PackedRows.{IsRowOf, saving_rules}
use Rattle.dw_cached_rows.specs.CachedWalks.{word_at, x86_64}
use Rattle.dw_cached_rows.specs.RegisterWalks.{EndsWith, IsAfter, IsRegisterStep, IsWith, content_after, register_in}
use Rattle.dw_cached_rows.proofs.Rules.{last-of, r12-rule, r13-rule, r14-rule, r15-rule, rbp-rule, rbx-rule, return-rule, rule_by}
use Rattle.dw_cached_rows.proofs.Steps.{Callers, Fits, answer, by-rule, caller-by, high-form, kept-content, pointer-after, return-after, rule-of}
use Rattle.dw_cached_rows.proofs.Steps.{saved-caller, word-unreadable, world}

-- a callee-saved register in the caller
saved-content : (memory : ℕ → Option ℕ) (p : Place) (cfa : ℕ) (k : ℤ) (r n : ℕ) → x86_64 r ≡ kept → p.registers r ≡ Some n → n < 2 ^ 64
    → content_of (direct_answer (world memory p) cfa r (or_rule (rule_by k) (rule_of_role (x86_64 r)))) ≡ content_after memory cfa k n
saved-content memory p cfa (pos zero) r n role is fits =
    ap (λ (x : Role). content_of (direct_answer (world memory p) cfa r (or_rule (rule_by (pos zero)) (rule_of_role x)))) role
    ∙ kept-content memory p (p.registers r) (subst Fits (sym is) fits) ∙ is
saved-content memory p cfa (pos (suc m)) r n role is fits = refl
saved-content memory p cfa (negsuc m) r n role is fits = refl

register-after : (memory : ℕ → Option ℕ) (full : Row) (packed : PackedRow) (p : Place) (cfa : ℕ) (k : ℤ) (r n m : ℕ) → x86_64 r ≡ kept
    → rule_in (saving_rules packed) r ≡ rule_by k → IsRowOf packed full → nat_lt packed.form LAST ≡ true → p.registers r ≡ Some n
    → n < 2 ^ 64 → content_after memory cfa k n ≡ Some m → content_of (answer memory full p cfa r) ≡ Some m
register-after memory full packed p cfa k r n m role in-saving is lt content fits after =
    ap content_of (by-rule memory full p cfa r (rule_by k) (rule-of full packed r (rule_by k) is lt in-saving))
    ∙ saved-content memory p cfa k r n role content fits ∙ after

pub goes-on : Callers → (memory : ℕ → Option ℕ) (packed : PackedRow) (full : Row) (here next : RegisterPlace) (p : Place) (base cfa ra : ℕ)
    → nat_lt packed.form LAST ≡ true → here.rbx < 2 ^ 64 → here.rbp < 2 ^ 64 → here.r12 < 2 ^ 64 → here.r13 < 2 ^ 64 → here.r14 < 2 ^ 64
    → here.r15 < 2 ^ 64 → cfa ≡ wrap 64 (pos base +ℤ packed.cfa_offset) → cfa < 2 ^ 64
    → word_at memory (wrap 64 (pos cfa +ℤ negsuc 7)) ≡ Some ra → IsAfter memory cfa ra packed here next
    → IsWith here p → IsRowOf packed full → p.registers packed.form ≡ Some base → IsRegisterStep memory full p (steps.To next)
goes-on callers memory packed full here next p base cfa ra lt rbx rbp r12 r13 r14 r15 cfa-is fits ra-is after at is known =
    let c = saved-caller callers memory packed full p base cfa lt is known cfa-is in
    let caller : Caller = record { cfa = value cfa; registers = c.registers; return_address = answer memory full p cfa 16 } in
    let returns : content_of caller.return_address ≡ Some ra = return-after memory full packed p cfa is lt ∙ ra-is in
    let place = place_of_caller caller ra in (
      caller,
      c.is,
      ap value (sym after.pointer),
      place,
      ap (option_map (place_of_caller caller)) returns,
      record {
        address = sym after.address;
        looked_up = ap address_before (sym after.key);
        pointer = c.contents 7 ∙ pointer-after memory full packed p cfa fits is lt ∙ ap (λ (n : ℕ). Some n) (sym after.pointer);
        rbx = c.contents 3
            ∙ register-after memory full packed p cfa packed.rbx 3 here.rbx next.rbx refl (rbx-rule packed) is lt at.rbx rbx after.rbx;
        rbp = c.contents 6
            ∙ register-after memory full packed p cfa packed.rbp 6 here.rbp next.rbp refl (rbp-rule packed) is lt at.rbp rbp after.rbp;
        r12 = c.contents 12
            ∙ register-after memory full packed p cfa packed.r12 12 here.r12 next.r12 refl (r12-rule packed) is lt at.r12 r12 after.r12;
        r13 = c.contents 13
            ∙ register-after memory full packed p cfa packed.r13 13 here.r13 next.r13 refl (r13-rule packed) is lt at.r13 r13 after.r13;
        r14 = c.contents 14
            ∙ register-after memory full packed p cfa packed.r14 14 here.r14 next.r14 refl (r14-rule packed) is lt at.r14 r14 after.r14;
        r15 = c.contents 15
            ∙ register-after memory full packed p cfa packed.r15 15 here.r15 next.r15 refl (r15-rule packed) is lt at.r15 r15 after.r15;
      },
    )

pub unreadable-return : Callers → (memory : ℕ → Option ℕ) (packed : PackedRow) (full : Row) (p : Place) (base cfa : ℕ)
    → nat_lt packed.form LAST ≡ true → cfa ≡ wrap 64 (pos base +ℤ packed.cfa_offset)
    → word_at memory (wrap 64 (pos cfa +ℤ negsuc 7)) ≡ None → IsRowOf packed full → p.registers packed.form ≡ Some base
    → EndsWith memory full p cfa ReturnUnreadable
unreadable-return callers memory packed full p base cfa lt cfa-is none is known =
    let c = saved-caller callers memory packed full p base cfa lt is known cfa-is in
    let by = by-rule memory full p cfa 16 (offset (negsuc 7)) (rule-of full packed 16 (offset (negsuc 7)) is lt (return-rule packed)) in
    let returns : answer memory full p cfa 16 ≡ unreadable =
    by ∙ word-unreadable (world memory p) (wrap 64 (pos cfa +ℤ negsuc 7)) none in (
      record { cfa = value cfa; registers = c.registers; return_address = answer memory full p cfa 16 },
      c.is,
      refl,
      ap stop_of_return returns,
    )

pub last-frame : Callers → (memory : ℕ → Option ℕ) (packed : PackedRow) (full : Row) (here : RegisterPlace) (p : Place) (cfa : ℕ)
    → packed.form ≡ 135 → cfa ≡ wrap 64 (pos here.stack_pointer +ℤ packed.cfa_offset) → IsWith here p → IsRowOf packed full
    → EndsWith memory full p cfa ReturnUndefined
last-frame callers memory packed full here p cfa form cfa-is at is =
    let seven : packed.form % LAST ≡ 7 = rw form refl in
    let by-pointer = wrap 64 (pos here.stack_pointer +ℤ packed.cfa_offset) in
    let c = caller-by callers memory packed full p here.stack_pointer is (ap p.registers seven ∙ at.pointer) in
    let rules : rule_in full.rules 16 ≡ RuleOver.undefined =
    ap (λ (rules : List (ℕ × Rule)). rule_in rules 16) (is.rules ∙ last-of packed (high-form packed.form form)) in
    let returns : answer memory full p by-pointer 16 ≡ undefined = by-rule memory full p by-pointer 16 RuleOver.undefined rules in (
      record { cfa = value by-pointer; registers = c.registers; return_address = answer memory full p by-pointer 16 },
      c.is,
      ap value (sym cfa-is),
      ap stop_of_return returns,
    )

-- ---- the register of the CFA

same-register : (n r : ℕ) → (n == r) ≡ true → r ≡ n
same-register n r is = grind (arith, nat_tests, is)

pub kept-register : (here : RegisterPlace) (p : Place) (r n : ℕ) → IsWith here p → register_in here r ≡ Some n → p.registers r ≡ Some n
kept-register here p r n at is = go15 (15 == r) (same-register 15 r) is
  where
    moved : (m : ℕ) (x : ℕ) → r ≡ m → p.registers m ≡ Some x → Some x ≡ Some n → p.registers r ≡ Some n
    moved m x same content found = ap p.registers same ∙ content ∙ found

    go7 : (b : Bool) → (b ≡ true → r ≡ 7) → (if b then Some here.stack_pointer else None) ≡ Some n → p.registers r ≡ Some n
    go7 true same found = moved 7 here.stack_pointer (same refl) at.pointer found
    go7 false same found = absurd (cc)

    go3 : (b : Bool) → (b ≡ true → r ≡ 3) → (if b then Some here.rbx else (if 7 == r then Some here.stack_pointer else None)) ≡ Some n → p.registers r ≡ Some n
    go3 true same found = moved 3 here.rbx (same refl) at.rbx found
    go3 false same found = go7 (7 == r) (same-register 7 r) found

    go6 : (b : Bool) → (b ≡ true → r ≡ 6) → (if b then Some here.rbp else (if 3 == r then Some here.rbx else (if 7 == r then Some here.stack_pointer else None))) ≡ Some n → p.registers r ≡ Some n
    go6 true same found = moved 6 here.rbp (same refl) at.rbp found
    go6 false same found = go3 (3 == r) (same-register 3 r) found

    go12 : (b : Bool) → (b ≡ true → r ≡ 12) → (if b then Some here.r12 else (if 6 == r then Some here.rbp else (if 3 == r then Some here.rbx else (if 7 == r then Some here.stack_pointer else None)))) ≡ Some n → p.registers r ≡ Some n
    go12 true same found = moved 12 here.r12 (same refl) at.r12 found
    go12 false same found = go6 (6 == r) (same-register 6 r) found

    go13 : (b : Bool) → (b ≡ true → r ≡ 13) → (if b then Some here.r13 else (if 12 == r then Some here.r12 else (if 6 == r then Some here.rbp else (if 3 == r then Some here.rbx else (if 7 == r then Some here.stack_pointer else None))))) ≡ Some n → p.registers r ≡ Some n
    go13 true same found = moved 13 here.r13 (same refl) at.r13 found
    go13 false same found = go12 (12 == r) (same-register 12 r) found

    go14 : (b : Bool) → (b ≡ true → r ≡ 14) → (if b then Some here.r14 else (if 13 == r then Some here.r13 else (if 12 == r then Some here.r12 else (if 6 == r then Some here.rbp else (if 3 == r then Some here.rbx else (if 7 == r then Some here.stack_pointer else None)))))) ≡ Some n → p.registers r ≡ Some n
    go14 true same found = moved 14 here.r14 (same refl) at.r14 found
    go14 false same found = go13 (13 == r) (same-register 13 r) found

    go15 : (b : Bool) → (b ≡ true → r ≡ 15) → (if b then Some here.r15 else (if 14 == r then Some here.r14 else (if 13 == r then Some here.r13 else (if 12 == r then Some here.r12 else (if 6 == r then Some here.rbp else (if 3 == r then Some here.rbx else (if 7 == r then Some here.stack_pointer else None))))))) ≡ Some n → p.registers r ≡ Some n
    go15 true same found = moved 15 here.r15 (same refl) at.r15 found
    go15 false same found = go14 (14 == r) (same-register 14 r) found

-- a walk keeps no register with such a number
pub no-register : (here : RegisterPlace) (r n base : ℕ) → r ≡ n → register_in here n ≡ None → register_in here r ≡ Some base → ⊥
no-register here r n base same none known = absurd (cc (ap (register_in here) same, none, known))
