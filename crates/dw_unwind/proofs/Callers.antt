-- Lemmas about the caller that a row gives, and about the answers for its registers one by one.
use Rattle.std.proofs.Common.{◌≡◌, ℕ, suc, ◌+◌, ◌<◌, ◌≤◌, List, [], ◌∷◌, ◌++◌, length, map, refl, ap, sym, subst, ◌∙◌, arith, length-append}
use Rattle.std.specs.Prelude.{All, Option, Some, None, zero, slice_get}
use Rattle.std.specs.List.{AllByRecursion}
use Rattle.std.proofs.lemmas.List.{append_assoc, map-append}
use Rattle.std.proofs.lemmas.List.Elements.{recursion_from_All}
use Rattle.dw_rules.specs.Abi.{Abi, or_rule, rule_under, rules_under}
use Rattle.dw_rules.specs.Rules.{Rule, Cfa, Row, default, undefined, same_value, offset, val_offset, register, expression, val_expression}
use Rattle.dw_frame.specs.Records.{Cie}
use Rattle.dw_rows.specs.Section.{FrameSection, cie_in}
use Rattle.dw_rows.specs.RowLookups.{IsFoundAt}
use Rattle.dw_stack.specs.declared.state.Kind.{Kind}
use Rattle.dw_stack.specs.Located.{LocatedExpression}
use Rattle.dw_eval.specs.World.{World}
use Rattle.dw_unwind.specs.Caller.{Answer, Gives, IsCfa, IsRegister, AreRegisters, Caller, IsCaller, Unwinds, UnwindsBy}

-- there are as many answers as rules
pub as_many : (e : World) (cfa : Answer) (rules : List (ℕ × Rule)) (answers : List (ℕ × Answer)) → AreRegisters e cfa rules answers
    → length answers ≡ length rules
as_many e cfa [] [] h = refl
as_many e cfa [] (x ∷ xs) h = absurd h
as_many e cfa (x ∷ rules) [] h = absurd h
as_many e cfa (x ∷ rules) (y ∷ answers) h = ap suc (as_many e cfa rules answers h.2)

-- if each rule has its answer, another rule with its answer can be appended
pub one_more : (e : World) (cfa : Answer) (rules : List (ℕ × Rule)) (answers : List (ℕ × Answer)) (r : ℕ) (rule : Rule) (answer : Answer)
    → AreRegisters e cfa rules answers → IsRegister e cfa r rule answer
    → AreRegisters e cfa (rules ++ (r, rule) ∷ []) (answers ++ (r, answer) ∷ [])
one_more e cfa [] [] r rule answer h is = (refl, is, tt)
one_more e cfa [] (x ∷ xs) r rule answer h is = absurd h
one_more e cfa (x ∷ rules) [] r rule answer h is = absurd h
one_more e cfa (x ∷ rules) (y ∷ answers) r rule answer h is = (h.0, h.1, one_more e cfa rules answers r rule answer h.2 is)

-- if there are at most `most` rules, and a rule is left, there is room for its answer
pub has_room : (e : World) (cfa : Answer) (came left rest all : List (ℕ × Rule)) (answers : List (ℕ × Answer)) (x : ℕ × Rule) (most : ℕ)
    → AreRegisters e cfa came answers → came ++ left ≡ all → left ≡ x ∷ rest → length all ≤ most → length answers < most
has_room e cfa came left rest all answers x most h whole next few =
    let many = as_many e cfa came answers h in
    let cut : length came + length left ≡ length all = sym (length-append came left) ∙ ap length whole in
    let one : length left ≡ suc (length rest) = ap length next in
    omega (arith, many, cut, one, few)

-- ---- a list in two parts: the next element moves from the second part to the first

pub comes : {X Y : Type 0} (view : X → Y) (came : List X) (x : X) (left rest all : List Y) → map view came ++ left ≡ all
    → left ≡ view x ∷ rest → map view (came ++ x ∷ []) ++ rest ≡ all
comes view came x left rest all whole next =
    ap (λ l. l ++ rest) (map-append view came (x ∷ [])) ∙ append_assoc (map view came) (view x ∷ []) rest
    ∙ ap (λ l. map view came ++ l) (sym next) ∙ whole

-- a property of all elements of a list holds for the element after `came`
first_after : {X : Type 0} (P : X → Type 0) (came : List X) (x : X) (rest : List X) → AllByRecursion P (came ++ x ∷ rest) → P x
first_after P [] x rest h = h.0
first_after P (y ∷ came) x rest h = first_after P came x rest h.1

pub of_next : {X : Type 0} (P : X → Type 0) (came : List X) (x : X) (left rest all : List X) → All P all → came ++ left ≡ all
    → left ≡ x ∷ rest → P x
of_next P came x left rest all each whole next =
    first_after P came x rest
    (recursion_from_All P (came ++ x ∷ rest) (subst (All P) (sym whole ∙ ap (λ l. came ++ l) next) each))

-- ---- an expression whose own kind is the kind that it runs as

pub as_kind : (e : World) (kind : Kind) (x : LocatedExpression) (answer : Answer) → x.kind ≡ kind → Gives e x.kind x answer
    → Gives e kind x answer
as_kind e kind x answer is gives = subst (λ k. Gives e k x answer) is gives

-- ---- the caller by the row of an address

-- an answer that is right for a rule with `default` replaced by `undefined` is right for the rule
-- itself
pub by_default : (e : World) (cfa : Answer) (r : ℕ) (x : Rule) (answer : Answer) → IsRegister e cfa r (or_rule x undefined) answer
    → IsRegister e cfa r x answer
by_default e cfa r default answer h = h
by_default e cfa r undefined answer h = h
by_default e cfa r same_value answer h = h
by_default e cfa r (offset n) answer h = h
by_default e cfa r (val_offset n) answer h = h
by_default e cfa r (register other) answer h = h
by_default e cfa r (expression x) answer h = h
by_default e cfa r (val_expression x) answer h = h

-- ---- unwinding by the result of a row look-up

pub unwinds-found : (e : World) (abi : Abi) (s : FrameSection) (address : ℕ) (found : Option (Row × ℕ)) (c : Option Caller)
    → IsFoundAt s address found → UnwindsBy e abi found c → Unwinds e abi s address c
unwinds-found e abi s address None None is by = is
unwinds-found e abi s address None (Some caller) is by = absurd by
unwinds-found e abi s address (Some found) None is by = absurd by
unwinds-found e abi s address (Some found) (Some caller) is by =
    let named = is.1 in record {
      fde = named.0;
      covers = named.2;
      cie = named.1;
      cie_is = named.3;
      row = found.0;
      row_is = is.0;
      is = subst (λ (n : ℕ). IsCaller e abi n found.0 caller) (sym named.4) by;
    }

pub found-unwinds : (e : World) (abi : Abi) (s : FrameSection) (address : ℕ) (found : Option (Row × ℕ)) (c : Option Caller)
    → IsFoundAt s address found → Unwinds e abi s address c → UnwindsBy e abi found c
found-unwinds e abi s address None None is h = tt
found-unwinds e abi s address None (Some caller) is h = absurd (is h.fde h.covers.0 h.covers.1)
found-unwinds e abi s address (Some found) None is h = let covers = is.1.2 in absurd (h is.1.0 covers.0 covers.1)
found-unwinds e abi s address (Some found) (Some caller) is h =
    let named = is.1 in
    let fde : h.fde ≡ named.0 = named.2.2 h.fde h.covers.0 h.covers.1 in
    let cies : Some h.cie ≡ Some named.1 = sym h.cie_is ∙ ap (cie_in s) fde ∙ named.3 in
    let cie : h.cie ≡ named.1 = cc in
    let rows : Some h.row ≡ Some found.0 = sym h.row_is ∙ is.0 in
    let row : h.row ≡ found.0 = cc in
    subst (λ (n : ℕ). IsCaller e abi n found.0 caller) named.4
    (subst (λ (x : Cie). IsCaller e abi x.return_address_register found.0 caller) cie
    (subst (λ (r : Row). IsCaller e abi h.cie.return_address_register r caller) row h.is))

-- a caller with these parts is the caller that the row gives
pub by_rules : (e : World) (abi : Abi) (number : ℕ) (row : Row) (rule : Cfa) (rules : List (ℕ × Rule)) (cfa returned : Answer)
    (answers : List (ℕ × Answer)) → row.cfa ≡ Some rule → IsCfa e (Some rule) cfa → rules ≡ rules_under abi row.rules
    → AreRegisters e cfa rules answers → IsRegister e cfa number (rule_under abi row.rules number) returned
    → IsCaller e abi number row (record { cfa = cfa; registers = answers; return_address = returned })
by_rules e abi number row rule rules cfa returned answers cfa_is has_cfa rules_are has_registers returns = record {
  cfa = subst (λ c. IsCfa e c cfa) (sym cfa_is) has_cfa;
  registers = subst (λ rs. AreRegisters e cfa rs answers) rules_are has_registers;
  return_address = returns;
}

-- if each answer is right for its rule, the answer at any index is right for the rule of the
-- register at that index
pub found_register : (e : World) (cfa : Answer) (of : ℕ → Rule) (rules : List (ℕ × Rule)) (answers : List (ℕ × Answer)) (k r : ℕ)
    (a : Answer) → AllByRecursion (λ (entry : ℕ × Rule). entry.1 ≡ of entry.0) rules → AreRegisters e cfa rules answers
    → slice_get answers k ≡ Some (r, a) → IsRegister e cfa r (of r) a
found_register e cfa of [] [] k r a each are is = absurd (cc)
found_register e cfa of [] (y ∷ answers) k r a each are is = absurd are
found_register e cfa of (x ∷ rules) [] k r a each are is = absurd are
found_register e cfa of (x ∷ rules) (y ∷ answers) zero r a each are is =
    let same : y ≡ (r, a) = cc in
    subst (λ (z : ℕ × Answer). IsRegister e cfa z.0 (of z.0) z.1) same
    (subst (λ (n : ℕ). IsRegister e cfa n (of n) y.1) (sym are.0)
    (subst (λ (rule : Rule). IsRegister e cfa x.0 rule y.1) each.0 are.1))
found_register e cfa of (x ∷ rules) (y ∷ answers) (suc k) r a each are is = found_register e cfa of rules answers k r a each.1 are.2 is
