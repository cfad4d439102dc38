-- Walks with cached rows are walks with the look-ups from which the rows come.
use Rattle.std.proofs.Common.{◌≡◌, ◌⊎◌, inl, inr, ℕ, zero, suc, ◌<◌, ◌==◌, nat_lt, ℤ, negsuc, Bool, true, false, if◌then◌else◌, List, [], ◌∷◌, arith, refl, sym, ap, subst, ◌∙◌}
use Rattle.std.specs.Prelude.{IfSome, Option, Some, None, option_map}
use Rattle.dw_rules.specs.Rules.{Row, Cfa, Rule, RuleOver, offset, rule_in}
use Rattle.dw_rules.specs.Abi.{Abi, or_rule, rule_of_role, rule_under, rules_under}
use Rattle.dw_eval.specs.World.{World}
use Rattle.dw_unwind.specs.Caller.{Answer, AreRegisters, Caller, IsCaller, IsCfa, IsRegister, if_value, machine, number_plus, undefined, word}
use Rattle.dw_unwind.specs.Walks.{AreFrames, Place, UnwindsAt, WalkedFrame, address_before, content_of, contents_of, next_place, over_rows, place_of_caller}
use Rattle.dw_cached_rows.specs.declared.packed_row.PackedRow.{PackedRow}
use Rattle.dw_cached_rows.specs.declared.packed_row.TheConstants.{LAST}
use Rattle.dw_cached_rows.specs.CachedRows.{GivesAt, HasRulesAt, HasRulesOf, KnowsAddress, KnowsItsAddress, LeadsTo, LeadsToAt, entry_at}
use Rattle.dw_cached_rows.specs.PackedRows.{StandsFor, little_64}
use Rattle.dw_cached_rows.proofs.Rules.{last-of, return-rule, saving-of}
use Rattle.dw_cached_rows.specs.CachedWalks.{over_cached, x86_64}

-- a row gives what another one with the same rules gives
pub same-caller : (e : World) (abi : Abi) (column : ℕ) (one other : Row) (caller : Caller) → HasRulesOf one other
    → IsCaller e abi column one caller → IsCaller e abi column other caller
same-caller e abi column one other caller same is = record {
  cfa = subst (λ (rule : Option Cfa). IsCfa e rule caller.cfa) same.cfa is.cfa;
  registers = subst (λ (rules : List (ℕ × Rule)). AreRegisters e caller.cfa (rules_under abi rules) caller.registers) same.rules is.registers;
  return_address = subst (λ (rules : List (ℕ × Rule)). IsRegister e caller.cfa column (rule_under abi rules column) caller.return_address)
      same.rules is.return_address;
}

one-unwinding : (rows : List PackedRow) (confirmed : ℕ) (memory : ℕ → Option ℕ) (Finds : ℕ → Option (Row × ℕ) → Type 0)
    → LeadsTo Finds rows confirmed → (registers : ℕ → Option ℕ) (at : Option ℕ) (caller : Option Caller)
    → UnwindsAt (over_cached rows confirmed memory) registers at caller
    → UnwindsAt (over_rows little_64 Finds x86_64 memory) registers at caller
one-unwinding rows confirmed memory Finds leads registers None caller is = is
one-unwinding rows confirmed memory Finds leads registers (Some a) caller (None, confirms, is) = absurd confirms
one-unwinding rows confirmed memory Finds leads registers (Some a) None (Some found, confirms, is) = absurd is
one-unwinding rows confirmed memory Finds leads registers (Some a) (Some caller) (Some found, confirms, is) =
    let row = leads a found confirms in (
      Some (row.0, 16),
      row.1,
      same-caller (machine little_64 registers memory) x86_64 16 found.0 row.0 caller row.2
          (subst (λ (column : ℕ). IsCaller (machine little_64 registers memory) x86_64 column found.0 caller) confirms.column is),
    )

pub over-look-ups : (rows : List PackedRow) (confirmed : ℕ) (memory : ℕ → Option ℕ) (Finds : ℕ → Option (Row × ℕ) → Type 0)
    (from : Option Place) (frames : List WalkedFrame) → LeadsTo Finds rows confirmed
    → AreFrames (over_cached rows confirmed memory) from frames → AreFrames (over_rows little_64 Finds x86_64 memory) from frames
over-look-ups rows confirmed memory Finds from [] leads are = tt
over-look-ups rows confirmed memory Finds None (f ∷ frames) leads are = absurd are
over-look-ups rows confirmed memory Finds (Some p) (f ∷ frames) leads are = (
  (are.0.0, one-unwinding rows confirmed memory Finds leads p.registers p.looked_up f.caller are.0.1),
  over-look-ups rows confirmed memory Finds (next_place f.caller) frames leads are.1,
)

-- ---- where rows are looked up at known addresses

-- what dw_rules says of the rules that an ABI adds to
abbrev pub UnderAbi : Type 0
UnderAbi = (abi : Abi) (rules : List (ℕ × Rule)) (r : ℕ) → r < 65536 → rule_in (rules_under abi rules) r ≡ rule_under abi rules r

pub gives-at : (address : ℕ) (one other : Row) → HasRulesAt address one other → GivesAt address one other
gives-at address one other (inl same) registers memory abi caller knows is = same-caller (machine little_64 registers memory) abi 16 one other caller same is
gives-at address one other (inr alike) registers memory abi caller knows is = alike.2 registers memory abi caller knows is

-- the answer for rip, if it is saved in memory
saved-return : (e : World) (cfa : Answer) (rules : List (ℕ × Rule)) (answers : List (ℕ × Answer)) (n : ℤ) → AreRegisters e cfa rules answers
    → rule_in rules 16 ≡ offset n → contents_of answers 16 ≡ content_of (if_value cfa (λ c. word e (number_plus e n c)))
saved-return e cfa [] answers n are is = absurd (cc)
saved-return e cfa (entry ∷ rules) [] n are is = absurd are
saved-return e cfa (entry ∷ rules) (found ∷ answers) n are is =
    ap (λ (k : ℕ). if k == 16 then content_of found.1 else contents_of answers 16) are.0
    ∙ go (entry.0 == 16) is (saved-return e cfa rules answers n are.2)
  where
    go : (here : Bool) → (if here then entry.1 else rule_in rules 16) ≡ offset n
        → (rule_in rules 16 ≡ offset n → contents_of answers 16 ≡ content_of (if_value cfa (λ c. word e (number_plus e n c))))
        → (if here then content_of found.1 else contents_of answers 16) ≡ content_of (if_value cfa (λ c. word e (number_plus e n c)))
    go true same later = ap content_of (subst (λ (rule : Rule). IsRegister e cfa entry.0 rule found.1) same are.1)
    go false same later = later same

-- the return address of a row that a cache has is saved just below the CFA, or undefined
held-return : (address : ℕ) (p : PackedRow) (row : Row) → StandsFor address p row
    → (rule_in row.rules 16 ≡ offset (negsuc 7)) ⊎ (rule_in row.rules 16 ≡ RuleOver.undefined)
held-return address p row (inl (inr is)) = inl is.returns
held-return address p row (inl (inl is)) = go (nat_lt p.form LAST) refl
  where
    go : (b : Bool) → nat_lt p.form LAST ≡ b → (rule_in row.rules 16 ≡ offset (negsuc 7)) ⊎ (rule_in row.rules 16 ≡ RuleOver.undefined)
    go true lt = inl (ap (λ (rules : List (ℕ × Rule)). rule_in rules 16) (is.rules ∙ saving-of p lt) ∙ return-rule p)
    go false lt = inr (ap (λ (rules : List (ℕ × Rule)). rule_in rules 16) (is.rules ∙ last-of p lt))
held-return address p row (inr plt) = inl (ap (λ (rules : List (ℕ × Rule)). rule_in rules 16) plt.rules ∙ return-rule p)

-- the place of a caller whose return address is its content of rip
known-place : (caller : Caller) → contents_of caller.registers 16 ≡ content_of caller.return_address
    → IfSome (next_place (Some caller)) KnowsItsAddress
known-place caller same = go (content_of caller.return_address) same
  where
    go : (o : Option ℕ) → contents_of caller.registers 16 ≡ o → IfSome (option_map (place_of_caller caller) o) KnowsItsAddress
    go None is = tt
    go (Some n) is = record { known = is; looked_up = inr refl }

no-place : (caller : Caller) → caller.return_address ≡ undefined → IfSome (next_place (Some caller)) KnowsItsAddress
no-place caller is =
    subst (λ (a : Answer). IfSome (option_map (place_of_caller caller) (content_of a)) KnowsItsAddress) (sym is) tt

-- a caller that such a row gives knows its address
called-place : UnderAbi → (e : World) (row : Row) (caller : Caller) → IsCaller e x86_64 16 row caller
    → (rule_in row.rules 16 ≡ offset (negsuc 7)) ⊎ (rule_in row.rules 16 ≡ RuleOver.undefined)
    → IfSome (next_place (Some caller)) KnowsItsAddress
called-place under e row caller is (inl saved) =
    let rule : rule_under x86_64 row.rules 16 ≡ offset (negsuc 7) = ap (λ (r : Rule). or_rule r (rule_of_role (x86_64 16))) saved in
    let listed : rule_in (rules_under x86_64 row.rules) 16 ≡ offset (negsuc 7) = under x86_64 row.rules 16 (omega arith) ∙ rule in
    let returned = subst (λ (r : Rule). IsRegister e caller.cfa 16 r caller.return_address) rule is.return_address in
    known-place caller
    (saved-return e caller.cfa (rules_under x86_64 row.rules) caller.registers (negsuc 7) is.registers listed ∙ sym (ap content_of returned))
called-place under e row caller is (inr none) =
    let rule : rule_under x86_64 row.rules 16 ≡ RuleOver.undefined = ap (λ (r : Rule). or_rule r (rule_of_role (x86_64 16))) none in
    no-place caller (subst (λ (r : Rule). IsRegister e caller.cfa 16 r caller.return_address) rule is.return_address)

next-known : UnderAbi → (rows : List PackedRow) (confirmed : ℕ) (memory registers : ℕ → Option ℕ) (at : Option ℕ) (caller : Option Caller)
    → UnwindsAt (over_cached rows confirmed memory) registers at caller → IfSome (next_place caller) KnowsItsAddress
next-known under rows confirmed memory registers None caller is =
    subst (λ (c : Option Caller). IfSome (next_place c) KnowsItsAddress) (sym is) tt
next-known under rows confirmed memory registers (Some a) None is = tt
next-known under rows confirmed memory registers (Some a) (Some caller) (None, confirms, is) = absurd confirms
next-known under rows confirmed memory registers (Some a) (Some caller) (Some found, confirms, is) =
    let e = machine little_64 registers memory in
    called-place under e found.0 caller (subst (λ (column : ℕ). IsCaller e x86_64 column found.0 caller) confirms.column is)
    (held-return a (entry_at rows confirms.held.0) found.0 confirms.held.1.is)

address-after : (n a : ℕ) → Some a ≡ address_before n → n ≡ suc a
address-after zero a is = absurd (cc)
address-after (suc n) a is = cc

known-here : (address a : ℕ) (registers : ℕ → Option ℕ) → registers 16 ≡ Some address
    → (Some a ≡ Some address) ⊎ (Some a ≡ address_before address) → KnowsAddress a registers
known-here address a registers known (inl exact) = inl (known ∙ sym exact)
known-here address a registers known (inr before) = inr (known ∙ ap (λ (n : ℕ). Some n) (address-after address a before))

one-unwinding-at : (rows : List PackedRow) (confirmed : ℕ) (memory : ℕ → Option ℕ) (Finds : ℕ → Option (Row × ℕ) → Type 0)
    → LeadsToAt Finds rows confirmed → (registers : ℕ → Option ℕ) (address : ℕ) (at : Option ℕ) (caller : Option Caller)
    → registers 16 ≡ Some address → (at ≡ Some address) ⊎ (at ≡ address_before address)
    → UnwindsAt (over_cached rows confirmed memory) registers at caller
    → UnwindsAt (over_rows little_64 Finds x86_64 memory) registers at caller
one-unwinding-at rows confirmed memory Finds leads registers address None caller known at is = is
one-unwinding-at rows confirmed memory Finds leads registers address (Some a) caller known at (None, confirms, is) = absurd confirms
one-unwinding-at rows confirmed memory Finds leads registers address (Some a) None known at (Some found, confirms, is) = absurd is
one-unwinding-at rows confirmed memory Finds leads registers address (Some a) (Some caller) known at (Some found, confirms, is) =
    let e = machine little_64 registers memory in
    let row = leads a found confirms in (
      Some (row.0, 16),
      row.1,
      gives-at a found.0 row.0 row.2 registers memory x86_64 caller (known-here address a registers known at)
          (subst (λ (column : ℕ). IsCaller e x86_64 column found.0 caller) confirms.column is),
    )

pub over-look-ups-at : UnderAbi → (rows : List PackedRow) (confirmed : ℕ) (memory : ℕ → Option ℕ)
    (Finds : ℕ → Option (Row × ℕ) → Type 0) (from : Option Place) (frames : List WalkedFrame) → LeadsToAt Finds rows confirmed
    → IfSome from KnowsItsAddress → AreFrames (over_cached rows confirmed memory) from frames
    → AreFrames (over_rows little_64 Finds x86_64 memory) from frames
over-look-ups-at under rows confirmed memory Finds from [] leads knows are = tt
over-look-ups-at under rows confirmed memory Finds None (f ∷ frames) leads knows are = absurd are
over-look-ups-at under rows confirmed memory Finds (Some p) (f ∷ frames) leads knows are = (
  (
    are.0.0,
    one-unwinding-at rows confirmed memory Finds leads p.registers p.address p.looked_up f.caller knows.known knows.looked_up are.0.1,
  ),
  over-look-ups-at under rows confirmed memory Finds (next_place f.caller) frames leads
      (next-known under rows confirmed memory p.registers p.looked_up f.caller are.0.1) are.1,
)
