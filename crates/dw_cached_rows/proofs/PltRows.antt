-- A packed row of a procedure linkage table gives, at its address, the callers that the row gives.
use Rattle.std.proofs.Common.{◌≡◌, inl, inr, ℕ, suc, ◌+ℤ◌, ◌%◌, ◌<◌, nat_lt, ℤ, pos, true, List, refl, sym, ap, subst, ◌∙◌}
use Rattle.std.specs.Prelude.{Option, Some, None}
use Rattle.dw_stack.specs.Located.{LocatedExpression}
use Rattle.dw_stack.specs.declared.state.Kind.TheVariants.{FrameCfa}
use Rattle.dw_eval.specs.Numbers.{wrap}
use Rattle.dw_eval.specs.Results as results
use Rattle.dw_eval.specs.World.{World}
use Rattle.dw_rules.specs.Abi.{Abi, rule_under, rules_under}
use Rattle.dw_rules.specs.Rules.{Cfa, Row, Rule, register_and_offset}
use Rattle.dw_unwind.specs.Caller.{Answer, AreRegisters, Caller, Gives, IsCaller, IsCfa, IsRegister, content_plus, machine, value}
use Rattle.dw_cached_rows.specs.declared.packed_row.PackedRow.{PackedRow}
use Rattle.dw_cached_rows.specs.declared.packed_row.TheConstants.{LAST}
use Rattle.dw_cached_rows.specs.PackedRows.{IsPackedFrom, IsPltExpression, IsPltRowOf, IsRowOf, StandsFor, little_64, plt_offset, plt_operations, saving_rules}
use Rattle.dw_cached_rows.specs.CachedRows.{GivesAt, HasRulesAt, KnowsAddress}
use Rattle.dw_cached_rows.proofs.CodedRuns.{coded-run, run-coded}
use Rattle.dw_cached_rows.proofs.PltRuns.{fails, finishes, seventh, seventh-is}
use Rattle.dw_cached_rows.proofs.RealignedRows.{both-realigned}
use Rattle.dw_cached_rows.proofs.Rules.{saving-of}

-- ---- what the expression gives

gives : (registers memory : ℕ → Option ℕ) (limit rip : ℕ) (n : ℤ) (x : LocatedExpression) → IsPltExpression limit x → limit < 16
    → registers 16 ≡ Some rip → n ≡ plt_offset limit rip
    → Gives (machine little_64 registers memory) FrameCfa x (content_plus (machine little_64 registers memory) n (registers 7))
gives registers memory limit rip n x is low ip same = go (registers 7) refl
  where
    go : (o : Option ℕ) → registers 7 ≡ o
        → Gives (machine little_64 registers memory) FrameCfa x (content_plus (machine little_64 registers memory) n o)
    go None sp = (results.unreadable 0, 1, coded-run registers memory None FrameCfa (plt_operations limit) 11 x (results.unreadable 0) 1 is (fails registers memory limit sp), refl)
    go (Some rsp) sp = (
      results.value (seventh limit rip rsp),
      9,
      coded-run registers memory None FrameCfa (plt_operations limit) 11 x (results.value (seventh limit rip rsp)) 9 is
          (finishes registers memory limit rip rsp sp ip),
      ap value (ap (λ (z : ℤ). wrap 64 (pos rsp +ℤ z)) same ∙ sym (seventh-is limit rip rsp low)),
    )

-- ---- rows for which one entry stands

rules-of : (p : PackedRow) (row : Row) → p.form ≡ 7 → IsRowOf p row → row.rules ≡ saving_rules p
rules-of p row form is =
    let lt : nat_lt p.form LAST ≡ true = ap (λ (n : ℕ). nat_lt n LAST) form in
    is.rules ∙ saving-of p lt

-- what rip says in a frame for which the address is looked up
rip-in : (p : PackedRow) (address : ℕ) (row : Row) (registers : ℕ → Option ℕ) → IsPltRowOf p address row → KnowsAddress address registers
    → (rip : ℕ) × (registers 16 ≡ Some rip) × (p.cfa_offset ≡ plt_offset p.plt_limit rip)
rip-in p address row registers plt (inl here) = (address, here, plt.here)
rip-in p address row registers plt (inr next) = (suc address, next, plt.next)

cfa-by : (e : World) (p : PackedRow) (row : Row) (answer : Answer) → p.form ≡ 7 → IsRowOf p row → IsCfa e row.cfa answer
    → answer ≡ content_plus e p.cfa_offset (e.registers 7)
cfa-by e p row answer form is cfa =
    let at : IsCfa e (Some (register_and_offset (p.form % LAST) p.cfa_offset)) answer =
    subst (λ (rule : Option Cfa). IsCfa e rule answer) is.cfa cfa in
    at ∙ ap (λ (n : ℕ). content_plus e p.cfa_offset (e.registers (n % LAST))) form

with-cfa : (e : World) (abi : Abi) (one other : Row) (caller : Caller) → one.rules ≡ other.rules → IsCfa e other.cfa caller.cfa
    → IsCaller e abi 16 one caller → IsCaller e abi 16 other caller
with-cfa e abi one other caller same cfa is = record {
  cfa = cfa;
  registers = subst (λ (rules : List (ℕ × Rule)). AreRegisters e caller.cfa (rules_under abi rules) caller.registers) same is.registers;
  return_address = subst (λ (rules : List (ℕ × Rule)). IsRegister e caller.cfa 16 (rule_under abi rules 16) caller.return_address)
      same is.return_address;
}

stands-in : (p : PackedRow) (address : ℕ) (row held : Row) → IsPltRowOf p address row → IsRowOf p held → GivesAt address held row
stands-in p address row held plt is registers memory abi caller knows called =
    let e = machine little_64 registers memory in
    let rip = rip-in p address row registers plt knows in
    let made = gives registers memory p.plt_limit rip.0 p.cfa_offset plt.expression plt.is plt.inside rip.1 rip.2 in
    let same = cfa-by e p held caller.cfa plt.form is called.cfa in
    with-cfa e abi held row caller (rules-of p held plt.form is ∙ sym plt.rules)
    (subst (λ (rule : Option Cfa). IsCfa e rule caller.cfa) (sym plt.cfa)
    (subst (λ (a : Answer). Gives e FrameCfa plt.expression a) (sym same) made)) called

both-plt : (p : PackedRow) (address : ℕ) (row held : Row) → IsPltRowOf p address row → IsPltRowOf p address held → GivesAt address held row
both-plt p address row held plt is registers memory abi caller knows called =
    let e = machine little_64 registers memory in
    let given : Gives e FrameCfa is.expression caller.cfa = subst (λ (rule : Option Cfa). IsCfa e rule caller.cfa) is.cfa called.cfa in
    let ops = plt_operations p.plt_limit in
    let run = coded-run registers memory None FrameCfa ops 11 plt.expression given.0 given.1 plt.is
    (run-coded registers memory None FrameCfa ops 11 is.expression given.0 given.1 is.is given.2) in
    with-cfa e abi held row caller (is.rules ∙ sym plt.rules)
    (subst (λ (rule : Option Cfa). IsCfa e rule caller.cfa) (sym plt.cfa) (given.0, given.1, run, given.3)) called

pub alike : (p : PackedRow) (address : ℕ) (row held : Row) → IsPackedFrom address row p → StandsFor address p held → HasRulesAt address held row
alike p address row held (inl (is, plain)) (inl (inl other)) =
    inl (record { cfa = other.cfa ∙ sym is.cfa; rules = other.rules ∙ sym is.rules })
alike p address row held (inl (is, plain)) (inl (inr other)) = absurd (is.usual other.form)
alike p address row held (inl (is, plain)) (inr other) = absurd (other.some plain)
alike p address row held (inr (inl plt)) (inl (inl other)) = inr (plt.expression, plt.cfa, stands-in p address row held plt other)
alike p address row held (inr (inl plt)) (inl (inr other)) = absurd (cc (plt.form, other.form))
alike p address row held (inr (inl plt)) (inr other) = inr (plt.expression, plt.cfa, both-plt p address row held plt other)
alike p address row held (inr (inr is)) (inl (inl other)) = absurd (other.usual is.form)
alike p address row held (inr (inr is)) (inl (inr other)) = inr (is.expression, is.cfa, both-realigned p address row held is other)
alike p address row held (inr (inr is)) (inr other) = absurd (cc (is.form, other.form))
