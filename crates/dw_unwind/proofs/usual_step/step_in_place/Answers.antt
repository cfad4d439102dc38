use Rattle.std.proofs.Common.{◌≡◌, ◌∙◌, ℕ, ℤ, List, Some, arith, rules, subst, sym, w64}
use mir.Val.{to_z, of_z}
use Rattle.dw_bytes.specs.declared.target.Target.{Target}
use Rattle.dw_rules.specs.Abi.{abi_of, rule_under}
use Rattle.dw_rules.specs.Rules.{IsTable, Rule, offset, rule_in}
use Rattle.dw_unwind.specs.Caller.{IsCaller, IsRegister, machine, value}
use Rattle.dw_unwind.specs.Contents.{HasContents, contents_in}
use Rattle.dw_unwind.specs.declared.usual_step.TheConstants.{LITTLE_64}
use Rattle.dw_unwind.proofs.Contents.{by_contents}
use Rattle.dw_unwind.proofs.InPlace.{saved-under}
use Rattle.dw_unwind.proofs.usual_step.step_in_place.Goals as goal

pub return_rule-requires-clause-table : goal.return_rule-requires-clause-table
return_rule-requires-clause-table g c =
    subst (λ (rules : List (ℕ × Rule)). IsTable 0 rules) c.in_ok-rules.ensures.rules c.plain_rules.ensures.ascending

pub returns-clause-steps : goal.returns-clause-steps
returns-clause-steps g c =
    let old = contents_in c.args.file.now in
    let memory = g.M.Memory.bytes c.args.memory.now in
    let e = machine LITTLE_64 old memory in
    let cfa = value c.in_ok-cfa.cfa in
    let abi = abi_of c.args.kept.now c.args.stack_pointer in
    let row = c.in_ok-row.row in
    let file = contents_in c.rules_in_place.new.file in
    let left = c.in_ok-offset.ensures.rule in
    let n = c.in_ok-row.number in
    let found = value c.in_ok-return_address.return_address in
    let same : to_z w64 (of_z w64 c.in_ok-offset.offset) ≡ c.in_ok-offset.offset = search rules in
    let gives : IsRegister e cfa n (offset c.in_ok-offset.offset) found =
    subst (λ (o : ℤ). IsRegister e cfa n (offset o) found) same (c.in_ok-return_address.ensures old n) in
    let has = subst (λ (rules : List (ℕ × Rule)). HasContents e cfa (rule_under abi rules) file) (sym c.in_ok-rules.ensures.rules)
    (c.rules_in_place.ensures c.in_ok-rules.rules c.in_ok-offset.offset
    (subst (λ (rules : List (ℕ × Rule)). IsTable 0 rules) c.in_ok-rules.ensures.rules c.plain_rules.ensures.ascending) left gives) in
    let saved = subst (λ (rules : List (ℕ × Rule)). rule_in rules n ≡ offset c.in_ok-offset.offset) (sym c.in_ok-rules.ensures.rules) left.rule in
    let is = saved-under abi row.rules n c.in_ok-offset.offset saved in
    let made = by_contents e abi n row cfa found _ file
    c.rules_under_abis.ensures.each c.rules_under_abis.ensures.all c.cfa.ensures.cfa (c.in_ok-cfa.ensures memory) has
    (λ r le. c.ends.ensures r (omega (arith, le)))
    (subst (λ (x : Rule). IsRegister e cfa n x found) (sym is) gives) in
    record {
      found = made.0;
      unwinds = (
        Some (row, n),
        c.in_ok-row.ensures.found,
        subst (λ (t : Target). IsCaller (machine t old memory) abi n row (record {
          cfa = cfa;
          registers = made.0;
          return_address = found;
        })) (sym c.if-not-is_little_64.ensures ∙ c.rows_target.ensures) made.1,
      );
      contents_are = made.2;
    }
