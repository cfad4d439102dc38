use Rattle.std.proofs.Common.{◌≡◌, ℕ, subst}
use Rattle.std.proofs.lemmas.List.Elements.{recursion_from_All}
use Rattle.dw_rules.specs.Abi.{rule_under, rules_under}
use Rattle.dw_rules.specs.AbiViews.{roles_of}
use Rattle.dw_rules.specs.Rules.{Rule}
use Rattle.dw_unwind.specs.Caller.{IsRegister}
use Rattle.dw_unwind.specs.CallerViews.{answer_in, machine_in}
use Rattle.dw_unwind.proofs.Callers.{by_default, found_register}
use Rattle.dw_unwind.proofs.unwinding.return_address.Goals as goal

pub returns-in-Some : goal.returns-in-Some
returns-in-Some g c =
    let e = machine_in g.R.Registers.contents g.M.Memory.bytes c.args.present.now in
    let abi = roles_of c.args.abi.now in
    let rules = c.args.row.now.rules in
    found_register e (answer_in c.args.cfa) (rule_under abi rules) (rules_under abi rules) (g.L.RegisterList.registers c.args.found.now) c.in-Some.ensures.0
    c.args.number (answer_in c.in-Some.answer)
    (recursion_from_All (λ (entry : ℕ × Rule). entry.1 ≡ rule_under abi rules entry.0) (rules_under abi rules)
    (c.rules_under_abis.ensures.each abi rules)) c.requires c.in-Some.ensures.1

pub returns-in-None : goal.returns-in-None
returns-in-None g c =
    let e = machine_in g.R.Registers.contents g.M.Memory.bytes c.args.present.now in
    let rule = rule_under (roles_of c.args.abi.now) c.args.row.now.rules c.args.number in
    by_default e (answer_in c.args.cfa) c.args.number rule (answer_in c.register.result)
    (subst (λ (x : Rule). IsRegister e (answer_in c.args.cfa) c.args.number x (answer_in c.register.result)) c.register_with.ensures.rule
    c.register.ensures)
