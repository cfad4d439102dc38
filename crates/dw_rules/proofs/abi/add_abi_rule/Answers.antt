use Rattle.std.proofs.Common.{arith, sym, ap, length}
use Rattle.dw_rules.specs.Views.{stored_rule_of}
use Rattle.dw_rules.proofs.AbiRules.{one-more}
use Rattle.dw_rules.proofs.abi.add_abi_rule.Goals as goal

pub unreachable-requires : goal.unreachable-requires
unreachable-requires c =
    let more = one-more c.args.rules.now c.args.number (stored_rule_of c.args.rule) (omega arith) c.requires.rule c.requires.table
    (sym c.in-Default.ensures) in
    omega (arith, more, c.in-Err.ensures.1, c.requires.room)

pub returns-in-Ok-clause-added : goal.returns-in-Ok-clause-added
returns-in-Ok-clause-added c =
    let none = sym c.in-Default.ensures in
    let new = c.in-Ok.ensures.0 in
    let more = one-more c.args.rules.now c.args.number (stored_rule_of c.args.rule) (omega arith) c.requires.rule c.requires.table none in
    (none, new, omega (arith, ap length new, more))
