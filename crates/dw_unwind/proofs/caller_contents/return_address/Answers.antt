use Rattle.std.proofs.Common.{sym}
use Rattle.dw_rules.specs.Abi.{abi_of, rule_of_role, rule_under}
use Rattle.dw_rules.specs.Rules.{rule_in}
use Rattle.dw_rules.specs.Views.{rule_of}
use Rattle.dw_unwind.specs.CallerViews.{answer_in, machine_in}
use Rattle.dw_unwind.specs.Contents.{contents_in}
use Rattle.dw_unwind.proofs.Contents.{by-abi, by-row, known-register}
use Rattle.dw_unwind.proofs.caller_contents.return_address.Goals as goal

pub returns-in-Some : goal.returns-in-Some
returns-in-Some g c =
    known-register (machine_in g.R.Registers.contents g.M.Memory.bytes c.args.present.now) (answer_in c.args.cfa)
    (rule_under (abi_of c.args.kept.now c.args.stack_pointer) c.args.row.now.rules) (contents_in c.args.found.now) c.args.number
    c.in-Some.content c.requires (sym c.in-Some.ensures)

pub returns-in-Default : goal.returns-in-Default
returns-in-Default g c =
    by-abi (machine_in g.R.Registers.contents g.M.Memory.bytes c.args.present.now) (answer_in c.args.cfa) c.args.number
    (rule_in c.args.row.now.rules c.args.number) (rule_of_role (abi_of c.args.kept.now c.args.stack_pointer c.args.number))
    (rule_of c.rule_of_abi.result) (answer_in c.register-in-Default.result) (c.in-Default.ensures).rule c.rule_of_abi.ensures.rule
    c.register-in-Default.ensures

pub returns-in_default : goal.returns-in_default
returns-in_default g c =
    by-row (machine_in g.R.Registers.contents g.M.Memory.bytes c.args.present.now) (answer_in c.args.cfa) c.args.number
    c.register-in-None.result (rule_of_role (abi_of c.args.kept.now c.args.stack_pointer c.args.number))
    (rule_in c.args.row.now.rules c.args.number) (answer_in c.register-in_default.result) c.in_default.not-Default
    c.register-in-None.ensures.rule c.register-in_default.ensures
