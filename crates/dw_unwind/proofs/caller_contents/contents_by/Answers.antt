use Rattle.std.proofs.Common.{Some, subst, arith}
use Rattle.dw_bytes.specs.declared.target.Target.{Target}
use Rattle.dw_rules.specs.Abi.{abi_of}
use Rattle.dw_unwind.specs.Caller.{IsCaller, machine}
use Rattle.dw_unwind.specs.CallerViews.{answer_in}
use Rattle.dw_unwind.specs.Contents.{contents_in}
use Rattle.dw_unwind.proofs.Contents.{by_contents}
use Rattle.dw_unwind.proofs.Places.{caller-with-far}
use Rattle.dw_unwind.proofs.caller_contents.contents_by.Goals as goal

pub return_address-return_address-requires : goal.return_address-return_address-requires
return_address-return_address-requires g c = c.if-not-row_into.ensures.written

pub returns-clause-contents : goal.returns-clause-contents
returns-clause-contents g c =
    let known = g.R.Registers.contents c.args.registers.now in
    let memory = g.M.Memory.bytes c.args.memory.now in
    let e = machine c.rows_target.result known memory in
    let cfa = answer_in c.cfa-cfa.result in
    let abi = abi_of c.args.kept.now c.args.stack_pointer in
    let file = contents_in c.row_into.new.into in
    let made = by_contents e abi c.in-Some.number c.in-Some.row cfa (answer_in c.return_address-return_address.result) _ file
    c.rules_under_abis.ensures.each c.rules_under_abis.ensures.all c.cfa.ensures.cfa c.cfa-cfa.ensures c.if-not-row_into.ensures.written
    (λ r le. c.ends.ensures r (omega (arith, le))) c.return_address-return_address.ensures in
    record {
      found = made.0;
      unwinds = (
        Some (c.in-Some.row, c.in-Some.number),
        c.in-Some.ensures.found,
        subst (λ (t : Target). IsCaller (machine t known memory) abi c.in-Some.number c.in-Some.row (record {
          cfa = cfa;
          registers = made.0;
          return_address = answer_in c.return_address-return_address.result;
        })) c.rows_target.ensures made.1,
      );
      contents_are = made.2;
    }

pub returns-then-not-row_into-clause-no_place : goal.returns-then-not-row_into-clause-no_place
returns-then-not-row_into-clause-no_place g c =
    let known = g.R.Registers.contents c.args.registers.now in
    let memory = g.M.Memory.bytes c.args.memory.now in
    let e = machine c.rows_target.result known memory in
    let cfa = answer_in c.cfa-cfa.result in
    let abi = abi_of c.args.kept.now c.args.stack_pointer in
    let answers = c.if-not-row_into.ensures.answers in
    let made = caller-with-far e abi c.in-Some.number c.in-Some.row cfa _ answers.0 c.rules_under_abis.ensures.each
    c.rules_under_abis.ensures.all c.cfa.ensures.cfa c.cfa-cfa.ensures answers.1 c.if-not-row_into.ensures.lacks in
    record {
      caller = made.0;
      unwinds = (
        Some (c.in-Some.row, c.in-Some.number),
        c.in-Some.ensures.found,
        subst (λ (t : Target). IsCaller (machine t known memory) abi c.in-Some.number c.in-Some.row made.0) c.rows_target.ensures made.1,
      );
      past = made.2;
    }
