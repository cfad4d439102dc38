use Rattle.std.proofs.Common.{refl, subst}
use Rattle.std.specs.Prelude.{option_map}
use Rattle.dw_rules.specs.AbiViews.{roles_of}
use Rattle.dw_check.specs.CallerText.{caller_text}
use Rattle.dw_unwind.specs.CallerViews.{caller_in}
use Rattle.dw_unwind.specs.Modules.{unborrowed}
use Rattle.dw_state.specs.StateViews.{known_state_of}
use Rattle.dw_check.specs.WriteResults.{WritesWhole}
use Rattle.dw_check.proofs.KnownMachine.{same_caller}
use Rattle.dw_check.proofs.Replies.{writes_if_whole}
use Rattle.dw_check.proofs.runs.unwind_and_write.Goals as goal

pub returns-clause-written : goal.returns-clause-written
returns-clause-written g c = λ facts given.
    let modules = c.args.modules.now in
    let size = c.args.out.now.size in
    let old = g.S.Sink.taken c.args.out.now.sink.now in
    let new = g.S.Sink.taken c.write_caller.new.out.sink.now in
    let caller = option_map caller_in c.unwind-caller.result in
    let known = known_state_of c.args.state.now in
    let abi = roles_of c.abi.result in
    let over = (c.unwindings_through_what_is_found.ensures.found modules abi known.memory known.registers c.args.address caller).0
    c.unwind-caller.ensures.unwinds in
    let unwinds = same_caller (unborrowed modules) abi known facts given c.abi.ensures c.args.address caller over in
    let written = subst (λ o. WritesWhole old new c.write_caller.result (caller_text size (option_map caller_in o)))
    c.as_ref.ensures.value c.write_caller.ensures.written
    in
    (caller_text size caller, (caller, unwinds, refl), writes_if_whole old new c.write_caller.result (caller_text size caller) written)
