use Rattle.std.proofs.Common.{refl}
use Rattle.dw_rules.specs.AbiViews.{roles_of}
use Rattle.dw_unwind.specs.Modules.{unborrowed}
use Rattle.dw_state.specs.StateViews.{known_state_of}
use Rattle.dw_unwind.specs.Walks.{first_place}
use Rattle.dw_check.specs.WalkText.{walk_text}
use Rattle.dw_check.proofs.KnownMachine.{same_walk}
use Rattle.dw_check.proofs.runs.walk_and_write.Goals as goal

pub returns-clause-written : goal.returns-clause-written
returns-clause-written g c = λ facts given.
    let modules = c.args.modules.now in
    let sections = unborrowed modules in
    let size = c.args.out.now.size in
    let known = known_state_of c.args.state.now in
    let abi = roles_of c.abi-abi.result in
    let first = first_place c.args.address known.registers in
    let made = c.new-walk.ensures in
    let always = c.sections_and_tables_always_unwind.ensures.borrowed_sections modules abi known.memory c.requires.checked in
    let shown = (rw (made.over, made.abi, made.memory) at c.write_walk.ensures.written) first always made.first in
    let walks = (c.walks_through_what_is_found.ensures.found modules abi known.memory first c.args.limit shown.0 shown.1).0 shown.2 in (
      walk_text size shown.0 shown.1,
      (shown.0, shown.1, same_walk sections abi known facts given c.abi-abi.ensures c.args.address c.args.limit shown.0 shown.1 walks, refl),
      shown.3,
    )
