use Rattle.dwcheck_c.proofs.NoAnswers.{first-fault, no-room, not-usable}
use Rattle.dwcheck_c.proofs.in_place.dwcheck_row_in.Goals as goal

pub returns-clause-refused : goal.returns-clause-refused
returns-clause-refused c = λ is.
    let said = c.no_answer.ensures.reported is in
    (said.0, first-fault c.args.module.now c.args.header.now c.args.address c.in-Err.why said.0 c.in-Err.ensures.why said.1 said.2, said.3)

pub returns-clause-unusable : goal.returns-clause-unusable
returns-clause-unusable c = λ done none refused room.
    not-usable c.args.module.now c.args.header.now c.args.address c.in-Err.why c.no_answer.result c.in-Err.ensures.why
    c.no_answer.ensures.says refused room

pub returns-clause-room : goal.returns-clause-room
returns-clause-room c = λ is.
    no-room c.args.module.now c.args.header.now c.args.address c.in-Err.why c.no_answer.result c.in-Err.ensures.why
    c.no_answer.ensures.says is
