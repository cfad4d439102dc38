use Rattle.std.proofs.lemmas.Result.{err_from_is_err_and}
use Rattle.dwcheck_c.proofs.in_place.look_up_compact.Goals as goal

pub returns-in_err-place-clause-why : goal.returns-in_err-place-clause-why
returns-in_err-place-clause-why c =
    let p = err_from_is_err_and c.from_residual.result c.from_residual.ensures.1 in rw (p.1, p.2)
    (c.in_err-place.ensures.why c.args.address)
