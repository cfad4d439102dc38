use Rattle.std.proofs.Common.{◌≡◌, ◌∙◌, sym, true}
use Rattle.dw_cached_rows.specs.PackedRows.{are_small}
use Rattle.dw_cached_rows.proofs.RealignedRows.{is-realigned, realigned_row}
use Rattle.dw_cached_rows.proofs.stack_place.realigned_step.Goals as goal

pub returns-then-not-are_small-clause-other : goal.returns-then-not-are_small-clause-other
returns-then-not-are_small-clause-other g c = λ other base small known.
    absurd (cc (c.if-not-are_small.true, c.are_small.ensures, small))

pub returns-in-Some-clause-row : goal.returns-in-Some-clause-row
returns-in-Some-clause-row g c = λ goes.
    let small : are_small c.args.row.now ≡ true = sym c.are_small.ensures ∙ c.if-not-are_small.false in
    (realigned_row c.args.row.now, is-realigned c.args.row.now c.requires small)
