use Rattle.std.proofs.Common.{◌-◌, arith}
use Rattle.dw_tables.proofs.table_entries.are_low.Goals as goal

pub returns : goal.returns
returns c = λ k d lt.
    let up = c.requires.sorted k (c.args.count - 1) d (omega arith) (omega (arith, c.requires.bound)) in
    omega (arith, up, c.at.ensures d, c.if-at-address.false)
