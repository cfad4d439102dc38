use Rattle.dw_tables.proofs.table.none_counted.Goals as goal

pub returns : goal.returns
returns c = λ cies fdes k d f lt at some. absurd (some (c.loop.invariant k d lt))
