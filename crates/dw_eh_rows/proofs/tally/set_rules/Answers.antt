use Rattle.std.proofs.Common.{arith, map}
use Rattle.std.proofs.lemmas.List.{length-map}
use Rattle.dw_frame.specs.Views.{cie_of}
use Rattle.dw_rules.proofs.Initials.{left-count}
use Rattle.dw_eh_rows.proofs.Tallies.{left-here}
use Rattle.dw_eh_rows.proofs.tally.set_rules.Goals as goal

pub set_initial_rules-requires : goal.set_initial_rules-requires
set_initial_rules-requires c =
    let cies = c.args.tally.now.cies.items in
    omega (arith, length-map cies cie_of, left-count (map cie_of cies) c.args.tally.now.initial c.requires.left, c.in_ok-place.ensures.0)

pub returns-then-ne-clause-left : goal.returns-then-ne-clause-left
returns-then-ne-clause-left c =
    left-here (map cie_of c.args.tally.now.cies.items) c.args.tally.now.initial c.in_ok-place.place _ c.requires.left c.set_initial_rules.ensures.first
