use Rattle.std.proofs.Common.{◌≡◌, ◌∷◌, ◌++◌, [], rules}
use Rattle.dw_bytes.specs.Operands.{block_of}
use Rattle.dw_loclists.specs.Locations.{location_of}
use Rattle.dw_loclists.proofs.StoredLists.{keeps-one}
use Rattle.dw_loclists.proofs.list.check_entry_expression.Goals as goal

pub returns-in_ok-push-in-Ok-clause-kept : goal.returns-in_ok-push-in-Ok-clause-kept
returns-in_ok-push-in-Ok-clause-kept c =
    let old = c.args.expressions.now.items in
    let pushed : c.push.new.self.items ≡ old ++ c.new.result ∷ [] = search rules in
    keeps-one (location_of (block_of c.args.block)) c.new.result old c.push.new.self.items c.new.ensures pushed
