use Rattle.std.proofs.Common.{◌≡◌, ◌++◌, ◌∷◌, take, drop, length, insert, take_all, take_at, arith, sym, ap, ◌∙◌}
use Rattle.dw_rules.proofs.Edits.{insert-last}
use Rattle.dw_rules.proofs.register_rules.insert_into.Goals as goal

pub returns : goal.returns
returns c =
    let old = c.args.entries.now in
    let n = length old in
    let new = c.loop-at.entries in
    let end : c.loop-at.at ≡ n = omega (arith, c.loop-at-test.false, c.loop-at.auto.at, c.requires) in
    let whole : take n new ≡ new = take_all n new (omega (arith, c.loop-at.invariant.2)) in
    let joined : new ++ c.loop-at.moved ∷ drop n old ≡ insert old c.args.place c.args.entry = rw (end, whole) at c.loop-at.invariant.0 in
    sym (take_at new (c.loop-at.moved ∷ drop n old) n c.loop-at.invariant.2) ∙ ap (take n) joined
    ∙ insert-last old c.args.place c.args.entry c.requires
