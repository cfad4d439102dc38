use Rattle.std.proofs.Common.{◌≡◌, suc, ◌+◌, ◌-◌, ◌++◌, length, take, drop, slice_range, take_at, append_assoc, length-take-le, rules, arith, ap, ◌∙◌}
use Rattle.std.specs.List.{remove_range}
use Rattle.std.proofs.lemmas.List.{places}
use Rattle.dw_rules.proofs.register_rules.EntryTable.remove.Goals as goal

pub returns-clause-items : goal.returns-clause-items
returns-clause-items c =
    let count = c.self.inside.count in
    let xs = take count c.self.inside.entries in
    let i = c.args.place in
    let long : length xs ≡ count = length-take-le count c.self.inside.entries (omega (arith, c.self.invariant.0, c.self.invariant.1)) in
    let left = remove_range xs i (i + 1) in
    let gone = slice_range xs i (i + 1) in
    let front : length left ≡ count - 1 = search (rules, places) in
    let moved : c.move_to_end.new.entries ≡ left ++ gone = c.move_to_end.ensures in
    let next : i + 1 ≡ suc i = omega arith in
    rw (← c.self.view_is, moved) (ap (take (count - 1)) (append_assoc left gone _) ∙ take_at left _ (count - 1) front
    ∙ ap (λ k. take i xs ++ drop k xs) next)
