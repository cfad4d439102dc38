use Rattle.std.proofs.Common.{◌≡◌, ◌++◌, ◌∷◌, take, drop, length, insert}
use Rattle.dw_rules.proofs.register_rules.insert_into.Given as goal

abbrev pub invariant-loop-at : goal.invariant-loop-at
invariant-loop-at l = (take l.at l.entries ++ l.moved ∷ drop l.at l.initial.entries ≡ insert l.initial.entries l.place l.fn.entry)
    × (drop l.at l.entries ≡ drop l.at l.initial.entries)
    × (length l.entries ≡ length l.initial.entries)
