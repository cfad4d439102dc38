use Rattle.std.proofs.Common.{◌≡◌, take}
use Rattle.dw_rules.proofs.initial_rules.same_entries.Given as goal

abbrev pub invariant-loop-place : goal.invariant-loop-place
invariant-loop-place l = take l.place l.entries ≡ take l.place l.others
