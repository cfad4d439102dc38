use Rattle.std.proofs.Common.{◌≡◌, ◌<◌, ℕ, ℤ, drop, map}
use Rattle.std.specs.List.{AllByRecursion}
use Rattle.dw_rules.specs.SavedRules.{as_saved, saved_of}
use Rattle.dw_rules.specs.Views.{entries_of}
use Rattle.dw_rules.proofs.plain_rules.are_plain.Given as goal

-- if the remaining entries are such, all are
abbrev pub invariant-loop-entry : goal.invariant-loop-entry
invariant-loop-entry l = record {
  rules : entries_of (drop l.entry-index l.entries) ≡ map as_saved (map saved_of (drop l.entry-index l.entries))
      → entries_of l.entries ≡ map as_saved (map saved_of l.entries);
  below : AllByRecursion (λ (saved : ℕ × ℤ). saved.0 < l.limit) (map saved_of (drop l.entry-index l.entries))
      → AllByRecursion (λ (saved : ℕ × ℤ). saved.0 < l.limit) (map saved_of l.entries);
}
