use Rattle.std.proofs.Common.{◌≡◌, ◌++◌, ℕ, ℤ, Option, map}
use Rattle.dw_rules.specs.SavedRules.{as_saved}
use Rattle.dw_unwind.specs.CallerViews.{answer_in, machine_in}
use Rattle.dw_unwind.specs.Contents.{Overlays, contents_in}
use Rattle.dw_unwind.proofs.usual_step.saved_into.Given as goal

-- what the remaining rules make of the contents so far is what all make of the first contents
abbrev pub invariant-loop-number : goal.invariant-loop-number
invariant-loop-number g l = record {
  whole : map (λ (saved : ℕ × ℤ). saved) l.yielded ++ l.number-iterator ≡ l.fn.rules;
  goes : (final : ℕ → Option ℕ)
      → Overlays (machine_in g.R.Registers.contents g.M.Memory.bytes l.present) (answer_in l.cfa) (map as_saved l.number-iterator) (contents_in l.into) final
      → Overlays (machine_in g.R.Registers.contents g.M.Memory.bytes l.present) (answer_in l.cfa) (map as_saved l.fn.rules) (contents_in l.initial.into) final;
}
