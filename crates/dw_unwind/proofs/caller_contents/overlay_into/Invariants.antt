use Rattle.std.proofs.Common.{◌≡◌, ◌++◌, ℕ, Option, map}
use Rattle.dw_rules.specs.Views.{numbered_rule_of}
use Rattle.dw_unwind.specs.CallerViews.{answer_in, machine_in}
use Rattle.dw_unwind.specs.Contents.{Overlays, contents_in}
use Rattle.dw_unwind.specs.MissingPlaces.{Writes}
use Rattle.dw_unwind.proofs.caller_contents.overlay_into.Given as goal

-- what the remaining rules make of the contents that are wanted so far is what all make of the
-- first contents
abbrev pub invariant-loop-number : goal.invariant-loop-number
invariant-loop-number g l = record {
  whole : map numbered_rule_of l.yielded ++ l.number-iterator ≡ l.fn.rules;
  wanted : ℕ → Option ℕ;
  goes : (final : ℕ → Option ℕ)
      → Overlays (machine_in g.R.Registers.contents g.M.Memory.bytes l.present) (answer_in l.cfa) l.number-iterator wanted final
      → Overlays (machine_in g.R.Registers.contents g.M.Memory.bytes l.present) (answer_in l.cfa) l.fn.rules (contents_in l.initial.into) final;
  writes : Writes wanted (contents_in l.into) l.all_placed;
}
