use Rattle.std.proofs.Common.{ℕ, Option, drop}
use Rattle.dw_unwind.specs.CallerViews.{machine_in}
use Rattle.dw_unwind.specs.Contents.{Keeps, contents_in}
use Rattle.dw_unwind.specs.MissingPlaces.{Writes}
use Rattle.dw_unwind.proofs.caller_contents.keep_into.Given as goal

-- what the remaining registers make of the contents that are wanted so far is what all make of the
-- first contents
abbrev pub invariant-loop-number : goal.invariant-loop-number
invariant-loop-number g l = record {
  wanted : ℕ → Option ℕ;
  goes : (final : ℕ → Option ℕ)
      → Keeps (machine_in g.R.Registers.contents g.M.Memory.bytes l.present) (drop l.number-index l.kept) wanted final
      → Keeps (machine_in g.R.Registers.contents g.M.Memory.bytes l.present) l.kept (contents_in l.initial.into) final;
  writes : Writes wanted (contents_in l.into) l.all_placed;
}
