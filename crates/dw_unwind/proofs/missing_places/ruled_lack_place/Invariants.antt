use Rattle.std.proofs.Common.{◌≡◌, ◌++◌, map}
use Rattle.dw_rules.specs.Rules.{rule_in}
use Rattle.dw_rules.specs.Views.{numbered_rule_of}
use Rattle.dw_unwind.specs.CallerViews.{answer_in, machine_in}
use Rattle.dw_unwind.specs.MissingPlaces.{LacksFarContents}
use Rattle.dw_unwind.proofs.missing_places.ruled_lack_place.Given as goal

-- if no register of the remaining rules has a content without a place, none has
abbrev pub invariant-loop-number : goal.invariant-loop-number
invariant-loop-number g l = record {
  whole : map numbered_rule_of l.yielded ++ l.number-iterator ≡ l.fn.rules;
  lacks : LacksFarContents (machine_in g.R.Registers.contents g.M.Memory.bytes l.present) (answer_in l.cfa) (rule_in l.number-iterator)
      → LacksFarContents (machine_in g.R.Registers.contents g.M.Memory.bytes l.present) (answer_in l.cfa) (rule_in l.fn.rules);
}
