use Rattle.std.proofs.Common.{◌≡◌, ◌≤◌, ℕ, true, drop}
use Rattle.dw_rules.specs.Abi.{abi_of, is_among, rule_under}
use Rattle.dw_unwind.specs.CallerViews.{answer_in, machine_in}
use Rattle.dw_unwind.specs.MissingPlaces.{LacksContent}
use Rattle.dw_unwind.specs.declared.register_file.TheConstants.{PLACES}
use Rattle.dw_unwind.proofs.missing_places.kept_lack_place.Given as goal

-- if no remaining register has a content without a place, none has
abbrev pub invariant-loop-number : goal.invariant-loop-number
invariant-loop-number g l =
    let e = machine_in g.R.Registers.contents g.M.Memory.bytes l.present in
    let ruled = rule_under (abi_of l.kept l.stack_pointer) l.rules in
    ((r : ℕ) → is_among r (drop l.number-index l.kept) ≡ true → PLACES ≤ r → LacksContent e (answer_in l.cfa) ruled r)
    → (r : ℕ) → is_among r l.kept ≡ true → PLACES ≤ r → LacksContent e (answer_in l.cfa) ruled r
