use Rattle.std.proofs.Common.{◌≤◌, ℕ}
use Rattle.std.proofs.lemmas.List.{drop_all}
use Rattle.dw_rules.specs.Abi.{abi_of, rule_under}
use Rattle.dw_unwind.specs.CallerViews.{answer_in, machine_in}
use Rattle.dw_unwind.specs.MissingPlaces.{LacksContent}
use Rattle.dw_unwind.specs.declared.register_file.TheConstants.{PLACES}
use Rattle.dw_unwind.proofs.Places.{among-next, among-none}
use Rattle.dw_unwind.proofs.missing_places.kept_lack_place.Goals as goal

pub returns : goal.returns
returns g c =
    let e = machine_in g.R.Registers.contents g.M.Memory.bytes c.args.present.now in
    let ruled = rule_under (abi_of c.args.kept.now c.args.stack_pointer) c.args.rules.now in
    let Lacks : ℕ → Type 0 = λ r. PLACES ≤ r → LacksContent e (answer_in c.args.cfa) ruled r in
    c.loop-number.invariant (among-none Lacks _ (drop_all c.loop-number.number-index c.args.kept.now c.loop-number-test.false))

pub returns-then-lacks_place : goal.returns-then-lacks_place
returns-then-lacks_place g c =
    rw c.if-lacks_place.true at (c.lacks_place.ensures (rule_under (abi_of c.args.kept.now c.args.stack_pointer) c.args.rules.now)
    c.rule_with_abi-rule.ensures.rule)

pub loop-number-preserved : goal.loop-number-preserved
loop-number-preserved g c =
    let e = machine_in g.R.Registers.contents g.M.Memory.bytes c.args.present.now in
    let ruled = rule_under (abi_of c.args.kept.now c.args.stack_pointer) c.args.rules.now in
    let Lacks : ℕ → Type 0 = λ r. PLACES ≤ r → LacksContent e (answer_in c.args.cfa) ruled r in
    let here = rw c.if-lacks_place.false at (c.lacks_place.ensures ruled c.rule_with_abi-rule.ensures.rule) in
    λ later. c.loop-number.invariant (among-next Lacks c.args.kept.now c.loop-number.number-index c.loop-number-test.true here later)
