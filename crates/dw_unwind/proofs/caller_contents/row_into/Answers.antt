use Rattle.std.proofs.Common.{ℕ, List, Option, subst}
use Rattle.std.specs.Bool.{MatchBool}
use Rattle.dw_rules.specs.Abi.{abi_of, rule_under}
use Rattle.dw_rules.specs.Rules.{Rule}
use Rattle.dw_unwind.specs.CallerViews.{answer_in, machine_in}
use Rattle.dw_unwind.specs.Contents.{HasContents, contents_in}
use Rattle.dw_unwind.specs.MissingPlaces.{HasFarContent, LacksFarContents}
use Rattle.dw_unwind.proofs.Places.{near-unless}
use Rattle.dw_unwind.proofs.caller_contents.row_into.Goals as goal

pub returns-then-rules_into-clause-answers : goal.returns-then-rules_into-clause-answers
returns-then-rules_into-clause-answers g c =
    let e = machine_in g.R.Registers.contents g.M.Memory.bytes c.args.present.now in
    let abi = abi_of c.args.kept.now c.args.stack_pointer in
    let made = c.rules_into.ensures in (
      made.wanted,
      subst (λ (rules : List (ℕ × Rule)). HasContents e (answer_in c.args.cfa) (rule_under abi rules) made.wanted) c.rules.ensures.rules
          made.right,
    )

pub returns-then-rules_into-clause-written : goal.returns-then-rules_into-clause-written
returns-then-rules_into-clause-written g c =
    let e = machine_in g.R.Registers.contents g.M.Memory.bytes c.args.present.now in
    let cfa = answer_in c.args.cfa in
    let abi = abi_of c.args.kept.now c.args.stack_pointer in
    let made = c.if-rules_into.ensures in
    subst (λ (rules : List (ℕ × Rule)). HasContents e cfa (rule_under abi rules) (contents_in c.rules_into.new.into)) c.rules.ensures.rules
    (subst (λ (contents : ℕ → Option ℕ). HasContents e cfa (rule_under abi c.rules.result) contents) made.writes.all made.right)

pub returns-clause-answers : goal.returns-clause-answers
returns-clause-answers g c =
    let e = machine_in g.R.Registers.contents g.M.Memory.bytes c.args.present.now in
    let abi = abi_of c.args.kept.now c.args.stack_pointer in
    let made = c.rules_into.ensures in (
      made.wanted,
      subst (λ (rules : List (ℕ × Rule)). HasContents e (answer_in c.args.cfa) (rule_under abi rules) made.wanted) c.rules.ensures.rules
          made.right,
    )

pub returns-clause-written : goal.returns-clause-written
returns-clause-written g c =
    let e = machine_in g.R.Registers.contents g.M.Memory.bytes c.args.present.now in
    let cfa = answer_in c.args.cfa in
    let abi = abi_of c.args.kept.now c.args.stack_pointer in
    let made = c.rules_into.ensures in
    near-unless e cfa (rule_under abi c.args.row.now.rules) made.wanted (contents_in c.rules_into.new.into) c.rules_into.result
    c.some_lacks_place.result
    (subst (λ (rules : List (ℕ × Rule)). HasContents e cfa (rule_under abi rules) made.wanted) c.rules.ensures.rules made.right) made.writes
    c.ends.ensures
    (subst (λ (rules : List (ℕ × Rule)). MatchBool c.some_lacks_place.result (HasFarContent e cfa (rule_under abi rules))
    (LacksFarContents e cfa (rule_under abi rules))) c.rules-2.ensures.rules c.some_lacks_place.ensures)
