use Rattle.std.proofs.Common.{◌≡◌, ◌≤◌, ℕ, Option, subst, sym}
use Rattle.dw_rules.specs.Abi.{abi_of, rule_under}
use Rattle.dw_rules.specs.Views.{rule_of}
use Rattle.dw_unwind.specs.CallerViews.{answer_in, machine_in}
use Rattle.dw_unwind.specs.MissingPlaces.{HasFarContent, LacksContent}
use Rattle.dw_unwind.specs.declared.register_file.TheConstants.{PLACES}
use Rattle.dw_unwind.proofs.Places.{among-pointer}
use Rattle.dw_unwind.proofs.missing_places.pointer_lacks_place.Goals as goal

pub returns-in-Some : goal.returns-in-Some
returns-in-Some g c =
    let e = machine_in g.R.Registers.contents g.M.Memory.bytes c.args.present.now in
    let cfa = answer_in c.args.cfa in
    let ruled = rule_under (abi_of c.args.kept.now c.args.stack_pointer) c.args.rules.now in
    let Lacks : ℕ → Type 0 = λ r. PLACES ≤ r → LacksContent e cfa ruled r in
    among-pointer Lacks (HasFarContent e cfa ruled) c.args.stack_pointer c.in-Some.number c.lacks_place.result c.in-Some.is
    (c.lacks_place.ensures ruled
    (subst (λ (p : Option ℕ). rule_of c.rule_with_abi-rule.result ≡ rule_under (abi_of c.args.kept.now p) c.args.rules.now c.in-Some.number)
    (sym c.in-Some.is) c.rule_with_abi-rule.ensures.rule))
