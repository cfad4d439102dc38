use Rattle.std.proofs.Common.{◌≡◌, ◌++◌, ◌∷◌, [], length, map, sym, ap, subst, refl, ◌∙◌, arith, List}
use Rattle.std.proofs.lemmas.List.{map-append}
use Rattle.dw_frame.specs.Records.{Cie}
use Rattle.dw_frame.specs.Views.{cie_of}
use Rattle.dw_rules.specs.Initial.{AreLeftBy}
use Rattle.dw_rules.specs.ProgramState.{IsLeftBy, ProgramState}
use Rattle.dw_rules.proofs.Initials.{left-one}
use Rattle.dw_eh_rows.proofs.Tallies.{tally-cie}
use Rattle.dw_eh_rows.proofs.tally.count_cie.Goals as goal

pub returns-clause-counted : goal.returns-clause-counted
returns-clause-counted c = λ is cies fdes so_far.
    let old = c.args.tally.now in
    let cie = c.args.cie.now in
    let added : map cie_of c.push.new.self.items ≡ map cie_of old.cies.items ++ cie_of cie ∷ [] =
    ap (map cie_of) c.in_ok-push.ensures.items ∙ map-append cie_of old.cies.items (cie ∷ []) in
    let before : AreLeftBy (map cie_of old.cies.items) old.initial = subst (λ (l : List Cie). AreLeftBy l old.initial) (sym so_far.cies_are) so_far.left in
    let one : IsLeftBy (cie_of cie) c.initial_rules.result.now =
    subst (IsLeftBy (cie_of cie)) (sym (c.initial_rules.ensures ∙ ap (λ (m : ProgramState). m.initial_rules) c.context.view_is))
    (c.in_ok-is_good_cie.ensures.left c.if-not-branch.false) in
    let left : AreLeftBy (map cie_of c.push.new.self.items) c.push-2.new.self =
    rw (added, c.in_ok-push-2.ensures) (left-one (map cie_of old.cies.items) old.initial (cie_of cie) c.initial_rules.result.now before one) in
    tally-cie cies fdes old _ (cie_of cie) so_far added left (c.in_ok-is_good_cie.ensures.good c.if-not-branch.false)
    (omega (arith, c.in-Some.ensures, c.count.ensures, ap length (c.in_ok-is_good_cie.ensures.expressions c.if-not-branch.false)))
    refl refl refl refl
