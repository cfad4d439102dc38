use Rattle.std.proofs.Common.{◌≡◌, ◌++◌, ◌∷◌, [], map, sym, ap, subst, ◌∙◌}
use Rattle.std.proofs.lemmas.List.{map-append}
use Rattle.dw_frame.specs.Views.{cie_of}
use Rattle.dw_rules.specs.ProgramState.{IsLeftBy}
use Rattle.dw_rules.proofs.Initials.{left-one}
use Rattle.dw_eh_rows.proofs.kept_records.keep_cie.Goals as goal

pub returns-clause-left : goal.returns-clause-left
returns-clause-left c =
    let old = c.args.split.now in
    let cie = c.args.cie.now.cie in
    let one : IsLeftBy (cie_of cie) c.initial_rules.result.now = subst (IsLeftBy (cie_of cie)) (sym c.initial_rules.ensures) c.requires.rules in
    let cies : map cie_of c.push.new.self.items ≡ map cie_of old.cies.items ++ cie_of cie ∷ [] =
    ap (map cie_of) c.in_ok-push.ensures.items ∙ map-append cie_of old.cies.items (cie ∷ []) in
    let left : c.push-2.new.self ≡ old.initial ++ c.initial_rules.result.now ∷ [] = c.in_ok-push-2.ensures in
    rw (cies, left) (left-one (map cie_of old.cies.items) old.initial (cie_of cie) c.initial_rules.result.now c.requires.left one)
