use Rattle.std.proofs.Common.{◌≡◌, ◌+◌, [], ◌∷◌, ◌++◌, map, take, drop, sym, ap, subst, ◌∙◌, arith, rules}
use Rattle.std.proofs.Common.{append_assoc}
use Rattle.dw_frame.specs.Views.{cie_of}
use Rattle.dw_rules.specs.Expressions.{expressions_of, cie_expressions}
use Rattle.dw_rules.specs.ProgramFault.{cie_fault}
use Rattle.dw_rules.specs.ProgramState.{IsLeftBy}
use Rattle.dw_rows.proofs.Elements.{front-map}
use Rattle.dw_rows.proofs.Faults.{passed, drop-at}
use Rattle.dw_rules.proofs.Initials.{left-one}
use Rattle.dw_rows.proofs.record_checks.check_cies.Goals as goal

pub loop-cie-preserved : goal.loop-cie-preserved
loop-cie-preserved c =
    let cies = c.args.cies.now in
    let i = c.loop-cie.cie-index in
    let x = c.cie-item.result in
    let one : IsLeftBy (cie_of x) c.initial_rules.result.now = subst (IsLeftBy (cie_of x))
    (sym c.initial_rules.ensures) c.in_ok-check_cie_program.ensures.left in
    let kept : c.push.new.self ≡ c.loop-cie.left ++ c.initial_rules.result.now ∷ []
    = search rules in
    let front : map cie_of (take (i + 1) cies) ≡ map cie_of (take i cies) ++ cie_of x ∷ [] =
    front-map cie_of cies i x (omega arith) (sym c.cie-item.is) in
    record {
      fault = c.loop-cie.invariant.fault
          ∙ passed cie_of cie_fault cies i x (omega arith) (sym c.cie-item.is) c.in_ok-check_cie_program.ensures.fault;
      left = rw (front, kept) (left-one (map cie_of (take i cies)) c.loop-cie.left
          (cie_of x) c.initial_rules.result.now c.loop-cie.invariant.left one);
      kept =
          let ahead : cie_expressions (map cie_of (drop i cies)) ≡ expressions_of (cie_of x).program
          ++ cie_expressions (map cie_of (drop (i + 1) cies)) =
          ap (λ l. cie_expressions (map cie_of l)) (drop-at cies i x (omega arith) (sym c.cie-item.is)) in
          c.loop-cie.invariant.kept ∙ ap (λ l. c.loop-cie.checked ++ l) ahead
          ∙ sym (append_assoc c.loop-cie.checked (expressions_of (cie_of x).program) (cie_expressions (map cie_of (drop (i + 1) cies))))
          ∙ ap (λ l. l ++ cie_expressions (map cie_of (drop (i + 1) cies))) (sym c.in_ok-check_cie_program.ensures.kept);
    }
