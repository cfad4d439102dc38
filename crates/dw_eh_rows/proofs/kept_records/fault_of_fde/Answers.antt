use Rattle.std.proofs.Common.{◌≡◌, Option, Some, None, Result, Ok, Err, cond, is_some, sym, ap, ◌∙◌, arith, map}
use Rattle.std.specs.Prelude.{IfOk}
use Rattle.std.specs.Option.{option_or}
use Rattle.std.proofs.lemmas.List.{length-map}
use Rattle.dw_bytes.specs.declared.fault.Fault.{Fault}
use Rattle.dw_bytes.specs.declared.fault.FaultKind.TheVariants.{NoSuchCie}
use Rattle.dw_frame.specs.Records.{Cie}
use Rattle.dw_frame.specs.Views.{cie_of, fde_of}
use Rattle.dw_rules.specs.ProgramFault.{fde_fault}
use Rattle.dw_rows.specs.Section.{cie_at, fault_by_cie, pointer_fault, program_fault}
use Rattle.dw_rows.proofs.Elements.{read-map}
use Rattle.dw_rules.proofs.Initials.{left-count, left-at}
use Rattle.dw_eh_rows.proofs.kept_records.fault_of_fde.Goals as goal

pub set_initial_rules-requires : goal.set_initial_rules-requires
set_initial_rules-requires c =
    let long = length-map c.args.cies.now cie_of in
    let inside = c.in-Some.ensures in
    omega (arith, long, left-count (map cie_of c.args.cies.now) c.args.initial.now c.requires.left, inside.0)

pub fault_of_program-requires : goal.fault_of_program-requires
fault_of_program-requires c =
    let x = c.index-cies-place.result in
    let found = c.in-Some.ensures in
    left-at (map cie_of c.args.cies.now) c.args.initial.now c.in-Some.place (cie_of x) _ c.requires.left
    (read-map cie_of c.args.cies.now c.in-Some.place x found.0 (sym c.index-cies-place.is)) c.set_initial_rules.ensures.first

-- with the CIE that was found
known : (r : Result (Option Fault) Fault) (why all : Option Fault) → why ≡ all → IfOk r (λ fault. fault ≡ why) → IfOk r (λ fault. fault ≡ all)
known (Ok fault) why all same is = is ∙ same
known (Err fault) why all same is = is

pub returns-clause-exact : goal.returns-clause-exact
returns-clause-exact c =
    let x = c.index-cies-place.result in
    let f = fde_of c.args.fde.now in
    let cies = map cie_of c.args.cies.now in
    let found = c.in-Some.ensures in
    let at : cie_at cies f.cie_pointer ≡ Some (cie_of x) =
    found.1 ∙ read-map cie_of c.args.cies.now c.in-Some.place x found.0 (sym c.index-cies-place.is) in
    let nowhere : Fault = record { kind = NoSuchCie; at = f.cie_pointer_offset } in
    let same : fde_fault (cie_of x) f ≡ option_or (pointer_fault cies f) (program_fault cies f) =
    sym (ap (λ (o : Option Cie). option_or (cond (is_some o) None (Some nowhere)) (fault_by_cie o f)) at) in
    known c.fault_of_program.result (fde_fault (cie_of x) f) (option_or (pointer_fault cies f) (program_fault cies f)) same
    c.fault_of_program.ensures.exact
