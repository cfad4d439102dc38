use Rattle.std.proofs.Common.{◌≡◌, Option, arith, subst}
use Rattle.dw_bytes.specs.declared.target.Target.{Target}
use Rattle.dw_process.specs.BothSections.{AreBothRefused}
use Rattle.dw_process.specs.declared.address_range.AddressRange.{AddressRange}
use Rattle.dwcheck_c.specs.BothModules.{rooms_in}
use Rattle.dwcheck_c.specs.LoadedModules.{range_in}
use Rattle.dwcheck_c.proofs.both_sections.add_to.Goals as goal

pub returns-in-Err-clause-why : goal.returns-in-Err-clause-why
returns-in-Err-clause-why c =
    let m = c.args.module.now in
    let p = c.args.process.now in
    let rooms = rooms_in m c.args.eh_frame.now in
    let same : p.target ≡ c.args.target = grind (arith, c.if-ne.false, c.ne.ensures) in
    let refused : AreBothRefused c.args.sections p.target m.load_address (range_in m) rooms p.modules c.in-Err.why
    = subst (λ (range : Option AddressRange). AreBothRefused c.args.sections p.target m.load_address range rooms p.modules c.in-Err.why)
    c.range-range.ensures c.in-Err.ensures.refused in
    (same, subst (λ (target : Target). AreBothRefused c.args.sections target m.load_address (range_in m) rooms p.modules c.in-Err.why) same refused)
