use Rattle.std.proofs.Common.{ap, sym, ◌∙◌, arith}
use Rattle.dw_eh_frame.specs.FirstFdes.{Firsts, listed}
use Rattle.dw_eh_frame.proofs.FirstFdes.{listed-none}
use Rattle.dw_eh_frame.proofs.first_fdes.FirstFdes.listed.Goals as goal

pub returns-else-address-self : goal.returns-else-address-self
returns-else-address-self c =
    sym (ap (λ (f : Firsts). listed f.places c.args.address) (sym c.self.view_is)
    ∙ listed-none c.self.inside.ascending.items c.args.address
    (λ p among same. omega (arith, same, c.self.invariant.1 p among, c.if-address-self.false)))
