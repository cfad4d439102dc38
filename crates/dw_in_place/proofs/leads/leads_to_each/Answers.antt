use Rattle.std.proofs.Common.{◌<◌, arith, sym, subst}
use Rattle.dw_frame.specs.Records.{Fde}
use Rattle.dw_frame.specs.Views.{fde_of}
use Rattle.dw_in_place.specs.LookUps.{LeadsTo}
use Rattle.dw_in_place.specs.Views.{table_of}
use Rattle.dw_rules.proofs.Elements.{contained-map}
use Rattle.dw_in_place.proofs.leads.leads_to_each.Goals as goal

pub returns-clause-lead : goal.returns-clause-lead
returns-clause-lead c f among some =
    let (x, (k, less, is), same) = contained-map fde_of c.args.fdes.now f among in
    let led = c.loop-fde.invariant k x (omega arith) is (subst (λ (g : Fde). 0 < g.address_range) (sym same) some) in
    subst (λ (g : Fde). LeadsTo (table_of c.args.table.now) c.args.start g) same led
