use Rattle.std.proofs.Common.{◌≡◌, ℕ, ◌<◌, List, Contains, arith, refl, sym, subst}
use Rattle.dw_bytes.specs.declared.target.AddressSize.{AddressSize}
use Rattle.dw_bytes.specs.declared.target.AddressSize.TheVariants.{Four, Eight}
use Rattle.dw_bytes.specs.Encoding.{max_address}
use Rattle.dw_frame.specs.Bounds.{Ascends}
use Rattle.dw_frame.specs.Records.{Fde}
use Rattle.dw_rows.specs.AddressIndex.{fde_offset}
use Rattle.dw_in_place.specs.LookUps.{LeadsTo, record_offset}
use Rattle.dw_in_place.specs.Views.{table_of}
use Rattle.dw_in_place.proofs.leads.leads_to_all.Goals as goal

small : (size : AddressSize) → max_address size < 18446744073709551616
small Four = omega arith
small Eight = omega arith

pub names_only-requires : goal.names_only-requires
names_only-requires c =
    subst (λ (l : List Fde). Ascends fde_offset l) (sym c.fdes-fdes.ensures.fdes)
    (c.checked_frame_sections.ensures.fdes_ascend c.args.frame.now c.section.ensures.checked)

pub leads_to_each-requires-clause-fit : goal.leads_to_each-requires-clause-fit
leads_to_each-requires-clause-fit c f among =
    let fits = c.fdes-fdes.ensures.fit f (subst (λ (l : List Fde). Contains l f) c.fdes-fdes.ensures.fdes among) in
    let most = small (c.args.frame.now).target.address_size in
    omega arith

pub returns-then-not-names_only-clause-not : goal.returns-then-not-names_only-clause-not
returns-then-not-names_only-clause-not c led =
    let t = table_of c.args.table.now in
    let fdes = c.fdes-fdes.ensures.fdes in
    let yes = c.if-not-names_only.ensures.1
    (subst (λ (l : List Fde). (k : ℕ) → k < t.count → (f : Fde) × Contains l f × (record_offset t c.args.start k ≡ f.offset)) (sym fdes)
    led.only) in
    cc

pub returns-then-not-leads_to_each-clause-not : goal.returns-then-not-leads_to_each-clause-not
returns-then-not-leads_to_each-clause-not c led =
    let t = table_of c.args.table.now in
    let fdes = c.fdes-fdes.ensures.fdes in
    c.if-not-leads_to_each.ensures.not
    (subst (λ (l : List Fde). (f : Fde) → Contains l f → 0 < f.address_range → LeadsTo t c.args.start f) (sym fdes) led.each)

pub returns-clause-leads : goal.returns-clause-leads
returns-clause-leads c =
    let t = table_of c.args.table.now in
    let start = c.args.start in
    let fdes = c.fdes-fdes.ensures.fdes in
    record {
      in_order = c.if-not-is_in_order.ensures.0 refl;
      each = subst (λ (l : List Fde). (f : Fde) → Contains l f → 0 < f.address_range → LeadsTo t start f) fdes
          c.if-not-leads_to_each.ensures.lead;
      only = subst (λ (l : List Fde). (k : ℕ) → k < t.count → (f : Fde) × Contains l f × (record_offset t start k ≡ f.offset)) fdes
          (c.if-not-names_only.ensures.0 refl);
    }
