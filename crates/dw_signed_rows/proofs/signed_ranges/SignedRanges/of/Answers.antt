use Rattle.std.proofs.Common.{◌∙◌, ◌≡◌, List, map, sym, ap, subst, arith}
use Rattle.std.proofs.lemmas.List.{length-map}
use Rattle.dw_frame.specs.Records.{Cie, Fde}
use Rattle.dw_frame.specs.Views.{cie_of, fde_of}
use Rattle.dw_rows.specs.AddressIndex.{IsAddressIndex, IsIndexOf, fde_at}
use Rattle.dw_rows.specs.Section.{FrameSection, cie_at}
use Rattle.dw_rows.specs.declared.index.IndexEntry.{IndexEntry}
use Rattle.dw_frame.specs.declared.entry.FrameDescriptionEntry.{FrameDescriptionEntry}
use Rattle.dw_rows.proofs.sections.Indexes.{entry-placed}
use Rattle.dw_signed_rows.proofs.Sections.{signed-begin, signed-done, signed-on}
use Rattle.dw_signed_rows.proofs.signed_ranges.SignedRanges.of.Goals as goal

-- the index of the section's FDEs
module _ (s : FrameSection) (fdes : List FrameDescriptionEntry) (index : List IndexEntry) (same : map fde_of fdes ≡ s.fdes)
    (is : IsAddressIndex s.fdes index) where
  here : IsAddressIndex (map fde_of fdes) index
  here = subst (λ (l : List Fde). IsAddressIndex l index) (sym same) is

  pub indexed : IsIndexOf s.fdes (map (fde_at (map fde_of fdes)) index)
  indexed = subst (λ (l : List Fde). IsIndexOf l (map (fde_at (map fde_of fdes)) index)) same here.index_of

pub loop-entry-init : goal.loop-entry-init
loop-entry-init c = signed-begin c.args.frame.now _ c.new-ranges.result.items c.new-ranges.ensures.items

pub push_signed_rows-requires-clause-low : goal.push_signed_rows-requires-clause-low
push_signed_rows-requires-clause-low c =
    let fdes = c.fdes-fdes.result.now in
    let index = c.index-index.result.now in
    let view = fde_at (map fde_of fdes) in
    let is : IsAddressIndex (map fde_of fdes) index =
    subst (λ (l : List Fde). IsAddressIndex l index) (sym c.fdes-fdes.ensures.fdes) c.index-index.ensures.index in
    let x = c.index-fdes-entry.result in
    let k = c.loop-entry.entry-index in
    let long = length-map index view in
    let placed = entry-placed fdes index k _ x is.each c.loop-entry-test.true c.index-fdes-entry.is in
    let low = c.loop-entry.invariant.next k (fde_of x) (omega arith) (omega arith) in
    omega (arith, low, ap (λ (f : Fde). f.initial_location) placed)

pub loop-entry-preserved : goal.loop-entry-preserved
loop-entry-preserved c =
    let fdes = c.fdes-fdes.result.now in
    let index = c.index-index.result.now in
    let view = fde_at (map fde_of fdes) in
    let is : IsAddressIndex (map fde_of fdes) index =
    subst (λ (l : List Fde). IsAddressIndex l index) (sym c.fdes-fdes.ensures.fdes) c.index-index.ensures.index in
    let x = c.index-fdes-entry.result in
    let k = c.loop-entry.entry-index in
    let long = length-map index view in
    let placed = entry-placed fdes index k _ x is.each c.loop-entry-test.true c.index-fdes-entry.is in
    signed-on c.args.frame.now (map view index) k (cie_of c.cie_of-cie.result) (fde_of x) c.loop-entry.ranges.items
    c.push_signed_rows.new.ranges.items c.index-index.ensures.checked
    (indexed c.args.frame.now fdes index c.fdes-fdes.ensures.fdes c.index-index.ensures.index) (omega arith) placed c.cie_of-cie.ensures.cie
    c.loop-entry.invariant c.in_ok-push_signed_rows.ensures.pushed c.in_ok-push_signed_rows.ensures.order
    c.in_ok-push_signed_rows.ensures.end

pub returns-clause-signed : goal.returns-clause-signed
returns-clause-signed c =
    let fdes = c.fdes-fdes.result.now in
    let index = c.index-index.result.now in
    let view = fde_at (map fde_of fdes) in
    let long = length-map index view in
    signed-done c.args.frame.now (map view index) c.loop-entry.entry-index c.loop-entry.ranges.items c.index-index.ensures.checked
    (indexed c.args.frame.now fdes index c.fdes-fdes.ensures.fdes c.index-index.ensures.index) (omega (arith, c.loop-entry-test.false))
    c.loop-entry.invariant

pub push_signed_rows-requires-clause-first : goal.push_signed_rows-requires-clause-first
push_signed_rows-requires-clause-first c =
    c.is_signed_by-first.ensures (cie_of c.cie_of-cie.result)
    (ap (λ (l : List Cie). cie_at l c.index-fdes-entry.result.cie_pointer) c.cies-cies.ensures.cies ∙ c.cie_of-cie.ensures.cie)
