use Rattle.std.proofs.Common.{arith, sym, subst, ◌≡◌, ◌-◌, ◌+◌, ◌/◌, length, map}
use Rattle.std.proofs.lemmas.List.{length-map}
use Rattle.dw_frame.specs.Views.{fde_of}
use Rattle.dw_rows.specs.AddressIndex.{fde_at, ApartWithin, ClashWithin}
use Rattle.dw_rows.proofs.sections.Sweeps.{first-clash, none-clash, none-apart, apart-below}
use Rattle.dw_rules.proofs.Elements.{placed-map}
use Rattle.dw_rows.proofs.Elements.{offset-at}
use Rattle.dw_rows.proofs.index.first_overlap.Goals as goal
use Rattle.dw_rows.proofs.index.first_overlap.Goals.{then-high-eq0-via-then-high-eq0, then-high-eq0-via-else-high-eq0+then-not-overlaps}

pub returns-then-high-eq0 : goal.returns-then-high-eq0
returns-then-high-eq0 c =
    let long = length-map c.args.fdes.now fde_of in
    elim c.then-high-eq0.branch [
      | then-high-eq0-via-then-high-eq0 w ↦ none-apart (map fde_of c.args.fdes.now) (omega arith)
      | then-high-eq0-via-else-high-eq0+then-not-overlaps w ↦
          none-clash (map fde_of c.args.fdes.now) (map (fde_at (map fde_of c.args.fdes.now)) c.args.index.now) (length c.args.fdes.now - 1)
          (fde_of w.index-fdes-high.result) c.requires.fdes c.requires.index.index_of (omega arith) (omega arith)
          (placed-map fde_of c.args.fdes.now (length c.args.fdes.now - 1) w.index-fdes-high.result (sym w.index-fdes-high.is))
          (subst (λ v. ApartWithin (map (fde_at (map fde_of c.args.fdes.now)) c.args.index.now) v.offset)
          (sym w.index-fdes-high.is) w.if-not-overlaps.ensures)
    ]

pub loop-low-init : goal.loop-low-init
loop-low-init c =
    let long = length-map c.args.fdes.now fde_of in
    record {
      order = omega arith;
      within = omega arith;
      clash = λ d. subst (λ v. ClashWithin (map (fde_at (map fde_of c.args.fdes.now)) c.args.index.now) v)
          (sym (offset-at c.args.fdes.now (length c.args.fdes.now - 1) c.index-fdes-high.result d (omega arith))) c.if-not-overlaps.ensures;
      apart = λ k d lt. absurd (omega arith);
    }

pub loop-low-preserved : goal.loop-low-preserved
loop-low-preserved c =
    let long = length-map c.args.fdes.now fde_of in
    let middle = c.loop-low.low + (c.loop-low.high - c.loop-low.low) / 2 in
    let x = c.index-fdes-middle.result in
    record {
      order = omega arith;
      within = c.loop-low.invariant.within;
      clash = c.loop-low.invariant.clash;
      apart = λ k d lt. apart-below (map fde_of c.args.fdes.now) (map (fde_at (map fde_of c.args.fdes.now)) c.args.index.now) middle
          (fde_of x) c.requires.fdes (omega arith) (placed-map fde_of c.args.fdes.now middle x (sym c.index-fdes-middle.is))
          (subst (λ v. ApartWithin (map (fde_at (map fde_of c.args.fdes.now)) c.args.index.now) v.offset)
          (sym c.index-fdes-middle.is) c.if-overlaps.ensures) k d (omega arith);
    }

pub returns : goal.returns
returns c =
    let here : c.loop-low.low ≡ c.loop-low.high = omega arith in
    let long = length-map c.args.fdes.now fde_of in
    let x = c.index-fdes-high-2.result in
    first-clash (map fde_of c.args.fdes.now) (map (fde_at (map fde_of c.args.fdes.now)) c.args.index.now) c.loop-low.high
    (fde_of x) c.requires.fdes c.requires.index.index_of (omega (arith, c.loop-low.invariant.within))
    (placed-map fde_of c.args.fdes.now c.loop-low.high x (sym c.index-fdes-high-2.is))
    (subst (λ v. ClashWithin (map (fde_at (map fde_of c.args.fdes.now)) c.args.index.now) v.offset)
    (placed-map fde_of c.args.fdes.now c.loop-low.high x (sym c.index-fdes-high-2.is)) (c.loop-low.invariant.clash (fde_of x)))
    (λ k d lt. c.loop-low.invariant.apart k d (omega arith))
