use Rattle.std.proofs.Common.{arith, map}
use Rattle.std.proofs.lemmas.List.{length-map}
use Rattle.dw_frame.specs.Views.{fde_of}
use Rattle.dw_rows.specs.AddressIndex.{fde_at}
use Rattle.dw_rows.proofs.sections.Sweeps.{swept-none, swept-skip, swept-more, swept-all, clash-at}
use Rattle.dw_rows.proofs.sections.Indexes.{entry-within, entry-placed}
use Rattle.dw_rows.proofs.index.overlaps.Goals as goal
use Rattle.dw_rows.proofs.index.overlaps.Goals.{then-fde-last+else-fde-end, else-fde-last}

pub loop-entry-init : goal.loop-entry-init
loop-entry-init c = swept-none (map (fde_at (map fde_of c.args.fdes.now)) c.args.index.now) c.args.last

pub bounds-fdes-entry : goal.bounds-fdes-entry
bounds-fdes-entry c = entry-within c.args.fdes.now c.args.index.now c.loop-entry.entry-index _ c.requires.each c.loop-entry-test.true

pub returns-then-fde-end : goal.returns-then-fde-end
returns-then-fde-end c =
    let view = fde_at (map fde_of c.args.fdes.now) in
    let long = length-map c.args.index.now view in
    let placed =
    entry-placed c.args.fdes.now c.args.index.now c.loop-entry.entry-index _ c.index-fdes-entry.result c.requires.each
    c.loop-entry-test.true c.index-fdes-entry.is in
    clash-at (map view c.args.index.now) c.args.last c.loop-entry.entry-index c.loop-entry.end
    (fde_of c.index-fdes-entry.result) c.requires.index_of.ordered c.loop-entry.invariant (omega arith) placed (omega arith)
    (omega arith)

pub loop-entry-preserved : goal.loop-entry-preserved
loop-entry-preserved c =
    let view = fde_at (map fde_of c.args.fdes.now) in
    let long = length-map c.args.index.now view in
    let placed =
    entry-placed c.args.fdes.now c.args.index.now c.loop-entry.entry-index _ c.index-fdes-entry.result c.requires.each
    c.loop-entry-test.true c.index-fdes-entry.is in
    elim c.if-fde-last.branch [
      | then-fde-last+else-fde-end w ↦ rw w.end-is
          (swept-more (map view c.args.index.now) c.args.last c.loop-entry.entry-index c.loop-entry.end
          (fde_of c.index-fdes-entry.result) c.loop-entry.invariant (omega arith) placed (omega arith) (omega arith))
      | else-fde-last w ↦ rw w.end-is (swept-skip (map view c.args.index.now) c.args.last c.loop-entry.entry-index c.loop-entry.end
          (fde_of c.index-fdes-entry.result) c.loop-entry.invariant (omega arith) placed (omega arith))
    ]

pub returns : goal.returns
returns c =
    let view = fde_at (map fde_of c.args.fdes.now) in
    let long = length-map c.args.index.now view in
    swept-all (map view c.args.index.now) c.args.last c.loop-entry.entry-index c.loop-entry.end c.loop-entry.invariant (omega arith)
