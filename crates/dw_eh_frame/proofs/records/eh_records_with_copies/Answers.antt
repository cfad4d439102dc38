use Rattle.std.proofs.Common.{map, ap, ◌∙◌}
use Rattle.dw_frame.specs.Views.{cie_of, fde_of}
use Rattle.dw_eh_frame.proofs.Steps.{under-way-first, under-way-cies, under-way-fdes, under-way-placed, under-way-faultless}
use Rattle.dw_eh_frame.proofs.records.eh_records_with_copies.Goals as goal

pub loop-at-init : goal.loop-at-init
loop-at-init c = record {
  way = under-way-first c.args.is_aarch64 c.args.bases c.args.target c.args.section.now (map cie_of c.new.result.items)
      (map fde_of c.in_ok-with_capacity.field-0.items) (ap (map cie_of) c.new.ensures.items)
      (ap (map fde_of) c.in_ok-with_capacity.ensures.items);
  last = tt;
}

pub returns-clause-answer : goal.returns-clause-answer
returns-clause-answer c =
    under-way-faultless c.args.is_aarch64 c.args.bases c.args.target c.args.section.now c.loop-at.at (map cie_of c.loop-at.found.cies.items)
    (map fde_of c.loop-at.found.fdes.items) c.loop-at.invariant.way c.loop-at-test.false

pub returns-clause-placed : goal.returns-clause-placed
returns-clause-placed c =
    under-way-placed c.args.is_aarch64 c.args.bases c.args.target c.args.section.now c.loop-at.at (map cie_of c.loop-at.found.cies.items)
    (map fde_of c.loop-at.found.fdes.items) c.loop-at.invariant.way c.loop-at-test.false

pub returns-clause-cies : goal.returns-clause-cies
returns-clause-cies c =
    under-way-cies c.args.is_aarch64 c.args.bases c.args.target c.args.section.now c.loop-at.at (map cie_of c.loop-at.found.cies.items)
    (map fde_of c.loop-at.found.fdes.items) c.loop-at.invariant.way c.loop-at-test.false

pub returns-clause-fdes : goal.returns-clause-fdes
returns-clause-fdes c =
    ap (map fde_of) c.shrink_to_fit.ensures.items
    ∙ under-way-fdes c.args.is_aarch64 c.args.bases c.args.target c.args.section.now c.loop-at.at (map cie_of c.loop-at.found.cies.items)
    (map fde_of c.loop-at.found.fdes.items) c.loop-at.invariant.way c.loop-at-test.false
