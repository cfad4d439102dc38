use Rattle.dw_eh_rows.proofs.WholeSections.{well-formed}
use Rattle.dw_eh_rows.proofs.laws.sections_without_fault_are_well_formed.Goals as goal

pub returns : goal.returns
returns c = well-formed (record {
  encoded = c.sections_are_records.ensures;
  placed = c.records_lie_one_after_another.ensures;
  good = c.records_without_fault_are_good.ensures;
})
