use Rattle.std.proofs.Common.{◌≡◌, ◌++◌, map}
use Rattle.std.specs.List.{filter_map}
use Rattle.dw_frame.specs.Records.{cie_in_record, fde_in_record}
use Rattle.dw_bytes.specs.Answers.{fault_in, values_in}
use Rattle.dw_frame.specs.Sections.{records_of}
use Rattle.dw_frame.specs.Views.{cie_of, fde_of}
use Rattle.dw_rows.proofs.checked_frame.records_of.Given as goal

abbrev pub invariant-loop-entry : goal.invariant-loop-entry
invariant-loop-entry l = record {
  fault : fault_in (records_of l.fn.target l.fn.section) ≡ fault_in l.entry-iterator;
  cies : filter_map cie_in_record (values_in (records_of l.fn.target l.fn.section)) ≡ map cie_of l.cies.items
      ++ filter_map cie_in_record (values_in l.entry-iterator);
  fdes : filter_map fde_in_record (values_in (records_of l.fn.target l.fn.section)) ≡ map fde_of l.fdes.items
      ++ filter_map fde_in_record (values_in l.entry-iterator);
}
