use Rattle.std.proofs.Common.{rules}
use Rattle.dw_bytes.specs.Answers.{values_in}
use Rattle.dw_frame.specs.Sections.{records_of}
use Rattle.dw_rows.specs.Section.{section_fault}
use Rattle.dw_rows.proofs.sections.Standing.{section-answered}
use Rattle.dw_rows.proofs.sections.SectionOrder.{read-placed}
use Rattle.dw_rows.proofs.checked_frame.check_frame.Goals as goal

pub check_records-requires : goal.check_records-requires
check_records-requires c = record {
  records = values_in (records_of c.args.target c.args.section.now);
  placed = read-placed c.args.target c.args.section.now c.in_ok-cies.ensures.read;
  cies_are = c.in_ok-cies.ensures.cies;
  fdes_are = c.in_ok-cies.ensures.fdes;
}

pub returns-in_err-cies-clause-inside : goal.returns-in_err-cies-clause-inside
unfolding section_fault
returns-in_err-cies-clause-inside c = section-answered c.args.target c.args.section.now c.from_residual.result (search rules)

pub returns-clause-inside : goal.returns-clause-inside
unfolding section_fault
returns-clause-inside c = section-answered c.args.target c.args.section.now c.check_records.result (search rules)
