use Rattle.dw_rows.proofs.sections.CheckedSections.{accepted, checked-cies-sound, checked-fdes-sound, checked-cies-ascend, checked-fdes-ascend}
use Rattle.dw_rows.proofs.expressions.GoodExpressions.{checked-expressions}
use Rattle.dw_rows.proofs.expressions.Lending.{one-at-offset}
use Rattle.dw_rows.proofs.laws.checked_frame_sections.Goals as goal

pub returns : goal.returns
returns c = record {
  accepted = accepted;
  cies = checked-cies-sound;
  fdes = checked-fdes-sound;
  cies_ascend = checked-cies-ascend;
  fdes_ascend = checked-fdes-ascend;
  expressions = checked-expressions;
  one_at_an_offset = one-at-offset;
}
