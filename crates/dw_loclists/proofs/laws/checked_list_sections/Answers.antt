use Rattle.dw_loclists.proofs.Checked.{checked-tables, lists-ascend}
use Rattle.dw_loclists.proofs.Standing.{located-ascend, good-expressions, one-target}
use Rattle.dw_loclists.proofs.Located.{one-list}
use Rattle.dw_loclists.proofs.laws.checked_list_sections.Goals as goal

pub returns : goal.returns
returns c = record {
  tables = checked-tables;
  lists_ascend = lists-ascend;
  expressions_ascend = located-ascend;
  one_list = one-list;
  good = good-expressions;
  target =
      one-target;
}
