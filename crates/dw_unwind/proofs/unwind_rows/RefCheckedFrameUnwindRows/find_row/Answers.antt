use Rattle.std.proofs.Common.{sym, subst}
use Rattle.dw_rules.specs.Rules.{Row}
use Rattle.dw_rows.specs.RowLookups.{IsRowUnder}
use Rattle.dw_rows.proofs.rows.RowsUnder.{section-row-under}
use Rattle.dw_unwind.proofs.unwind_rows.RefCheckedFrameUnwindRows.find_row.Goals as goal

pub returns-in-Some-clause-under : goal.returns-in-Some-clause-under
returns-in-Some-clause-under c =
    let s = c.args.self.now.now in
    subst (λ (row : Row). IsRowUnder s.target row) (sym c.lend.ensures)
    (section-row-under s c.args.address _ c.section.ensures.checked c.in-Some.ensures.row)
