use Rattle.std.proofs.Common.{◌≡◌, ◌+◌, ◌++◌, List, sym, ap, subst, ◌∙◌, arith}
use Rattle.dw_frame.specs.Views.{cie_of, fde_of}
use Rattle.dw_rows.specs.UnwindRows.{rows_of}
use Rattle.dw_rows.proofs.Faults.{at-found}
use Rattle.dw_rows.proofs.expressions.Lending.{lends-listed}
use Rattle.dw_tables.specs.CompiledTable.{StoredSet, returning, rows_to, IsTableUpTo}
use Rattle.dw_tables.specs.NumberedPrograms.{NumberedState}
use Rattle.dw_tables.specs.FdeRows.{rows_bytes}
use Rattle.dw_tables.specs.UnwindTables.{fde_bytes}
use Rattle.dw_tables.proofs.TableRows.{filled, rows-grown, rows-joined}
use Rattle.dw_tables.proofs.TableRoom.{cost-returning, fde-cost, lacks-more, still-lacks}
use Rattle.dw_tables.proofs.stored_table.fill.Goals as goal

pub returns-clause-filled : goal.returns-clause-filled
returns-clause-filled c =
    let s = c.args.frame.now in
    let es = s.expressions in
    let cie = cie_of c.in_ok-cie.cie in
    let fde = fde_of c.args.fde.now in
    let end = fde.initial_location + fde.address_range in
    let none = c.in_ok-append_rows.ensures.faultless c.if-not-branch.false in
    let ready = c.in_ok-begin_at.ensures.begun in
    let mid = c.begin_at.new.self.entries in
    let mid_sets = c.begin_fde.new.self.sets in
    let same : mid_sets ≡ c.begin_at.new.self.numbers.sets = ap (λ (v : NumberedState). v.sets) c.in_ok-cie.ensures.begun in
    let new = c.append_rows.new.entries in
    let new_sets = c.append_rows.new.numbers.sets in
    let added = c.in_ok-append_rows.ensures.added c.if-not-branch.false in
    let table : IsTableUpTo es fde.initial_location mid mid_sets =
    subst (λ (l : List StoredSet). IsTableUpTo es fde.initial_location mid l) (sym same) (ready.table es c.requires.table c.requires.order) in
    let lends = lends-listed s c.requires.listed cie fde (at-found s.cies fde.cie_pointer cie c.in_ok-cie.ensures.cie).0 c.requires.among in
    let old_rows = rows_to c.args.table.now.numbers.sets c.args.table.now.entries c.args.table.now.end in
    let before : rows_to mid_sets mid fde.initial_location ≡ old_rows =
    ap (λ (l : List StoredSet). rows_to l mid fde.initial_location) same ∙ ready.rows es c.requires.table in
    let rows : rows_to new_sets new end ≡ old_rows ++ returning cie.return_address_register (rows_of cie fde) =
    ap (λ l. rows_to new_sets l end) added.entries ∙ rows-joined new_sets mid added.more end
    ∙ ap (λ n. rows_to new_sets mid n ++ rows_to new_sets added.more end) added.first
    ∙ ap (λ l. l ++ rows_to new_sets added.more end)
    (rows-grown mid_sets new_sets added.same mid table.within fde.initial_location ∙ before)
    ∙ ap (λ l. old_rows ++ l) added.rows in
    filled s cie fde c.args.table.now.end c.args.table.now.entries new c.args.table.now.numbers.sets new_sets c.in_ok-cie.ensures.cie rows
    (added.table es none lends table)

pub returns-clause-spent : goal.returns-clause-spent
returns-clause-spent c =
    let cie = cie_of c.in_ok-cie.cie in
    let fde = fde_of c.args.fde.now in
    omega (
      arith,
      c.in_ok-begin_at.ensures.spent,
      ap (λ (v : NumberedState). v.room) c.in_ok-cie.ensures.begun,
      c.in_ok-append_rows.ensures.spent c.if-not-branch.false,
      cost-returning cie.return_address_register (rows_of cie fde),
      fde-cost c.args.frame.now cie fde c.in_ok-cie.ensures.cie,
    )

pub returns-in_err-append_rows-clause-short : goal.returns-in_err-append_rows-clause-short
returns-in_err-append_rows-clause-short c =
    let s = c.args.frame.now in
    let cie = cie_of c.in_ok-cie.cie in
    let fde = fde_of c.args.fde.now in
    let why = c.in_err-append_rows.field-0.0 in
    still-lacks c.from_residual-in_err-append_rows.result why c.args.table.now.numbers.room (fde_bytes s fde)
    c.from_residual-in_err-append_rows.ensures.1
    (lacks-more why c.begin_fde.new.self.room c.args.table.now.numbers.room (rows_bytes cie fde) (fde_bytes s fde)
    (λ less. omega (
      arith,
      less,
      c.in_ok-begin_at.ensures.spent,
      ap (λ (v : NumberedState). v.room) c.in_ok-cie.ensures.begun,
      cost-returning cie.return_address_register (rows_of cie fde),
      fde-cost s cie fde c.in_ok-cie.ensures.cie,
    )) c.in_err-append_rows.ensures.short)
