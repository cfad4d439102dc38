use Rattle.std.proofs.Common.{◌≡◌, ◌+◌, [], None, arith, inl, inr}
use Rattle.std.specs.Prelude.{find}
use Rattle.dw_frame.specs.Views.{cie_of, fde_of}
use Rattle.dw_rows.specs.UnwindRows.{rows_of, has_address}
use Rattle.dw_rows.specs.RowCursors.{cursor_at, RowCursor, above}
use Rattle.dw_rows.proofs.rows.Covering.{not-missed}
use Rattle.dw_rows.proofs.rows.Coming.{plain-row, seeks-found, seeks-on, seeks-cursor, seeks-nearer, seeks-cfa, seeks-lent, seeks-remembers}
use Rattle.dw_rows.proofs.rows.Coming.{seeks-no-restore, seeks-end}
use Rattle.dw_rows.proofs.lookup.seek_row.Goals as goal

pub next_plain-requires : goal.next_plain-requires
next_plain-requires c = ([], seeks-cursor _ _ _ _ c.loop-start.invariant)

pub returns-then-address-end : goal.returns-then-address-end
returns-then-address-end c =
    let cie = cie_of c.args.cie.now in
    let fde = fde_of c.args.fde.now in
    let w : RowCursor = cursor_at cie (fde.initial_location + fde.address_range) c.loop-start.state c.loop-start.instructions in
    let new : RowCursor = cursor_at cie (fde.initial_location + fde.address_range) c.next_plain.new.state c.next_plain.new.instructions in
    let h = c.loop-start.invariant in
    let step = plain-row w new c.in-Row.start c.in-Row.end [] c.in-Row.ensures.next in
    record {
      row = seeks-found cie fde c.args.address (above [] w) (above [] new) c.in-Row.start c.in-Row.end h step c.if-address-end.true;
      cfa = seeks-cfa cie fde c.args.address (above [] w) (above [] new) c.in-Row.start c.in-Row.end h step;
      lent = λ es lends.
          seeks-lent cie fde c.args.address (above [] w) (above [] new) c.in-Row.start c.in-Row.end es h step lends;
      left = (step cie fde h.before h.is_at).is_at.first;
    }

pub loop-start-smaller-else-address-end : goal.loop-start-smaller-else-address-end
loop-start-smaller-else-address-end c =
    let cie = cie_of c.args.cie.now in
    let fde = fde_of c.args.fde.now in
    let w : RowCursor = cursor_at cie (fde.initial_location + fde.address_range) c.loop-start.state c.loop-start.instructions in
    let new : RowCursor = cursor_at cie (fde.initial_location + fde.address_range) c.next_plain.new.state c.next_plain.new.instructions in
    let step = plain-row w new c.in-Row.start c.in-Row.end [] c.in-Row.ensures.next in
    omega (
      arith,
      seeks-nearer cie fde c.args.address (above [] w) (above [] new) c.in-Row.start c.in-Row.end c.loop-start.invariant step,
      c.in-Row.ensures.on,
    )

pub loop-start-preserved-else-address-end : goal.loop-start-preserved-else-address-end
loop-start-preserved-else-address-end c =
    let cie = cie_of c.args.cie.now in
    let fde = fde_of c.args.fde.now in
    let w : RowCursor = cursor_at cie (fde.initial_location + fde.address_range) c.loop-start.state c.loop-start.instructions in
    let new : RowCursor = cursor_at cie (fde.initial_location + fde.address_range) c.next_plain.new.state c.next_plain.new.instructions in
    let step = plain-row w new c.in-Row.start c.in-Row.end [] c.in-Row.ensures.next in
    seeks-on cie fde c.args.address (above [] w) (above [] new) c.in-Row.start c.in-Row.end c.loop-start.invariant step
    c.if-address-end.false

pub seek_in_bracket-requires-clause-seeks : goal.seek_in_bracket-requires-clause-seeks
seek_in_bracket-requires-clause-seeks c =
    let cie = cie_of c.args.cie.now in
    let fde = fde_of c.args.fde.now in
    let w : RowCursor = cursor_at cie (fde.initial_location + fde.address_range) c.loop-start.state c.loop-start.instructions in
    let new : RowCursor = cursor_at cie (fde.initial_location + fde.address_range) c.next_plain.new.state c.next_plain.new.instructions in
    ([], seeks-remembers cie fde c.args.address w new [] c.loop-start.invariant c.in-Remembers.ensures.next)

pub loop-start-smaller : goal.loop-start-smaller
loop-start-smaller c =
    let cie = cie_of c.args.cie.now in
    let fde = fde_of c.args.fde.now in
    let w : RowCursor = cursor_at cie (fde.initial_location + fde.address_range) c.loop-start.state c.loop-start.instructions in
    let new : RowCursor = cursor_at cie (fde.initial_location + fde.address_range) c.next_plain.new.state c.next_plain.new.instructions in
    let h = c.loop-start.invariant in
    let went = c.in-Remembers.ensures.next [] cie fde h.before h.is_at in
    let past = c.in_default.ensures.past in
    omega (arith, c.in-Remembers.ensures.on, went.here, past.location, past.shorter)

pub loop-start-preserved : goal.loop-start-preserved
loop-start-preserved c =
    let cie = cie_of c.args.cie.now in
    let fde = fde_of c.args.fde.now in
    let w : RowCursor = cursor_at cie (fde.initial_location + fde.address_range) c.loop-start.state c.loop-start.instructions in
    let new : RowCursor = cursor_at cie (fde.initial_location + fde.address_range) c.next_plain.new.state c.next_plain.new.instructions in
    c.in_default.ensures.past.seeks []
    (seeks-remembers cie fde c.args.address w new [] c.loop-start.invariant c.in-Remembers.ensures.next)

pub unreachable-requires : goal.unreachable-requires
unreachable-requires c =
    let cie = cie_of c.args.cie.now in
    let fde = fde_of c.args.fde.now in
    let w : RowCursor = cursor_at cie (fde.initial_location + fde.address_range) c.loop-start.state c.loop-start.instructions in
    let new : RowCursor = cursor_at cie (fde.initial_location + fde.address_range) c.next_plain.new.state c.next_plain.new.instructions in
    elim c.in-Restores.is [
      | inl restores ↦ seeks-no-restore cie fde c.args.address w new c.loop-start.invariant (rw restores at c.next_plain.ensures.next)
      | inr ends ↦
          let none : find (has_address c.args.address) (rows_of cie fde) ≡ None =
          seeks-end cie fde c.args.address w new [] c.loop-start.invariant (rw ends at c.next_plain.ensures.next) in
          not-missed cie fde c.args.address c.requires.fde c.requires.low c.requires.high none
    ]
