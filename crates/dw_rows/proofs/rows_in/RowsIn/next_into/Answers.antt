use Rattle.std.proofs.Common.{rules, arith, refl, ap, map, ◌+◌, ◌<◌, ◌^◌}
use Rattle.dw_frame.specs.Views.{cie_of, fde_of}
use Rattle.dw_rules.specs.RowsWithExpressions.{row_with_expressions}
use Rattle.dw_rules.specs.RowExpressions.{row_expressions}
use Rattle.dw_rows.specs.RowCursors.{cursor_at}
use Rattle.dw_rows.proofs.rows.Coming.{ready-rests, ready-comes}
use Rattle.dw_rows.proofs.rows_in.RowsIn.next_into.Goals as goal

pub invariant_of-self-in-None : goal.invariant_of-self-in-None
invariant_of-self-in-None c = (
  (ready-rests (cie_of c.self.inside.cie) (fde_of c.self.inside.fde)
      (cursor_at (cie_of c.self.inside.cie) (c.self.inside.fde.initial_location + c.self.inside.fde.address_range) c.self.inside.context.now c.self.inside.instructions)
      (cursor_at (cie_of c.self.inside.cie) (c.self.inside.fde.initial_location + c.self.inside.fde.address_range) c.next_range.new.context c.next_range.new.instructions) c.self.inside.given c.self.invariant.0 c.in-None.ensures).ready,
  c.self.invariant.1,
)

pub returns-in-None-clause-none : goal.returns-in-None-clause-none
returns-in-None-clause-none c =
    let k = ready-rests (cie_of c.self.inside.cie) (fde_of c.self.inside.fde)
    (cursor_at (cie_of c.self.inside.cie) (c.self.inside.fde.initial_location + c.self.inside.fde.address_range) c.self.inside.context.now c.self.inside.instructions)
    (cursor_at (cie_of c.self.inside.cie) (c.self.inside.fde.initial_location + c.self.inside.fde.address_range) c.next_range.new.context c.next_range.new.instructions) c.self.inside.given c.self.invariant.0 c.in-None.ensures in
    let given = map (row_with_expressions (row_expressions c.self.inside.expressions)) in
    rw (← c.self.view_is) (ap given k.none, ap given k.still, refl)

pub overflow_add-self : goal.overflow_add-self
overflow_add-self c =
    let k = ready-comes (cie_of c.self.inside.cie) (fde_of c.self.inside.fde)
    (cursor_at (cie_of c.self.inside.cie) (c.self.inside.fde.initial_location + c.self.inside.fde.address_range) c.self.inside.context.now c.self.inside.instructions)
    (cursor_at (cie_of c.self.inside.cie) (c.self.inside.fde.initial_location + c.self.inside.fde.address_range) c.next_range.new.context c.next_range.new.instructions) c.self.inside.given c.in-Some.start c.in-Some.end c.self.invariant.0 c.in-Some.ensures in
    let top : c.in-Some.end < 2 ^ 64 = search rules in
    omega (arith, k.room)

pub write_row-requires : goal.write_row-requires
write_row-requires c =
    let k = ready-comes (cie_of c.self.inside.cie) (fde_of c.self.inside.fde)
    (cursor_at (cie_of c.self.inside.cie) (c.self.inside.fde.initial_location + c.self.inside.fde.address_range) c.self.inside.context.now c.self.inside.instructions)
    (cursor_at (cie_of c.self.inside.cie) (c.self.inside.fde.initial_location + c.self.inside.fde.address_range) c.next_range.new.context c.next_range.new.instructions) c.self.inside.given c.in-Some.start c.in-Some.end c.self.invariant.0 c.in-Some.ensures in
    record { cfa = k.cfa; lent = k.lent (row_expressions c.self.inside.expressions) c.self.invariant.1 }

pub invariant_of-self : goal.invariant_of-self
invariant_of-self c = (
  (ready-comes (cie_of c.self.inside.cie) (fde_of c.self.inside.fde)
      (cursor_at (cie_of c.self.inside.cie) (c.self.inside.fde.initial_location + c.self.inside.fde.address_range) c.self.inside.context.now c.self.inside.instructions)
      (cursor_at (cie_of c.self.inside.cie) (c.self.inside.fde.initial_location + c.self.inside.fde.address_range) c.next_range.new.context c.next_range.new.instructions) c.self.inside.given c.in-Some.start c.in-Some.end c.self.invariant.0 c.in-Some.ensures).ready,
  c.self.invariant.1,
)

pub returns-in-Some-clause-some : goal.returns-in-Some-clause-some
returns-in-Some-clause-some c =
    let k = ready-comes (cie_of c.self.inside.cie) (fde_of c.self.inside.fde)
    (cursor_at (cie_of c.self.inside.cie) (c.self.inside.fde.initial_location + c.self.inside.fde.address_range) c.self.inside.context.now c.self.inside.instructions)
    (cursor_at (cie_of c.self.inside.cie) (c.self.inside.fde.initial_location + c.self.inside.fde.address_range) c.next_range.new.context c.next_range.new.instructions) c.self.inside.given c.in-Some.start c.in-Some.end c.self.invariant.0 c.in-Some.ensures in
    rw (c.write_row.ensures, ← c.self.view_is) (ap (map (row_with_expressions (row_expressions c.self.inside.expressions))) k.rows)
