use Rattle.std.proofs.Common.{ℕ, ◌+◌, ◌-◌, ◌<◌, None, arith, sym, ap, subst, ◌∙◌}
use Rattle.dw_frame.specs.Views.{fde_of}
use Rattle.dw_rows.specs.Section.{Covers}
use Rattle.dw_in_place.specs.LookUps.{record_offset}
use Rattle.dw_in_place.specs.SearchTables.{location_in}
use Rattle.dw_in_place.specs.Views.{table_of}
use Rattle.dw_in_place.proofs.Entries.{found-entry, one-entry}
use Rattle.dw_in_place.proofs.leads.leads_to.Goals as goal

pub returns-in_default-clause-not : goal.returns-in_default-clause-not
returns-in_default-clause-not c led =
    let f = fde_of c.args.fde.now in
    let first : Covers f f.initial_location = (omega arith, omega (arith, c.requires.some)) in
    let found = found-entry (table_of c.args.table.now) f.initial_location led.entry None c.requires.order
    (led.each f.initial_location first) c.in_default.ensures in
    cc

pub returns-then-offset_of_record-from-clause-not : goal.returns-then-offset_of_record-from-clause-not
returns-then-offset_of_record-from-clause-not c led =
    let t = table_of c.args.table.now in
    let f = fde_of c.args.fde.now in
    let first : Covers f f.initial_location = (omega arith, omega (arith, c.requires.some)) in
    let same = one-entry t f.initial_location c.in-Some.entry led.entry c.requires.order c.in-Some.ensures
    (led.each f.initial_location first) in
    c.if-offset_of_record-from.true
    (c.offset_of_record.ensures ∙ (ap (record_offset t c.args.start) same ∙ (led.named ∙ sym c.from.ensures)))

pub returns-then-not-ends_after-clause-not : goal.returns-then-not-ends_after-clause-not
returns-then-not-ends_after-clause-not c led =
    let t = table_of c.args.table.now in
    let f = fde_of c.args.fde.now in
    let last = f.initial_location + (f.address_range - 1) in
    let first : Covers f f.initial_location = (omega arith, omega (arith, c.requires.some)) in
    let late : Covers f last = (omega arith, omega (arith, c.requires.some)) in
    let same = one-entry t f.initial_location led.entry c.in-Some.entry c.requires.order (led.each f.initial_location first)
    c.in-Some.ensures in
    let yes = c.if-not-ends_after.ensures.1
    (subst (λ (k : ℕ). k + 1 < t.count → last < location_in t (k + 1)) same (led.each last late).next) in
    cc
