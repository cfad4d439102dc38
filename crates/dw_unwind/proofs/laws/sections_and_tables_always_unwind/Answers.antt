use Rattle.std.proofs.Common.{◌≡◌, ℕ, Option}
use Rattle.std.specs.Borrow.{Bor}
use Rattle.dw_rows.specs.Section.{FrameSection}
use Rattle.dw_tables.specs.UnwindTables.{RowTable, row_at}
use Rattle.dw_rows.specs.RowLookups.{IsFoundAt}
use Rattle.dw_unwind.specs.Caller.{machine}
use Rattle.dw_unwind.specs.Modules.{over_modules_of_rows, over_sections, over_tables, unborrowed}
use Rattle.dw_unwind.specs.Walks.{over_rows, over_section, over_table}
use Rattle.dw_unwind.proofs.WalksOver.{always_as, over_a_table, over_what_a_table_gives, over_what_is_found}
use Rattle.dw_unwind.proofs.laws.sections_and_tables_always_unwind.Goals as goal

pub returns-clause-section : goal.returns-clause-section
returns-clause-section c = λ frame abi memory checked.
    let some = λ (registers : ℕ → Option ℕ) (address : ℕ).
    c.each_address_has_an_unwinding.ensures (machine frame.target registers memory) abi frame address checked in (
      some,
      always_as (over_rows frame.target (IsFoundAt frame) abi memory) (over_section frame abi memory) (over_what_is_found frame abi memory) some,
    )

pub returns-clause-table : goal.returns-clause-table
returns-clause-table c = λ frame table abi memory checked is.
    let some =
    always_as (over_table table abi memory) (over_section frame abi memory) (over_a_table frame table abi memory is)
    (λ registers address. c.each_address_has_an_unwinding.ensures (machine frame.target registers memory) abi frame address checked) in (
      some,
      always_as (over_rows table.target (λ address found. found ≡ row_at table address) abi memory) (over_table table abi memory)
          (over_what_a_table_gives table abi memory) some,
    )

pub returns-clause-sections : goal.returns-clause-sections
returns-clause-sections c = λ sections abi memory checked registers address.
    c.each_address_has_an_unwinding_through_modules.ensures sections abi memory registers address checked

pub returns-clause-borrowed_sections : goal.returns-clause-borrowed_sections
returns-clause-borrowed_sections c = λ modules abi memory checked.
    always_as
    (over_modules_of_rows (λ (s : Bor FrameSection). s.now.target) (λ (s : Bor FrameSection). IsFoundAt s.now) abi memory modules)
    (over_sections abi memory (unborrowed modules)) (c.unwindings_through_what_is_found.ensures.found modules abi memory)
    (λ registers address.
    c.each_address_has_an_unwinding_through_modules.ensures (unborrowed modules) abi memory registers address checked)

pub returns-clause-tables : goal.returns-clause-tables
returns-clause-tables c = λ sections tables abi memory checked are.
    let some =
    always_as (over_tables abi memory tables) (over_sections abi memory sections)
    (λ registers address caller. c.unwindings_through_what_is_found.ensures.tables sections tables abi memory registers address caller are)
    (λ registers address. c.each_address_has_an_unwinding_through_modules.ensures sections abi memory registers address checked) in (
      some,
      always_as
          (over_modules_of_rows (λ (t : RowTable). t.target) (λ (t : RowTable) address found. found ≡ row_at t address) abi memory tables)
          (over_tables abi memory tables) (c.unwindings_through_what_is_found.ensures.rows tables abi memory) some,
    )

pub returns-clause-borrowed_tables : goal.returns-clause-borrowed_tables
returns-clause-borrowed_tables c = λ sections tables abi memory checked are.
    always_as
    (over_modules_of_rows (λ (t : Bor RowTable). t.now.target) (λ (t : Bor RowTable) address found. found ≡ row_at t.now address)
    abi memory tables)
    (over_tables abi memory (unborrowed tables)) (c.unwindings_through_what_is_found.ensures.borrowed tables abi memory)
    (always_as (over_tables abi memory (unborrowed tables)) (over_sections abi memory sections)
    (λ registers address caller.
    c.unwindings_through_what_is_found.ensures.tables sections (unborrowed tables) abi memory registers address caller are)
    (λ registers address. c.each_address_has_an_unwinding_through_modules.ensures sections abi memory registers address checked))
