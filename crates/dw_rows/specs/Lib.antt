-- ---- Trusted: what DWARF 5 says. To check the main promise (docs/HEADLINE.md) against the
-- standard, read the files of this part.

-- the rows of an FDE's program (6.4.1)
pub mod UnwindRows
-- what each kind of instruction does to the rules, one statement for each kind (6.4.2.2 to 6.4.2.4)
pub mod Clauses
-- when a program is good: remember_states and restore_states match, locations never go back, rows
-- have CFA rules (6.4.1, 6.4.2)
pub mod GoodPrograms
-- whole sections: when one is accepted, its first fault, the row of an address (6.4.1)
pub mod Section
-- when a section is well formed (6.4.1)
pub mod WellFormed
-- rows whose expressions are all good, which means safe to evaluate (6.4.2.2, 6.4.2.3)
pub mod GoodRows
-- the only row of an address in an accepted section (6.4.1)
pub mod ExactRows
-- what a look-up of an address finds (6.4.1)
pub mod RowLookups
-- ---- How the code goes through programs and sections. No contract of a call uses the files of
-- this part, but for calls that only dw_tables makes.

-- programs that are checked while they are read
pub mod Checking
-- the quick check of an FDE's program
pub mod QuickCheck
-- runs of a program that stop after each row
pub mod RowCursors
-- FDEs in order of offset and of address: which share addresses, and the address index
pub mod AddressIndex
-- sections whose FDEs are listed before their programs are checked, and what they store
pub mod Listing
-- the expressions that have passed their check
pub mod KeptExpressions
