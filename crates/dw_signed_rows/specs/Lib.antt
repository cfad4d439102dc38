-- where return addresses are signed, by the programs of FDEs
pub mod SignedRows
-- where they are signed in an accepted section
pub mod SignedSections
-- where they are signed in good programs, by the number of instructions
pub mod SignedPrograms
-- ranges of addresses, and the addresses that they have
pub mod SignedRanges
-- ---- Internal.

-- whether the return address is signed, while a program runs
pub mod Signatures
-- programs that are run row by row
pub mod SignedRuns
