-- ---- Trusted: what DWARF 5 says. To check the main promise (docs/HEADLINE.md) against DWARF 5,
-- read these files.

-- CIEs and FDEs (6.4.1)
pub mod Records
-- the dialects that programs are written in
pub mod Dialects
-- call frame instructions (6.4.2)
pub mod Instructions
-- which bytes encode which instruction (7.24), and how an instruction is read
pub mod Codes
-- which bytes encode which record (6.4.1, 7.24), and how a record is read
pub mod Sections
-- where records lie in their section, and instructions in their program
pub mod Bounds
-- ---- How the code's types correspond to these definitions.

-- what the code's headers stand for
pub mod Headers
-- what the code's programs, records and instructions stand for
pub mod Views
