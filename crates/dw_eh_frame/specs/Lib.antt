-- ---- Trusted: what the LSB says of `.eh_frame` (LSB Core, sections 10.5 and 10.6), and what GNU as,
-- ld and GCC do besides. docs/PROFILE.md marks what is a choice of this reader.

-- pointer encodings (10.5.1), and the addresses that encoded pointers stand for
pub mod Pointers
-- augmentations of CIEs (10.6.1.1.1)
pub mod Augmentations
-- the dialects of programs (10.5.2)
pub mod Dialects
-- the records of a section, and how they are read (10.6.1)
pub mod Records
-- which bytes encode which records
pub mod Encoding
-- exact copies of FDEs
pub mod Copies
-- reading on after a record that can't be read
pub mod Items
-- ---- How the code's types correspond to these definitions.

pub mod Views
-- ---- Internal.

-- how copies are found
pub mod CopySearch
pub mod FirstFdes
-- what is known while records are read
pub mod Progress
