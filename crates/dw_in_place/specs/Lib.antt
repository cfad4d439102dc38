-- ---- Trusted: what `.eh_frame_hdr` and one record of `.eh_frame` say. To check what a look-up in
-- place promises against the LSB, read these files.

-- the binary search table of `.eh_frame_hdr` (10.6.2), and which entry is that of an address
pub mod SearchTables
-- one FDE with its CIE, without the rest of the section: its faults and its rows (10.6.1)
pub mod InPlace
-- a look-up by the table and then in place; when a table leads to all FDEs
pub mod LookUps
-- a look-up without a table, by going through the records
pub mod Scans
-- look-ups of rows that are as compilers write nearly all rows
pub mod CompactRows
-- ---- What values of the code's types stand for.
pub mod Views
-- what a look-up in place keeps for the next one
pub mod Known
