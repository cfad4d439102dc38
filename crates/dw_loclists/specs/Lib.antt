-- ---- Trusted: what DWARF 5 says. To check the main promise (docs/HEADLINE.md) against the
-- standard, read these modules.

-- which bytes encode which entry (2.6.2, 7.7.3)
pub mod Entries
-- which bytes encode which list and table (7.7.3, 7.29)
pub mod Lists
-- which expressions of a list hold at an address (2.6.2)
pub mod Locations
-- where lists and expressions are in a section, and in what order
pub mod Bounds
-- ---- The first fault, computed from the bytes. Laws (../src/laws.rt) say how it follows from the
-- trusted definitions.

-- reading a section from left to right: its tables, lists and entries, or the first fault
pub mod Reading
-- ---- What the code's values mean, and what its calls return.

-- what the code's entries, lists and stored expressions mean
pub mod Views
-- ---- Internal: no contract of a public call uses these modules.

-- what the code stores about a section
pub mod Stored
-- how the code goes through a list to find the expressions that hold at an address
pub mod Walks
