-- ---- Trusted: what an `.eh_frame` section says. To check the main promise (docs/HEADLINE.md)
-- against the LSB, read these files.

-- what is read of a section, its first fault, and when it is well formed
pub mod Section
-- which addresses are those of signal frames
pub mod Signals
-- what is kept of a section if bad records are left out
pub mod KeptRecords
-- what a section contains, in numbers
pub mod Counts
-- ---- Internal.

-- what is known while records are split
pub mod Splitting
-- what is known while records are counted
pub mod Counting
