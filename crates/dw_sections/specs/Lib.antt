-- ---- Trusted: what DWARF 5 says. To check the main promise (docs/HEADLINE.md) against the
-- standard, read these.

-- when two sections are well formed, and their first fault
pub mod Checked
-- the main promise: what holds for sections that a check accepts
pub mod Headline
-- ---- Trusted: what docs/OUTPUT.md says about texts. The main promise doesn't need it.

-- the names of sections, and the text of a fault
pub mod Text
