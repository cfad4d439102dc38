-- ---- Trusted: what docs/OUTPUT.md says about state files. The main promise (docs/HEADLINE.md)
-- needs none of these.

-- parsing numbers and addresses
pub mod Addresses
-- splitting text into lines and words
pub mod Parts
-- what a state file gives
pub mod StateFile
-- ---- What the code's values mean, and what its calls return.

-- what the code's state lines and machine states mean
pub mod StateViews
