-- ---- Trusted: what docs/PROFILE.md and docs/OUTPUT.md say about texts and files. The main promise
-- (docs/HEADLINE.md) needs none of these.

-- the text of a report
pub mod Report
-- the lines of refusals, FDEs and rows
pub mod Text
-- the text of an expression's outcome
pub mod Outcomes
-- the text of a caller
pub mod CallerText
-- the text of a walk up the stack
pub mod WalkText
-- what the files of a request contain
pub mod Files
-- the outcome of an expression, given a state file
pub mod Evaluations
-- the text of what a location list gives at an address
pub mod Lookups
-- what a run writes, and how it ends
pub mod Runs
-- ---- What the code's values mean, and what its calls return.

-- the report's line on one of the code's checked expressions
pub mod ReportViews
-- the modules that the code has read from files
pub mod FileViews
-- why a run stops
pub mod Stops
-- the bytes that a sink has accepted
pub mod SinkBytes
-- the bytes that a source has left
pub mod SourceBytes
-- what a call has written, by its result
pub mod WriteResults
