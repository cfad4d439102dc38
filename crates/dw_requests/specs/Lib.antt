-- ---- Trusted: what docs/OUTPUT.md says about command lines and statuses. The main promise
-- (docs/HEADLINE.md) needs none of these.

-- modules as the values of `--module` name them
pub mod NamedModules
-- the meaning of a command's words, flags and options
pub mod Arguments
-- the table of commands, and what clap is told of them
pub mod Commands
-- the request of a command line
pub mod Requests
-- how many bytes at the front of a file determine the reply to a request
pub mod LongFiles
-- exit statuses
pub mod Statuses
-- ---- What the code's values mean.

-- the code's table of commands
pub mod CommandViews
