-- what a module's section says of its addresses besides their rows
pub mod Marks
-- modules in order of address, and the module of an address
pub mod ModuleMaps
-- the modules of a process: how adding and removing changes them, and the row of an address
pub mod Processes
-- the range of a module
pub mod Ranges
-- the first module that has a row
pub mod FirstRows
-- why a module isn't added
pub mod Refusals
-- modules whose rows come from an `.eh_frame` section
pub mod EhModules
-- modules with both sections
pub mod BothSections
-- a cache of hints
pub mod RowCaches
