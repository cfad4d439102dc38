-- ---- Trusted: what a compiled table of a section is. The main promise (docs/HEADLINE.md) needs
-- none of these.

-- compiled tables, which store all rows of a section
pub mod UnwindTables
-- ---- Internal: no contract of a public call uses the files of this part.

-- all rows of a section in order of address, as a compiled table stores them
pub mod CompiledTable
-- programs that run on rule sets with numbers
pub mod NumberedPrograms
-- the rows of an FDE, which are appended while its program is checked
pub mod FdeRows
