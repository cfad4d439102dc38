-- The rows of a checked section: that they are the standard's, and how they are found.
pub mod RowCursors
pub mod Coming
pub mod Covering
pub mod RowsOf
pub mod Lookups
pub mod OneRow
pub mod RowsWithExpressions
pub mod GoodRows
pub mod RowsUnder
