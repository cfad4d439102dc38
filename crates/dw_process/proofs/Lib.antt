mod Removing
pub mod Placing
pub mod Spans
pub mod Linking
pub mod Keeping
pub mod Finding
pub mod FirstOnes
pub mod RowsInRange
pub mod TwoTables
pub mod Strides
pub mod BothRefusals
