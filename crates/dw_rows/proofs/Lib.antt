pub mod Search
pub mod Faults
pub mod Elements
pub mod programs
pub mod sections
pub mod expressions
pub mod rows
