-- Paths through an expression's operations, and the states with which they reach an operation.
pub mod Routes
pub mod Describes
pub mod Ends
pub mod Runs
pub mod Heights
pub mod InStates
pub mod Unbranched
