pub mod Digits
pub mod Assembled
pub mod KeptNumbers
pub mod KnownState
pub mod Separated
pub mod StateLines
