pub mod Lengths
pub mod Sound
pub mod WholeCheck
