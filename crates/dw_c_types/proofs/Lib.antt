mod Assembled
mod FirstBlock
mod FirstTwice
pub mod Putting
