pub mod Slots
pub mod Rules
pub mod Stacks
pub mod Programs
pub mod Seeking
