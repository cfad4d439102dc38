pub mod NamedTexts
pub mod Shown
pub mod Simple
