-- Programs of CIEs and FDEs: which are good, and what running them does.
pub mod Effects
pub mod Running
pub mod QuickChecks
pub mod Checking
pub mod Matching
pub mod Beginnings
pub mod InForce
pub mod Goods
pub mod Programs
pub mod OneMatch
pub mod CheckedInPlace
