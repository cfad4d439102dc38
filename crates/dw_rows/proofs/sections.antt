-- Sections: their records, overlaps, index and faults.
pub mod Sweeps
pub mod Indexes
pub mod Standing
pub mod Clashes
pub mod Parts
pub mod SectionOrder
pub mod WellFormedSections
pub mod ListedSections
pub mod CheckedSections
pub mod FdesOfSections
pub mod CountedFdes
