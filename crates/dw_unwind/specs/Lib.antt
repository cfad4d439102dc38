-- ---- Trusted: what DWARF 5 says. To check callers and walks against the standard, read the
-- modules below.

-- the caller of a frame: its CFA, registers and return address (6.4.1)
pub mod Caller
-- a walk up the stack: frames, each the caller of the one before it (6.4.1, 6.4.4)
pub mod Walks
-- unwinding through the modules of a process, each loaded at its own address
pub mod Modules
-- a walk that gives one frame at a time
pub mod WalkSteps
-- which callers and frames have only numbers below a bound
pub mod CallerFits
-- ---- What the code's values mean.

-- translates the code's `Answer` and `Caller`
pub mod CallerViews
-- translates the code's `Unwound`, with the list that holds the caller's registers
pub mod UnwoundViews
-- the list that a walk fills with the registers of a caller
pub mod FrameRegisters
-- the list of a caller's registers that takes 16 bytes for each
pub mod PackedRegisters
-- the contents of registers by number, for walks that give no registers
pub mod Contents
-- which contents have no place there
pub mod MissingPlaces
-- the rules that are left once the return address has been read
pub mod UsualSteps
-- callee-saved registers that are marked by number
pub mod KeptRegisters
-- one row that has been looked up
pub mod OneRows
-- the answers of rules without expressions
pub mod DirectAnswers
-- translates the code's frames and walks
pub mod WalkViews
