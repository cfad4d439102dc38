-- ---- Trusted: what DWARF 5 says. To check the main promise (docs/HEADLINE.md) against the
-- standard, read the modules below.

-- the numbers on the stack, modulo 2^w (2.5.1)
pub mod Numbers
-- the inputs of an evaluation
pub mod World
-- what each operation pushes (2.5.1)
pub mod Values
-- which stack entries an operation uses
pub mod Needs
-- what each operation does in a run with these inputs
pub mod Meaning
-- the outcomes of runs (2.6)
pub mod Results
-- memory with one known block
pub mod MemoryBlocks
-- which numbers are below 2^w
pub mod Fits
-- ---- What the code's values mean, and what its calls return.

-- translates the code's inputs, locations, pieces and outcomes
pub mod Views
-- ---- Internal: no contract of a public call uses the modules below.

-- proves that an operation pushes as many entries as `effect_of` says
pub mod StackEffects
-- translates the code's `Environment`
pub mod Environments
-- how an operation changes the stack
pub mod StackChanges
-- one step of a run as the code makes it
pub mod Steps
-- what the code needs to run an expression, and the state of a run that has begun
pub mod UnderWay
-- operations without operands, by their opcodes
pub mod OperationsWithoutOperands
