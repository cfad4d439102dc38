-- ---- Trusted: what DWARF 5 says. To check the main promise (docs/HEADLINE.md) against DWARF 5,
-- read these files.

-- what each operation needs, takes and pushes, where it leads, and whether call frame information
-- may have it (2.5, 2.6, 6.4.2)
pub mod Effects
-- the state of the stack on a path: height, mode and pieces
pub mod States
-- the paths through an expression, and when it is good: nothing goes wrong on any of them
pub mod Paths
-- runs with actual values, whatever the registers and memory are (2.5, 2.6)
pub mod Machine
-- when an expression is good, and what its states, depth and first fault are, given its bytes
pub mod Expressions
-- an expression with its offset in a section
pub mod Located
-- ---- The first fault, computed from the bytes. A law (`the_fault_is_the_first`) relates this
-- definition to the trusted ones.

-- what each check refuses, and the order of the checks
pub mod Faults
-- the first fault, computed from the bytes
pub mod FirstFault
-- ---- What values of the code's types stand for.

-- what certificates and checked expressions stand for
pub mod Certificates
-- what the code's lists of operations with their offsets stand for
pub mod Views
-- ---- Used only inside this crate: no contract of a public call mentions these.

-- the check of one operation in one state
pub mod OperationCheck
-- the table with which one pass checks all paths: what is known of the state before each operation
pub mod InStates
