-- ---- Trusted: what DWARF 5 says. To check the main promise (docs/HEADLINE.md) against DWARF 5,
-- read these files.

-- the operations of expressions and their operands (2.5, 2.6)
pub mod Operations
-- which bytes encode which operation (7.7.1), and how an operation is read
pub mod Opcodes
-- ---- How the code's types correspond to these definitions.

-- the operation, the bytes and the target that values of the code's types stand for
pub mod Views
