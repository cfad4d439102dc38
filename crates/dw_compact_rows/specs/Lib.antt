-- What values of the code's types stand for, and what running a program with them does.

-- what slots say of registers, and instructions that change such rules
pub mod Slots
-- the rules of a row in few bytes
pub mod CompactRules
-- the state of a program with such rules, and one instruction
pub mod CompactPrograms
-- programs that are run up to a row and to their ends, and the row
pub mod CompactRuns
