-- ---- Trusted: what DWARF 5 says. To check the main promise (docs/HEADLINE.md) against the
-- standard, read the files of this part.

-- the rules of a row (6.4.1)
pub mod Rules
-- what each call frame instruction does (6.4.2)
pub mod Effects
-- the expressions in programs, and where each begins (6.4.2.2, 6.4.2.3)
pub mod Expressions
-- the location, the register rules and the CFA's rule after some instructions (6.4.1)
pub mod InForce
-- what an ABI says about registers without a rule (this project's choice; 6.4.1 leaves it to ABIs)
pub mod Abi
-- rows as callers get them, with expressions in place of their offsets (6.4.1)
pub mod RowsWithExpressions
-- rules that say where registers are saved, and nothing else (6.4.1)
pub mod SavedRules
-- ---- The first fault, computed from the bytes. Laws tie it to the trusted definitions.

-- the first fault of a CIE's or an FDE's program
pub mod ProgramFault
-- ---- What the values of the code's types mean, in terms of the definitions above.

-- rules
pub mod Views
-- ABIs: the role of each register
pub mod AbiViews
-- the checked expressions that the rules of a row refer to
pub mod RowExpressions
-- ---- How the code stores rules and states. The contracts of calls that only dw_rows and dw_tables
-- make use the files of this part.

-- rule sets: the rules of a row, as they are stored
pub mod RuleSet
-- the index of a register's rule in a list of rules
pub mod RegisterRules
-- the stack of remembered rules
pub mod RememberStack
-- the state of a running program
pub mod ProgramState
-- checked expressions in order of offset
pub mod ExpressionOrder
-- the rules of two tables taken together, where the first table has precedence
pub mod FirstEntry
-- effects of instructions, as the code stores them
pub mod EffectViews
-- the rules that the initial instructions of CIEs leave, as a checked section stores them
pub mod Initial
-- checked expressions stored together with a copy of their bytes
pub mod OwnedExpressions
-- checked expressions borrowed from a checked section
pub mod BorrowedExpressions
