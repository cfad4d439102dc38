-- The expressions in the programs of CIEs and FDEs: which ones there are, where each begins, and
-- which kind it has (DWARF 5, sections 6.4.2.2 and 6.4.2.3).
use Rattle.std.specs.Prelude.{ℕ, ◌==◌, List, [], ◌∷◌, ◌++◌, Option, Some, None, find}
use Rattle.std.specs.List.{filter_map}
use Rattle.dw_bytes.specs.Answers.{values_in}
use Rattle.dw_frame.specs.Dialects.{ProgramPosition}
use Rattle.dw_frame.specs.Instructions.{Instruction}
use Rattle.dw_frame.specs.Records.{Cie, Fde}
use Rattle.dw_frame.specs.Codes.{instructions_of}
use Rattle.dw_stack.specs.declared.state.Kind.TheVariants.{FrameCfa, FrameRegister}
use Rattle.dw_stack.specs.Located.{LocatedExpression, located_as}

-- The expression of an instruction, if it has one. An expression for the CFA (`FrameCfa`) is
-- evaluated from an empty stack, one for a register (`FrameRegister`) from a stack with the CFA on
-- it.
abbrev pub expression_in : Instruction → Option LocatedExpression
expression_in (Instruction.def_cfa_expression e) = Some (located_as FrameCfa e)
expression_in (Instruction.expression r e) = Some (located_as FrameRegister e)
expression_in (Instruction.val_expression r e) = Some (located_as FrameRegister e)
expression_in _ = None

-- the expressions of a list of instructions, in order
abbrev pub expressions_in : List (ℕ × Instruction) → List LocatedExpression
expressions_in items = filter_map (λ item. expression_in item.1) items

-- the expression as a list of one element, or an empty list if there is none
abbrev pub list_of : Option LocatedExpression → List LocatedExpression
list_of None = []
list_of (Some e) = e ∷ []

-- the expressions of a program's instructions, up to the first instruction that can't be read
abbrev pub expressions_of : ProgramPosition → List LocatedExpression
expressions_of program = expressions_in (values_in (instructions_of program))

-- the expressions of the programs of a list of CIEs, and of a list of FDEs, one program after
-- another
abbrev pub cie_expressions : List Cie → List LocatedExpression
cie_expressions [] = []
cie_expressions (c ∷ cies) = expressions_of c.program ++ cie_expressions cies

abbrev pub fde_expressions : List Fde → List LocatedExpression
fde_expressions [] = []
fde_expressions (f ∷ fdes) = expressions_of f.program ++ fde_expressions fdes

-- all expressions of a section, in the order in which they are checked
abbrev pub frame_expressions : List Cie → List Fde → List LocatedExpression
frame_expressions cies fdes = cie_expressions cies ++ fde_expressions fdes

-- the first expression in the list that begins at the offset `at`, if there is one
abbrev pub expression_at : List LocatedExpression → ℕ → Option LocatedExpression
expression_at expressions at = find (λ e. e.offset == at) expressions
