-- Expressions with their offsets in a section, and where their faults are in that section.
use Rattle.std.specs.Prelude.{ℕ, ◌+◌, List, map, Option, Some, None}
use Rattle.dw_bytes.specs.declared.target.Target.{Target}
use Rattle.dw_bytes.specs.declared.fault.Fault.{Fault}
use Rattle.dw_bytes.specs.Operands.{Block}
use Rattle.dw_stack.specs.declared.state.Kind.{Kind}
use Rattle.dw_stack.specs.declared.checked.CheckedExpression.{CheckedExpression}
use Rattle.dw_stack.specs.Certificates.{checked_of}
use Rattle.dw_stack.specs.FirstFault.{expression_fault}

-- An expression in its section: the offset of its first byte, the kind that it is checked as, the
-- target that it is read with, and its bytes.
pub record LocatedExpression : Type 0 where
  pub offset : ℕ
  pub kind : Kind
  pub target : Target
  pub bytes : List ℕ

-- a block of a section as an expression of the given kind
abbrev pub located_as : Kind → Block → LocatedExpression
located_as kind e = record { offset = e.offset; kind = kind; target = e.target; bytes = e.bytes }

-- a checked expression with its offset in the section
abbrev pub located_of : ℕ × CheckedExpression → LocatedExpression
located_of x = record { offset = x.0; kind = (checked_of x.1).kind; target = (checked_of x.1).target; bytes = (checked_of x.1).bytes }

abbrev pub all_located : List (ℕ × CheckedExpression) → List LocatedExpression
all_located xs = map located_of xs

-- ---- where the fault of an expression is in its section

-- a fault of the expression at offset `from` of a section: the fault's offset is changed to count
-- from the section's first byte instead of the expression's
abbrev pub moved_by : ℕ → Option Fault → Option Fault
moved_by from None = None
moved_by from (Some f) = Some (record { kind = f.kind; at = from + f.at })

-- the first fault of an expression, with its offset in the section; None if there is no expression
-- or no fault
abbrev pub located_fault : Option LocatedExpression → Option Fault
located_fault None = None
located_fault (Some e) = moved_by e.offset (expression_fault e.kind e.target e.bytes)
