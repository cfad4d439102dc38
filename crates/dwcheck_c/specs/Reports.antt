-- What C gets as the report on two checked sections: what they contain, and their expressions.
use Rattle.std.specs.Prelude.{◌≡◌, ◌-◌, ◌^◌, ℕ, List, [], ◌∷◌, ◌++◌, length, min}
use Rattle.dw_loclists.specs.Reading.{ListSection, lists_in, located_in, tables_in}
use Rattle.dw_rows.specs.Section.{FrameSection, row_count}
use Rattle.dw_stack.specs.Expressions.{IsDepthOf, operations_in}
use Rattle.dw_stack.specs.Located.{LocatedExpression}
use Rattle.dw_stack.specs.declared.state.Kind.{Kind}
use Rattle.dw_stack.specs.declared.state.Kind.TheVariants.{FrameCfa, FrameRegister, Location}
use Rattle.dw_c_types.specs.declared.fault.TheConstants.{IN_FRAME, IN_LISTS}
use Rattle.dw_c_types.specs.Slots.{put_into}
use Rattle.dwcheck_c.specs.declared.reports.CCounts.{CCounts}
use Rattle.dwcheck_c.specs.declared.reports.CExpression.{CExpression}

-- C's struct for what a frame section contains; a number of rows of 2^64 or more is shown as 2^64 -
-- 1
abbrev pub frame_counts : FrameSection → CCounts
frame_counts frame = record {
  cies = length frame.cies;
  fdes = length frame.fdes;
  rows = min (row_count frame) (2 ^ 64 - 1);
  frame_expressions = length frame.expressions;
  tables = 0;
  lists = 0;
  list_expressions = 0;
}

-- the same for two sections
abbrev pub counts_of : FrameSection → ListSection → CCounts
counts_of frame lists = record {
  cies = length frame.cies;
  fdes = length frame.fdes;
  rows = min (row_count frame) (2 ^ 64 - 1);
  frame_expressions = length frame.expressions;
  tables = length (tables_in lists);
  lists = length (lists_in lists);
  list_expressions = length (located_in lists);
}

-- the number that tells C what an expression is used for
abbrev pub kind_number : Kind → ℕ
kind_number FrameCfa = 0
kind_number FrameRegister = 1
kind_number Location = 2

-- `out` is C's struct for the expression `x`, whose section is the one that `within` says. It has
-- the expression's number of operations, and its greatest stack depth on any path.
pub record ShowsExpression (within : ℕ) (x : LocatedExpression) (out : CExpression) : Type 0 where
  pub offset : out.offset ≡ x.offset
  pub size : out.length ≡ length x.bytes
  pub section : out.within ≡ within
  pub kind : out.kind ≡ kind_number x.kind
  pub operations : out.operations ≡ length (operations_in x.target x.bytes)
  pub depth : IsDepthOf x.kind x.target x.bytes out.depth

-- these are C's structs for the expressions, in the same order
abbrev pub AreShown : ℕ → List LocatedExpression → List CExpression → Type 0
AreShown within [] [] = Unit {0}
AreShown within (x ∷ xs) (out ∷ outs) = ShowsExpression within x out × AreShown within xs outs
AreShown within _ _ = ⊥

-- C's structs for the expressions of the frame section, and after them those for the expressions of
-- the lists, are written to the front of the slots, as many as fit. The other slots are unchanged.
pub record AreReported (of_frame of_lists : List LocatedExpression) (old new : List CExpression) : Type 0 where
  pub frame_shown : List CExpression
  pub are_of_frame : AreShown IN_FRAME of_frame frame_shown
  pub lists_shown : List CExpression
  pub are_of_lists : AreShown IN_LISTS of_lists lists_shown
  pub written : new ≡ put_into (frame_shown ++ lists_shown) old
