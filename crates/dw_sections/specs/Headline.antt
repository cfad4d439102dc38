-- The main promise (docs/HEADLINE.md): what holds for two sections that a check accepts.
use Rattle.std.specs.Prelude.{◌≡◌, ℕ, ◌≤◌, List, length, Some, None, Contains}
use Rattle.dw_bytes.specs.declared.target.Target.{Target}
use Rattle.dw_bytes.specs.Operands.{Block}
use Rattle.dw_frame.specs.Records.{Fde, Record, cies_among, fdes_among}
use Rattle.dw_frame.specs.Sections.{AreRecords}
use Rattle.dw_rows.specs.Section.{Covers, frame_of, row_of}
use Rattle.dw_rows.specs.ExactRows.{HasOneRow}
use Rattle.dw_stack.specs.declared.state.Kind.{Kind}
use Rattle.dw_stack.specs.Located.{LocatedExpression}
use Rattle.dw_stack.specs.declared.state.Kind.TheVariants.{Location}
use Rattle.dw_stack.specs.Expressions.{IsGoodExpression, IsDepthOf, RunsWellWithin, operations_in}
use Rattle.dw_loclists.specs.Entries.{Entry, expression_in}
use Rattle.dw_loclists.specs.Lists.{Loclist, AreTables}
use Rattle.dw_loclists.specs.Reading.{ListSection, tables_in, lists_in}
use Rattle.dw_eval.specs.World.{World}
use Rattle.dw_eval.specs.Results.{Outcome, IsRun}
use Rattle.dw_unwind.specs.Caller.{under}

-- Run on the registers, the memory, the CFA, the frame base and the object's address of e, the
-- expression has exactly one outcome, after at most as many steps as it has operations.
pub record ComesToOne (kind : Kind) (target : Target) (bytes : List ℕ) (e : World) : Type 0 where
  pub outcome : Outcome
  pub steps : ℕ
  pub run : IsRun e kind (operations_in target bytes) (length bytes) outcome steps
  pub within : steps ≤ length (operations_in target bytes)
  pub only : (other : Outcome) (n : ℕ) → IsRun e kind (operations_in target bytes) (length bytes) other n
      → (outcome ≡ other) × (steps ≡ n)

-- The expression passes the check. In each run every operation finds the stack entries that it
-- needs, each branch leads to the start of an operation or to the end, and the stack never has more
-- than `depth` entries. On any registers and memory the run ends, with exactly one outcome.
pub record IsSafe (kind : Kind) (target : Target) (bytes : List ℕ) : Type 0 where
  pub good : IsGoodExpression kind target bytes
  pub depth : ℕ
  pub deepest : IsDepthOf kind target bytes depth
  pub runs : RunsWellWithin kind target bytes depth
  pub ends : (e : World) → ComesToOne kind target bytes (under target e)

-- a section of location lists, by its target and bytes
abbrev pub list_section : Target → List ℕ → ListSection
list_section target bytes = record { target = target; section = bytes }

-- The CIEs, FDEs and tables read from the sections are what the bytes encode. Each address that an
-- FDE covers has exactly one row, as DWARF 5 defines it, and in the FDE's program each
-- remember_state is restored and locations never go back. Any other address has no row. Each
-- expression of a rule or of a list has the sections' target, and `IsSafe` holds for it.
pub record AreSound (target : Target) (frame_bytes list_bytes : List ℕ) : Type 0 where
  pub records : List Record
  pub encoded : AreRecords target 0 frame_bytes records
  pub cies : (frame_of target frame_bytes).cies ≡ cies_among records
  pub fdes : (frame_of target frame_bytes).fdes ≡ fdes_among records
  pub tables : AreTables target 0 list_bytes (tables_in (list_section target list_bytes))
  pub rows : (a : ℕ) (f : Fde) → Contains (frame_of target frame_bytes).fdes f → Covers f a → HasOneRow (frame_of target frame_bytes) a
  pub others : (a : ℕ) → ((f : Fde) → Contains (frame_of target frame_bytes).fdes f → ¬ Covers f a)
      → row_of (frame_of target frame_bytes) a ≡ None
  pub frame_expressions : (x : LocatedExpression) → Contains (frame_of target frame_bytes).expressions x
      → (x.target ≡ target) × IsSafe x.kind x.target x.bytes
  pub list_expressions : (l : Loclist) (e : Entry) (b : Block)
      → Contains (lists_in (list_section target list_bytes)) l → Contains l.entries e → expression_in e ≡ Some b
      → (b.target ≡ target) × IsSafe Location b.target b.bytes
