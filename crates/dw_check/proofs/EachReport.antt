-- There is a report on two accepted sections. Assumed: all expressions of accepted sections pass
-- the check, and each expression that passes the check has a depth.
use Rattle.std.proofs.Common.{◌≡◌, ℕ, zero, suc, List, [], ◌∷◌, ◌++◌, refl, arith}
use Rattle.std.specs.Prelude.{Option, Some, None, Contains}
use Rattle.std.specs.List.{AllByRecursion}
use Rattle.dw_bytes.specs.declared.target.Target.{Target}
use Rattle.dw_bytes.specs.Operands.{Block}
use Rattle.dw_rows.specs.Section.{FrameSection}
use Rattle.dw_rows.specs.Section as rows
use Rattle.dw_stack.specs.declared.state.Kind.{Kind}
use Rattle.dw_stack.specs.declared.state.Kind.TheVariants.{Location}
use Rattle.dw_stack.specs.Expressions.{IsGoodExpression, IsDepthOf}
use Rattle.dw_loclists.specs.Entries.{Entry, expression_in}
use Rattle.dw_loclists.specs.Lists.{Loclist}
use Rattle.dw_loclists.specs.Locations.{expressions_of, expressions_in}
use Rattle.dw_stack.specs.Located.{LocatedExpression}
use Rattle.dw_loclists.specs.Reading.{ListSection, IsChecked, lists_in, located_in}
use Rattle.dw_check.specs.Report.{AreLines, IsReport, summary_text, expression_line}
use Rattle.dw_sections.specs.declared.section.Section.{Section}
use Rattle.dw_sections.specs.declared.section.Section.TheVariants as sections

abbrev Good : LocatedExpression → Type 0
Good x = IsGoodExpression x.kind x.target x.bytes

first : {X : Type 0} (x : X) (xs : List X) → Contains (x ∷ xs) x
first x xs = (zero, omega arith, refl)

later : {X : Type 0} (x y : X) (xs : List X) → Contains xs y → Contains (x ∷ xs) y
later x y xs at = (suc at.0, omega (arith, at.1), at.2)

both : (xs ys : List LocatedExpression) → AllByRecursion Good xs → AllByRecursion Good ys → AllByRecursion Good (xs ++ ys)
both [] ys h k = k
both (x ∷ xs) ys h k = (h.0, both xs ys h.1 k)

-- if the expression of the entry e passes the check (or e has no expression), and all expressions
-- of the entries es pass, then all expressions of e ∷ es pass
entry_good : (e : Entry) (es : List Entry) (o : Option Block) → expression_in e ≡ o
    → ((b : Block) → expression_in e ≡ Some b → IsGoodExpression Location b.target b.bytes)
    → AllByRecursion Good (expressions_of es) → AllByRecursion Good (expressions_of (e ∷ es))
entry_good e es None is each rest = rw is rest
entry_good e es (Some b) is each rest = rw is (each b is, rest)

entries_good : (es : List Entry)
    → ((e : Entry) (b : Block) → Contains es e → expression_in e ≡ Some b → IsGoodExpression Location b.target b.bytes)
    → AllByRecursion Good (expressions_of es)
entries_good [] each = tt
entries_good (e ∷ es) each =
    entry_good e es (expression_in e) refl (λ b is. each e b (first e es) is)
    (entries_good es (λ f b at is. each f b (later e f es at) is))

lists_good : (ls : List Loclist)
    → ((l : Loclist) (e : Entry) (b : Block) → Contains ls l → Contains l.entries e → expression_in e ≡ Some b
    → IsGoodExpression Location b.target b.bytes) → AllByRecursion Good (expressions_in ls)
lists_good [] each = tt
lists_good (l ∷ ls) each =
    both (expressions_of l.entries) (expressions_in ls) (entries_good l.entries (λ e b at is. each l e b (first l ls) at is))
    (lists_good ls (λ m e b listed at is. each m e b (later l m ls listed) at is))

all_good : (xs : List LocatedExpression) → ((x : LocatedExpression) → Contains xs x → Good x) → AllByRecursion Good xs
all_good [] each = tt
all_good (x ∷ xs) each = (each x (first x xs), all_good xs (λ y at. each y (later x y xs at)))

module _ (deepest : (kind : Kind) (target : Target) (bytes : List ℕ) → IsGoodExpression kind target bytes
    → (d : ℕ) × IsDepthOf kind target bytes d) where
  lines_some : (section : Section) (xs : List LocatedExpression) → AllByRecursion Good xs → (t : List ℕ) × AreLines section xs t
  lines_some section [] good = ([], refl)
  lines_some section (x ∷ xs) good =
      let depth = deepest x.kind x.target x.bytes good.0 in
      let rest = lines_some section xs good.1 in
      (expression_line section x depth.0 ++ rest.0, (depth.0, rest.0, depth.1, rest.1, refl))

  -- there are lines for the expressions of an accepted section of location lists, if all
  -- expressions of such sections pass the check
  pub list_lines_some : ((s : ListSection) (l : Loclist) (e : Entry) (b : Block) → IsChecked s → Contains (lists_in s) l
      → Contains l.entries e → expression_in e ≡ Some b → IsGoodExpression Location b.target b.bytes)
      → (lists : ListSection) → IsChecked lists → (t : List ℕ) × AreLines sections.Lists (located_in lists) t
  list_lines_some good lists checked =
      lines_some sections.Lists (located_in lists)
      (lists_good (lists_in lists) (λ l e b listed at is. good lists l e b checked listed at is))

  pub report_some : ((s : ListSection) (l : Loclist) (e : Entry) (b : Block) → IsChecked s → Contains (lists_in s) l → Contains l.entries e
      → expression_in e ≡ Some b → IsGoodExpression Location b.target b.bytes)
      → ((s : FrameSection) (x : LocatedExpression) → rows.IsChecked s → Contains s.expressions x → Good x)
      → (frame : FrameSection) (lists : ListSection) → rows.IsChecked frame → IsChecked lists → (t : List ℕ) × IsReport frame lists t
  report_some good frame_good frame lists frame_checked checked =
      let first = lines_some sections.Frame frame.expressions (all_good frame.expressions (λ x. frame_good frame x frame_checked)) in
      let found = list_lines_some good lists checked in (
        summary_text frame lists ++ (first.0 ++ found.0),
        record { frame_lines = first.0; of_frame = first.1; lines = found.0; of_lists = found.1; whole = refl },
      )
