-- What a loop that writes the report's line on each expression has written so far.
use Rattle.std.proofs.Common.{◌≡◌, ℕ, List, [], ◌∷◌, ◌++◌, refl, sym, ap, subst, ◌∙◌, append_assoc, length}
use Rattle.std.specs.Prelude.{Option}
use Rattle.std.specs.Io.KnownBytes.{Appends}
use Rattle.std.proofs.lemmas.List.{append-nil}
use Rattle.dw_stack.specs.declared.checked.CheckedExpression.{CheckedExpression}
use Rattle.dw_stack.specs.Certificates.{checked_of}
use Rattle.dw_stack.specs.Expressions.{operations_in}
use Rattle.dw_stack.specs.Located.{LocatedExpression, located_of}
use Rattle.dw_stack.proofs.Stable.{checked_stable}
use Rattle.dw_stack.proofs.Unique.{one_depth}
use Rattle.dw_check.specs.Report.{AreLines, expression_line}
use Rattle.dw_check.specs.ReportViews.{line_of}
use Rattle.dw_check.specs.SinkBytes.{AppendsFront}
use Rattle.dw_sections.specs.declared.section.Section.{Section}
use Rattle.dw_check.proofs.Growth.{appends_nothing, appends_more, front_more, front_wider}

-- The text has a line for each expression. The lines of the expressions visited are written; the
-- lines of the others come after these.
pub record Lined (section : Section) (text : List ℕ) (rest : List LocatedExpression) (old new : Option (List ℕ)) : Type 0 where
  pub came : List ℕ
  pub left : List ℕ
  pub whole : came ++ left ≡ text
  pub sent : Appends old new came
  pub ahead : AreLines section rest left

pub lined_none : (section : Section) (text : List ℕ) (all : List LocatedExpression) (a : Option (List ℕ)) → AreLines section all text
    → Lined section text all a a
lined_none section text all a are = record { came = []; left = text; whole = refl; sent = appends_nothing a; ahead = are }

-- what is left of the text: the line of the next expression, then the lines of the others
record Next (section : Section) (rest : List LocatedExpression) (y : ℕ × CheckedExpression) (left : List ℕ) : Type 0 where
  pub past : List ℕ
  pub ahead : AreLines section rest past
  pub parts : left ≡ line_of section y ++ past

next_line : (section : Section) (all rest : List LocatedExpression) (y : ℕ × CheckedExpression) (left : List ℕ) → all ≡ located_of y ∷ rest
    → AreLines section all left → Next section rest y left
next_line section all rest y left e are =
    let it = checked_of y.1 in
    let h = subst (λ (l : List LocatedExpression). AreLines section l left) e are in
    let depth : h.0 ≡ it.depth =
    one_depth it.kind (operations_in it.target it.bytes) (length it.bytes) h.0 it.depth h.2 (checked_stable it y.1.checked).depth in
    record { past = h.1; ahead = h.3; parts = h.4 ∙ ap (λ d. expression_line section (located_of y) d ++ h.1) depth }

-- after the next expression's line is written too, that expression counts as visited
pub lined_next : (section : Section) (text : List ℕ) (all rest : List LocatedExpression) (y : ℕ × CheckedExpression)
    (a b c : Option (List ℕ))
    → all ≡ located_of y ∷ rest → Lined section text all a b → Appends b c (line_of section y) → Lined section text rest a c
lined_next section text all rest y a b c e s more =
    let next = next_line section all rest y s.left e s.ahead in
    record {
      came = s.came ++ line_of section y;
      left = next.past;
      whole = append_assoc s.came (line_of section y) next.past ∙ ap (λ (l : List ℕ). s.came ++ l) (sym next.parts) ∙ s.whole;
      sent = appends_more a b c s.came (line_of section y) s.sent more;
      ahead = next.ahead;
    }

-- if only a beginning of the next expression's line is written, then what is written is a beginning
-- of the whole text
pub lined_front : (section : Section) (text : List ℕ) (all rest : List LocatedExpression) (y : ℕ × CheckedExpression)
    (a b c : Option (List ℕ))
    → all ≡ located_of y ∷ rest → Lined section text all a b → AppendsFront b c (line_of section y) → AppendsFront a c text
lined_front section text all rest y a b c e s part =
    let next = next_line section all rest y s.left e s.ahead in
    let parts : s.came ++ (line_of section y ++ next.past) ≡ text = ap (λ (l : List ℕ). s.came ++ l) (sym next.parts) ∙ s.whole in
    subst (AppendsFront a c) parts
    (front_more a b c s.came (line_of section y ++ next.past) s.sent (front_wider b c (line_of section y) next.past part))

-- when no expression is left, the whole text is written
pub lined_all : (section : Section) (text : List ℕ) (left : List LocatedExpression) (a b : Option (List ℕ)) → left ≡ []
    → Lined section text left a b → Appends a b text
lined_all section text left a b e s =
    let none : s.left ≡ [] = subst (λ (l : List LocatedExpression). AreLines section l s.left) e s.ahead in
    let whole : s.came ≡ text = sym (append-nil s.came) ∙ ap (λ (l : List ℕ). s.came ++ l) (sym none) ∙ s.whole in
    subst (Appends a b) whole s.sent
