-- What a loop that writes the offset and the outcome of each expression has written so far.
use Rattle.std.proofs.Common.{◌≡◌, ℕ, List, [], ◌∷◌, ◌++◌, refl, sym, subst, append_assoc}
use Rattle.std.specs.Prelude.{Option}
use Rattle.std.specs.List.{All}
use Rattle.std.proofs.lemmas.List.{append-nil}
use Rattle.std.proofs.lemmas.List.Elements.{All-rest, recursion_from_All}
use Rattle.std.specs.Io.KnownBytes.{Appends}
use Rattle.dw_bytes.specs.declared.target.AddressSize.{AddressSize}
use Rattle.dw_stack.specs.Located.{LocatedExpression}
use Rattle.dw_check.specs.SinkBytes.{AppendsFront}
use Rattle.dw_state.specs.StateFile.{StateFact}
use Rattle.dw_check.specs.Text.{expression_offset_line}
use Rattle.dw_check.specs.Evaluations.{Evaluates}
use Rattle.dw_check.specs.Lookups.{IsShowable, AreEvaluated}
use Rattle.dw_check.proofs.Found.{each_evaluated}
use Rattle.dw_check.proofs.Growth.{appends_nothing, appends_more, front_more, front_wider}

-- A text that shows the expressions visited is written. That text, followed by any text that shows
-- the other expressions, shows all expressions.
pub record Shown (gs : List StateFact) (all rest : List LocatedExpression) (old new : Option (List ℕ)) : Type 0 where
  pub came : List ℕ
  pub sent : Appends old new came
  pub whole : (past : List ℕ) → AreEvaluated gs rest past → AreEvaluated gs all (came ++ past)

pub shown_none : (gs : List StateFact) (all : List LocatedExpression) (a : Option (List ℕ)) → Shown gs all all a a
shown_none gs all a = record { came = []; sent = appends_nothing a; whole = λ past h. h }

-- a text that shows the expression x, followed by a text that shows the expressions `rest`, shows
-- the expressions x ∷ rest
next_before : (gs : List StateFact) (left rest : List LocatedExpression) (x : LocatedExpression) (own past : List ℕ) → left ≡ x ∷ rest
    → Evaluates x.kind x.target x.bytes gs own → AreEvaluated gs rest past
    → AreEvaluated gs left ((expression_offset_line x.offset ++ own) ++ past)
next_before gs left rest x own past e h k =
    subst (λ (l : List LocatedExpression). AreEvaluated gs l ((expression_offset_line x.offset ++ own) ++ past)) (sym e)
    (own, past, refl, h, k)

-- after the next expression's text is written too, that expression counts as visited
pub shown_next : (gs : List StateFact) (all left rest : List LocatedExpression) (x : LocatedExpression) (own : List ℕ)
    (a b c : Option (List ℕ))
    → left ≡ x ∷ rest → Shown gs all left a b → Evaluates x.kind x.target x.bytes gs own
    → Appends b c (expression_offset_line x.offset ++ own) → Shown gs all rest a c
shown_next gs all left rest x own a b c e s h more =
    let line = expression_offset_line x.offset ++ own in
    record {
      came = s.came ++ line;
      sent = appends_more a b c s.came line s.sent more;
      whole = λ past k. subst (AreEvaluated gs all) (sym (append_assoc s.came line past))
          (s.whole (line ++ past) (next_before gs left rest x own past e h k));
    }

-- if only a beginning of the next expression's text is written, then a beginning of a text that
-- shows all expressions is written
pub shown_front : (size : AddressSize) (gs : List StateFact) (all left rest : List LocatedExpression) (x : LocatedExpression) (own : List ℕ)
    (a b c : Option (List ℕ))
    → left ≡ x ∷ rest → All (λ y. IsShowable size y) left → Shown gs all left a b → Evaluates x.kind x.target x.bytes gs own
    → AppendsFront b c (expression_offset_line x.offset ++ own) → (t : List ℕ) × AreEvaluated gs all t × AppendsFront a c t
shown_front size gs all left rest x own a b c e fine s h part =
    let line = expression_offset_line x.offset ++ own in
    let others = each_evaluated size gs rest
    (recursion_from_All (λ y. IsShowable size y) rest (All-rest (λ y. IsShowable size y) x rest left e fine)) in (
      s.came ++ (line ++ others.0),
      s.whole (line ++ others.0) (next_before gs left rest x own others.0 e h others.1),
      front_more a b c s.came (line ++ others.0) s.sent (front_wider b c line others.0 part),
    )

-- when no expression is left, a text that shows all expressions is written
pub shown_all : (gs : List StateFact) (all left : List LocatedExpression) (a b : Option (List ℕ)) → left ≡ [] → Shown gs all left a b
    → (t : List ℕ) × AreEvaluated gs all t × Appends a b t
shown_all gs all left a b e s = (
  s.came,
  subst (AreEvaluated gs all) (append-nil s.came)
      (s.whole [] (subst (λ (l : List LocatedExpression). AreEvaluated gs l []) (sym e) refl)),
  s.sent,
)
