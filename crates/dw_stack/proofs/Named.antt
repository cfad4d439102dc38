-- The fault that `expression_fault` computes is the first fault of an expression; if it is None,
-- the expression is good.
use Rattle.std.proofs.Common.{◌≡◌, ◌∙◌, ◌⊎◌, ℕ, List, Some, None, sym, ap, subst, inl, inr}
use Rattle.std.specs.Prelude.{Result, Ok, Err, OnOk, IfErr}
use Rattle.std.proofs.lemmas.Option.{same_Some}
use Rattle.dw_bytes.specs.declared.target.Target.{Target}
use Rattle.dw_bytes.specs.declared.fault.Fault.{Fault}
use Rattle.dw_bytes.specs.Answers.{memory, Answers}
use Rattle.dw_stack.specs.declared.state.Kind.{Kind}
use Rattle.dw_stack.specs.Expressions.{Checked, IsGoodExpression, IsChecked, IsFaultOf, IsOf}
use Rattle.dw_stack.specs.FirstFault.{expression_fault}
use Rattle.dw_stack.proofs.Deciding.{named_expression}
use Rattle.dw_stack.proofs.Unique.{one_fault}
use Rattle.dw_stack.proofs.Whole.{good_faultless}

module _ (kind : Kind) (target : Target) (bytes : List ℕ) where
  -- if a checked expression has this kind, this target and these bytes, they are a good expression
  pub good_of : (it : Checked) → IsChecked it → IsOf kind target bytes it → IsGoodExpression kind target bytes
  good_of it checked is =
      subst (λ (k : Kind). IsGoodExpression k target bytes) is.kind_is
      (subst (λ (t : Target). IsGoodExpression it.kind t bytes) is.target_is
      (subst (λ (b : List ℕ). IsGoodExpression it.kind it.target b) is.bytes_are checked.good))

  pub none_if_good : IsGoodExpression kind target bytes → expression_fault kind target bytes ≡ None
  none_if_good good = elim (named_expression kind target bytes) [
    | inl none ↦ none.0
    | inr bad ↦ absurd (good_faultless kind target bytes None bad.0 tt good bad.2)
  ]

  pub good_if_none : expression_fault kind target bytes ≡ None → IsGoodExpression kind target bytes
  good_if_none is = elim (named_expression kind target bytes) [
    | inl none ↦ none.1
    | inr bad ↦ let both : None ≡ Some bad.0 = sym is ∙ bad.1 in absurd (cc)
  ]

  pub first_if_some : (f : Fault) → expression_fault kind target bytes ≡ Some f → IsFaultOf kind target bytes None f
  first_if_some f is = elim (named_expression kind target bytes) [
    | inl none ↦ let both : None ≡ Some f = sym none.0 ∙ is in absurd (cc)
    | inr bad ↦ subst (λ (g : Fault). IsFaultOf kind target bytes None g) (same_Some bad.0 f (sym bad.1 ∙ is)) bad.2
  ]

  pub some_if_first : (f : Fault) → IsFaultOf kind target bytes None f → expression_fault kind target bytes ≡ Some f
  some_if_first f is = elim (named_expression kind target bytes) [
    | inl none ↦ absurd (good_faultless kind target bytes None f tt none.1 is)
    | inr bad ↦ bad.1 ∙ ap (λ (g : Fault). Some g) (one_fault kind target bytes None bad.0 f bad.2 is)
  ]

  pub answers_for : {X : Type 0} (r : Result X Fault) → OnOk r (IsGoodExpression kind target bytes)
      → IfErr r (λ f. (f ≡ memory) ⊎ IsFaultOf kind target bytes None f) → Answers (expression_fault kind target bytes) r
  answers_for (Ok x) good fault = none_if_good good
  answers_for (Err f) good fault = elim fault [ inl lacks ↦ inl lacks | inr is ↦ inr (some_if_first f is) ]
