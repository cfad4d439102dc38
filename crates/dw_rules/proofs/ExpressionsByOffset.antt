-- Looking up an offset in a list of expressions finds the expression that begins there, if there is
-- one and no other expression begins there.
use Rattle.std.proofs.Common.{◌≡◌, ◌≢◌, ℕ, zero, suc, ◌==◌, List, [], ◌∷◌, ◌++◌, Some}
use Rattle.std.proofs.Common.{None, Contains, true, false, refl, sym, ap, ◌∙◌, arith, inl, inr, if◌then◌else◌}
use Rattle.std.specs.Prelude.{find}
use Rattle.std.specs.Option.{option_or}
use Rattle.std.proofs.lemmas.Bool.{eqb-true}
use Rattle.std.proofs.lemmas.Bool.Decides.{nat_tests}
use Rattle.std.proofs.lemmas.List.Elements.{Contains-append_cases}
use Rattle.std.proofs.lemmas.List.Folds.{find-append}
use Rattle.dw_frame.specs.Bounds.{Ascends}
use Rattle.dw_stack.specs.Located.{LocatedExpression}
use Rattle.dw_rules.specs.Expressions.{expression_at}
use Rattle.dw_rules.proofs.Search.{ascending-same}

abbrev pub at-offset : LocatedExpression → ℕ
at-offset e = e.offset

pub no-expression : {A : Type 0} (e : LocatedExpression) → Contains [] e → A
no-expression e (k, lt, is) = absurd (omega arith)

in-rest : (e g : LocatedExpression) (es : List LocatedExpression) → Contains (g ∷ es) e → g.offset ≢ e.offset → Contains es e
in-rest e g es (zero, lt, is) other = absurd (other (ap at-offset is))
in-rest e g es (suc k, lt, is) other = (k, omega arith, is)

past : (e g : LocatedExpression) (es : List LocatedExpression) → Contains es e → Contains (g ∷ es) e
past e g es (k, lt, is) = (suc k, omega arith, is)

-- if e is the only expression in the list that begins at the offset `at`, looking up `at` finds e
pub found-at : (es : List LocatedExpression) (e : LocatedExpression) (at : ℕ) → Contains es e → e.offset ≡ at
    → ((g : LocatedExpression) → Contains es g → g.offset ≡ at → g ≡ e) → expression_at es at ≡ Some e
found-at [] e at among same only = no-expression e among
found-at (x ∷ es) e at among same only = elim (x.offset == at) as
    (λ b. (x.offset == at) ≡ b → (if b then Some x else find (λ y. y.offset == at) es) ≡ Some e) [
      | true ↦ λ yes. ap Some (only x (zero, omega arith, refl) (eqb-true _ _ yes))
      | false ↦ λ no. found-at es e at (in-rest e x es among (λ h. let is : (x.offset == at) ≡ true = grind (arith, nat_tests) in
          let clash : true ≡ false = sym is ∙ no in cc)) same (λ g g_in. only g (past g x es g_in))
    ] refl

-- if no expression in the list begins at the offset `at`, looking up `at` finds none
pub absent-at : (es : List LocatedExpression) (at : ℕ) → ((e : LocatedExpression) → Contains es e → e.offset ≢ at)
    → expression_at es at ≡ None
absent-at [] at none = refl
absent-at (x ∷ es) at none = elim (x.offset == at) as
    (λ b. (x.offset == at) ≡ b → (if b then Some x else find (λ y. y.offset == at) es) ≡ None) [
      | true ↦ λ yes. absurd (none x (zero, omega arith, refl) (eqb-true _ _ yes))
      | false ↦ λ no. absent-at es at (λ e among. none e (past e x es among))
    ] refl

-- if looking up an offset in `es` finds an expression, looking it up in `es` followed by `gs` finds
-- the same one
pub in-front : (es gs : List LocatedExpression) (at : ℕ) (e : LocatedExpression) → expression_at es at ≡ Some e
    → expression_at (es ++ gs) at ≡ Some e
in-front es gs at e is = find-append (λ y. y.offset == at) es gs ∙ ap (λ o. option_or o (expression_at gs at)) is

-- if looking up an offset in `es` finds nothing, looking it up in `es` followed by `gs` finds what
-- `gs` has there
pub not-in-front : (es gs : List LocatedExpression) (at : ℕ) → expression_at es at ≡ None
    → expression_at (es ++ gs) at ≡ expression_at gs at
not-in-front es gs at is = find-append (λ y. y.offset == at) es gs ∙ ap (λ o. option_or o (expression_at gs at)) is

only-in-both : (es gs : List LocatedExpression) → Ascends at-offset es → Ascends at-offset gs
    → ((e g : LocatedExpression) → Contains es e → Contains gs g → e.offset ≢ g.offset) → (e g : LocatedExpression)
    → Contains (es ++ gs) e → Contains (es ++ gs) g → g.offset ≡ e.offset → g ≡ e
only-in-both es gs up next other e g e_in g_in same =
    elim (Contains-append_cases es gs e e_in) [
      | inl e_first ↦ elim (Contains-append_cases es gs g g_in) [
        | inl g_first ↦ ascending-same at-offset es up g e g_first e_first same
        | inr g_last ↦ absurd (other e g e_first g_last (sym same))
      ]
      | inr e_last ↦ elim (Contains-append_cases es gs g g_in) [
        | inl g_first ↦ absurd (other g e g_first e_last same)
        | inr g_last ↦ ascending-same at-offset gs next g e g_last e_last same
      ]
    ]

-- if the offsets in two lists ascend and the lists share none, each expression of either is found
-- at its own offset in the two lists together
pub found-in-parts : (es gs : List LocatedExpression) → Ascends at-offset es → Ascends at-offset gs
    → ((e g : LocatedExpression) → Contains es e → Contains gs g → e.offset ≢ g.offset) → (e : LocatedExpression)
    → Contains (es ++ gs) e → expression_at (es ++ gs) e.offset ≡ Some e
found-in-parts es gs up next other e among =
    found-at (es ++ gs) e e.offset among refl (λ g g_in same. only-in-both es gs up next other e g among g_in same)
