-- The expressions of a program are those of its instructions, and those of a section are those of
-- its CIEs and FDEs.
use Rattle.std.proofs.Common.{◌≡◌, ℕ, zero, suc, List, [], ◌∷◌, Option, Some, None, Contains, sym, ap, subst, ◌∙◌, arith}
use Rattle.std.specs.List.{cons_option}
use Rattle.std.proofs.lemmas.List.Elements.{Contains-append_left, Contains-append_right}
use Rattle.dw_frame.specs.Instructions.{Instruction}
use Rattle.dw_frame.specs.Records.{Cie, Fde}
use Rattle.dw_stack.specs.Located.{LocatedExpression}
use Rattle.dw_rules.specs.Effects.{Effect, effect_of, effects_by}
use Rattle.dw_rules.specs.Expressions.{expression_in, expressions_in, expressions_of, cie_expressions, fde_expressions, frame_expressions}
use Rattle.dw_rules.proofs.Elements.{contained-map}

at-front : (o : Option LocatedExpression) (es : List LocatedExpression) (e : LocatedExpression) → o ≡ Some e → Contains (cons_option o es) e
at-front None es e is = let no : None ≡ Some e = is in cc
at-front (Some x) es e is = let same : x ≡ e = cc in (0, omega arith, same)

further : (o : Option LocatedExpression) (es : List LocatedExpression) (e : LocatedExpression) → Contains es e
    → Contains (cons_option o es) e
further None es e among = among
further (Some x) es e (k, lt, is) = (suc k, omega arith, is)

-- the expression of an instruction is among those of the program
pub of-instruction : (items : List (ℕ × Instruction)) (item : ℕ × Instruction) (e : LocatedExpression) → Contains items item
    → expression_in item.1 ≡ Some e → Contains (expressions_in items) e
of-instruction [] item e (k, lt, is) has = absurd (omega arith)
of-instruction (x ∷ items) item e (zero, lt, is) has =
    at-front (expression_in x.1) (expressions_in items) e (ap (λ (y : ℕ × Instruction). expression_in y.1) is ∙ has)
of-instruction (x ∷ items) item e (suc k, lt, is) has =
    further (expression_in x.1) (expressions_in items) e (of-instruction items item e (k, omega arith, is) has)

-- each effect of a program is that of one of its instructions
pub of-effect : (cie : Cie) (items : List (ℕ × Instruction)) (x : Effect) → Contains (effects_by cie items) x
    → (item : ℕ × Instruction) × Contains items item × (effect_of cie item.1 ≡ x)
of-effect cie items x among = contained-map (λ (item : ℕ × Instruction). effect_of cie item.1) items x among

-- the expressions of each CIE and of each FDE are among the section's
pub of-cie : (cies : List Cie) (c : Cie) (e : LocatedExpression) → Contains cies c → Contains (expressions_of c.program) e
    → Contains (cie_expressions cies) e
of-cie [] c e (k, lt, is) own = absurd (omega arith)
of-cie (d ∷ cies) c e (zero, lt, is) own =
    Contains-append_left (expressions_of d.program) (cie_expressions cies) e
    (subst (λ (x : Cie). Contains (expressions_of x.program) e) (sym is) own)
of-cie (d ∷ cies) c e (suc k, lt, is) own =
    Contains-append_right (expressions_of d.program) (cie_expressions cies) e (of-cie cies c e (k, omega arith, is) own)

pub of-fde : (fdes : List Fde) (f : Fde) (e : LocatedExpression) → Contains fdes f → Contains (expressions_of f.program) e
    → Contains (fde_expressions fdes) e
of-fde [] f e (k, lt, is) own = absurd (omega arith)
of-fde (g ∷ fdes) f e (zero, lt, is) own =
    Contains-append_left (expressions_of g.program) (fde_expressions fdes) e
    (subst (λ (x : Fde). Contains (expressions_of x.program) e) (sym is) own)
of-fde (g ∷ fdes) f e (suc k, lt, is) own =
    Contains-append_right (expressions_of g.program) (fde_expressions fdes) e (of-fde fdes f e (k, omega arith, is) own)

pub of-frame-cie : (cies : List Cie) (fdes : List Fde) (c : Cie) (e : LocatedExpression) → Contains cies c
    → Contains (expressions_of c.program) e → Contains (frame_expressions cies fdes) e
of-frame-cie cies fdes c e among own =
    Contains-append_left (cie_expressions cies) (fde_expressions fdes) e (of-cie cies c e among own)

pub of-frame-fde : (cies : List Cie) (fdes : List Fde) (f : Fde) (e : LocatedExpression) → Contains fdes f
    → Contains (expressions_of f.program) e → Contains (frame_expressions cies fdes) e
of-frame-fde cies fdes f e among own =
    Contains-append_right (cie_expressions cies) (fde_expressions fdes) e (of-fde fdes f e among own)
