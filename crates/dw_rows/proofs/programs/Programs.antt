-- The program of a CIE or an FDE has no fault if and only if it is good
-- (../../specs/GoodPrograms.antt).
use Rattle.std.proofs.Common.{◌≡◌, ℕ, zero, suc, List, [], ◌∷◌, ◌++◌, map, reverse, take, refl, sym, ap, ◌∙◌, arith, Option, Some, None}
use Rattle.std.proofs.Common.{Result, Ok, Err, Contains, subst, append_assoc}
use Rattle.std.proofs.lemmas.List.{reverse-append, append-nil}
use Rattle.std.specs.Prelude.{slice_get}
use Rattle.dw_bytes.specs.declared.fault.Fault.{Fault}
use Rattle.dw_bytes.specs.declared.fault.FaultKind.{FaultKind}
use Rattle.dw_frame.specs.Instructions.{Instruction}
use Rattle.dw_frame.specs.Records.{Cie, Fde}
use Rattle.dw_frame.specs.Codes.{instructions_of}
use Rattle.dw_frame.proofs.EachInstruction.{programs-are-instructions}
use Rattle.dw_bytes.specs.Answers.{values_in}
use Rattle.dw_rules.specs.Effects.{Effect, effect_of, effects_by, effects_of}
use Rattle.dw_stack.specs.Expressions.{IsGoodExpression}
use Rattle.dw_stack.specs.FirstFault.{expression_fault}
use Rattle.dw_stack.specs.Located.{LocatedExpression, located_fault, moved_by}
use Rattle.dw_rules.specs.Expressions.{expression_in, expressions_in}
use Rattle.dw_rules.specs.InForce.{effects_of_cie, start_after_cie, fde_start}
use Rattle.dw_rules.specs.ProgramFault.{fault_of_kind, item_fault, fault_from, refusal_at, refusal_at_end, cie_refusal_at, cie_fault, end_of}
use Rattle.dw_rules.specs.ProgramFault.{fde_fault}
use Rattle.dw_rows.specs.GoodPrograms.{IsGood, AreGoodExpressions, IsGoodCieProgram, IsGoodFdeProgram}
use Rattle.dw_stack.proofs.Named.{none_if_good, good_if_none}
use Rattle.dw_rows.proofs.Faults.{option_or-none}
use Rattle.dw_rows.proofs.rows.RowCursors.{fault_of_kind-none, item-passes}
use Rattle.dw_rows.proofs.programs.Goods.{Fine, fine-iff, FineCie, fine-cie-iff}

-- ---- expressions

-- an expression without a fault is good (`IsGoodExpression`)
pub located-good : (e : LocatedExpression) → located_fault (Some e) ≡ None → IsGoodExpression e.kind e.target e.bytes
located-good e none = good_if_none e.kind e.target e.bytes (moved-none e.offset (expression_fault e.kind e.target e.bytes) none)
  where
    moved-none : (from : ℕ) (f : Option Fault) → moved_by from f ≡ None → f ≡ None
    moved-none from None is = refl
    moved-none from (Some f) is = cc

good-located : (e : LocatedExpression) → IsGoodExpression e.kind e.target e.bytes → located_fault (Some e) ≡ None
good-located e good = ap (moved_by e.offset) (none_if_good e.kind e.target e.bytes good)

good-first : (item : ℕ × Instruction) (items : List (ℕ × Instruction)) → located_fault (expression_in item.1) ≡ None
    → AreGoodExpressions items → AreGoodExpressions (item ∷ items)
good-first item items none good = go (expression_in item.1) refl none
  where
    go : (o : Option LocatedExpression) → expression_in item.1 ≡ o → located_fault o ≡ None → AreGoodExpressions (item ∷ items)
    go None is none e among = good e (rw is at among)
    go (Some first) is none e among = here first none e (rw is at among)
      where
        here : (first : LocatedExpression) → located_fault (Some first) ≡ None → (e : LocatedExpression)
            → Contains (first ∷ expressions_in items) e → IsGoodExpression e.kind e.target e.bytes
        here first none e (zero, lt, same) = subst (λ (x : LocatedExpression). IsGoodExpression x.kind x.target x.bytes) same
            (located-good first none)
        here first none e (suc k, lt, same) = good e (k, omega arith, same)

first-good : (item : ℕ × Instruction) (items : List (ℕ × Instruction)) → AreGoodExpressions (item ∷ items)
    → located_fault (expression_in item.1) ≡ None
first-good item items good = go (expression_in item.1) refl
  where
    go : (o : Option LocatedExpression) → expression_in item.1 ≡ o → located_fault o ≡ None
    go None is = refl
    go (Some first) is = good-located first (good first (rw is (zero, omega arith, refl)))

good-rest : (item : ℕ × Instruction) (items : List (ℕ × Instruction)) → AreGoodExpressions (item ∷ items) → AreGoodExpressions items
good-rest item items good = go (expression_in item.1) refl
  where
    go : (o : Option LocatedExpression) → expression_in item.1 ≡ o → AreGoodExpressions items
    go None is e among = good e (rw is among)
    go (Some first) is e (k, lt, same) = good e (rw is (suc k, omega arith, same))

-- All of `its` are instructions that were read, and their expressions are good. None of the
-- instructions is refused after `before` and the instructions in front of it, and `ending` gives no
-- fault for the program's end.
pub record AllPass (refusal : List Effect → Effect → Option FaultKind) (ending : List Effect → Option Fault) (c : Cie)
    (before : List Effect) (its : List (Result (ℕ × Instruction) Fault)) : Type 0 where
  pub items : List (ℕ × Instruction)
  pub read : its ≡ map Ok items
  pub each : (k : ℕ) (x : Effect) → slice_get (effects_by c items) k ≡ Some x
      → refusal (reverse (take k (effects_by c items)) ++ before) x ≡ None
  pub good : AreGoodExpressions items
  pub ends : ending (reverse (effects_by c items) ++ before) ≡ None

-- reversing `xs` with x in front, and then `before`, gives the same as reversing `xs`, and then x
-- and `before`
reverse-front : (x : Effect) (xs before : List Effect) → reverse (x ∷ xs) ++ before ≡ reverse xs ++ (x ∷ before)
reverse-front x xs before = ap (λ l. l ++ before) (reverse-append (x ∷ []) xs) ∙ append_assoc (reverse xs) (x ∷ []) before

some-same : (x y : Effect) → ◌≡◌ {A = Option Effect} (Some x) (Some y) → x ≡ y
some-same x y e = cc

pub all-pass : (refusal : List Effect → Effect → Option FaultKind) (ending : List Effect → Option Fault) (c : Cie) (before : List Effect)
    (its : List (Result (ℕ × Instruction) Fault)) → fault_from refusal ending c before its ≡ None → AllPass refusal ending c before its
all-pass refusal ending c before [] h = record {
  items = [];
  read = refl;
  each = λ k x at. (let no : ◌≡◌ {A = Option Effect} None (Some x) = at in cc);
  good = λ e among. absurd (omega (arith, among.1));
  ends = h;
}
all-pass refusal ending c before (Err fault ∷ its) h = let no : Some fault ≡ None = h in cc
all-pass refusal ending c before (Ok item ∷ its) h =
    let y = effect_of c item.1 in
    let both = option_or-none (item_fault refusal c before item) (fault_from refusal ending c (y ∷ before) its) h in
    let passes = item-passes refusal c before item both.0 in
    let k = all-pass refusal ending c (y ∷ before) its both.1 in
    record {
      items = item ∷ k.items;
      read = ap (λ l. Ok item ∷ l) k.read;
      each = λ n x at. each y k.items passes.1 k.each n x at;
      good = good-first item k.items passes.0 k.good;
      ends = rw (reverse-front y (effects_by c k.items) before) k.ends;
    }
  where
    each : (y : Effect) (items : List (ℕ × Instruction)) → refusal before y ≡ None
        → ((k : ℕ) (x : Effect) → slice_get (effects_by c items) k ≡ Some x
        → refusal (reverse (take k (effects_by c items)) ++ (y ∷ before)) x ≡ None) →
        (n : ℕ) (x : Effect) → slice_get (y ∷ effects_by c items) n ≡ Some x
        → refusal (reverse (take n (y ∷ effects_by c items)) ++ before) x ≡ None
    each y items first later zero x at = let same : y ≡ x = some-same y x at in subst (λ z. refusal before z ≡ None) same first
    each y items first later (suc n) x at = rw (reverse-front y (take n (effects_by c items)) before) (later n x at)

pub pass-all : (refusal : List Effect → Effect → Option FaultKind) (ending : List Effect → Option Fault) (c : Cie) (before : List Effect)
    (items : List (ℕ × Instruction)) →
    ((k : ℕ) (x : Effect) → slice_get (effects_by c items) k ≡ Some x → refusal (reverse (take k (effects_by c items)) ++ before) x ≡ None)
    → AreGoodExpressions items → ending (reverse (effects_by c items) ++ before) ≡ None →
    fault_from refusal ending c before (map Ok items) ≡ None
pass-all refusal ending c before [] each good ends = ends
pass-all refusal ending c before (item ∷ items) each good ends =
    let y = effect_of c item.1 in
    let first : refusal before y ≡ None = each 0 y refl in
    let later : fault_from refusal ending c (y ∷ before) (map Ok items) ≡ None =
    pass-all refusal ending c (y ∷ before) items (λ k x at. rw (← reverse-front y (take k (effects_by c items)) before) (each (suc k) x at))
    (good-rest item items good) (rw (← reverse-front y (effects_by c items) before) ends) in
    let fine : located_fault (expression_in item.1) ≡ None = first-good item items good in
    rw (fine, first, later) refl

-- ---- CIEs

pub good-from-cie : (c : Cie) → cie_fault c ≡ None → IsGoodCieProgram c
unfolding cie_fault
good-from-cie c h =
    let k = all-pass (cie_refusal_at c) (λ _. None) c [] (instructions_of c.program) h in
    let fine : FineCie c (effects_by c k.items) =
    λ n x at. (let f = k.each n x at in subst (λ l. cie_refusal_at c l x ≡ None)
    (append-nil (reverse (take n (effects_by c k.items)))) f) in
    record {
      items = k.items;
      encoded = (programs-are-instructions c.program k.items).0 k.read;
      good = (fine-cie-iff c (effects_by c k.items)).0 fine;
      expressions = k.good;
    }

pub good-read : (c : Cie) → (g : IsGoodCieProgram c) → instructions_of c.program ≡ map Ok g.items
good-read c g = (programs-are-instructions c.program g.items).1 g.encoded

pub cie-from-good : (c : Cie) → IsGoodCieProgram c → cie_fault c ≡ None
unfolding cie_fault
cie-from-good c g =
    let fine = (fine-cie-iff c (effects_by c g.items)).1 g.good in
    let k : fault_from (cie_refusal_at c) (λ _. None) c [] (map Ok g.items) ≡ None =
    pass-all (cie_refusal_at c) (λ _. None) c [] g.items
    (λ n x at. subst (λ l. cie_refusal_at c l x ≡ None) (sym (append-nil (reverse (take n (effects_by c g.items)))))
    (fine n x at)) g.expressions refl in
    rw (good-read c g) k

-- ---- FDEs

values-read : (items : List (ℕ × Instruction)) → ◌≡◌ {A = List (ℕ × Instruction)} (values_in (map Ok items)) items
values-read [] = refl
values-read (item ∷ items) = ap (λ l. item ∷ l) (values-read items)

pub effects-good : (c : Cie) (items : List (ℕ × Instruction)) (its : List (Result (ℕ × Instruction) Fault)) → its ≡ map Ok items
    → effects_of c its ≡ effects_by c items
effects-good c items its e = ap (effects_of c) e ∙ ap (effects_by c) (values-read items)

-- an FDE's program starts with the rules that its good CIE's instructions leave
pub start-same : (c : Cie) (f : Fde) (g : IsGoodCieProgram c) → fde_start c f ≡ start_after_cie c (reverse (effects_by c g.items)) f
start-same c f g =
    let left : effects_of_cie c ≡ reverse (effects_by c g.items) = ap reverse (effects-good c g.items _ (good-read c g)) in
    ap (λ l. start_after_cie c l f) left

pub good-from-fde : (c : Cie) (f : Fde) → IsGoodCieProgram c → fde_fault c f ≡ None → IsGoodFdeProgram c f
unfolding fde_fault
good-from-fde c f g h =
    let s = fde_start c f in
    let ending : List Effect → Option Fault = λ b. fault_of_kind (end_of f.program) (refusal_at_end s b) in
    let k = all-pass (refusal_at s) ending c [] (instructions_of f.program) h in
    let p = effects_by c k.items in
    let ends : refusal_at_end s (reverse p) ≡ None =
    fault_of_kind-none (end_of f.program) _ (subst (λ l. ending l ≡ None) (append-nil (reverse p)) k.ends) in
    let fine : Fine s p = record {
      each = λ n x at. subst (λ l. refusal_at s l x ≡ None) (append-nil (reverse (take n p))) (k.each n x at);
      ends = ends;
    } in
    let good : IsGood s p = (fine-iff s p (omega arith)).0 fine in
    record {
      first = g;
      items = k.items;
      encoded = (programs-are-instructions f.program k.items).0 k.read;
      good = subst (λ t. IsGood t p) (start-same c f g) good;
      expressions = k.good;
    }

pub good-read-fde : (c : Cie) (f : Fde) → (g : IsGoodFdeProgram c f) → instructions_of f.program ≡ map Ok g.items
good-read-fde c f g = (programs-are-instructions f.program g.items).1 g.encoded

-- the instructions of a good FDE program are good (`IsGood`) when they start with `fde_start`: at
-- the FDE's first address, with the rules that the CIE's program leaves
pub good-past : (c : Cie) (f : Fde) → (g : IsGoodFdeProgram c f) → IsGood (fde_start c f) (effects_by c g.items)
good-past c f g = subst (λ t. IsGood t (effects_by c g.items)) (sym (start-same c f g.first)) g.good

pub fde-from-good : (c : Cie) (f : Fde) → IsGoodFdeProgram c f → fde_fault c f ≡ None
unfolding fde_fault
fde-from-good c f g =
    let s = fde_start c f in
    let p = effects_by c g.items in
    let ending : List Effect → Option Fault = λ b. fault_of_kind (end_of f.program) (refusal_at_end s b) in
    let fine : Fine s p = (fine-iff s p (omega arith)).1 (good-past c f g) in
    let ends : ending (reverse p ++ []) ≡ None =
    subst (λ l. ending l ≡ None) (sym (append-nil (reverse p))) (ap (fault_of_kind (end_of f.program)) fine.ends) in
    let k : fault_from (refusal_at s) ending c [] (map Ok g.items) ≡ None =
    pass-all (refusal_at s) ending c [] g.items
    (λ n x at. subst (λ l. refusal_at s l x ≡ None) (sym (append-nil (reverse (take n p)))) (fine.each n x at)) g.expressions ends in
    rw (good-read-fde c f g) k
