-- At each address of an accepted section there is a caller, or no FDE covers the address, given
-- laws about rows and about the callers that rows give.
use Rattle.std.proofs.Common.{◌≡◌, ℕ, zero, suc, ◌+◌, ◌==◌, nat_le, nat_lt, Bool, true, false, cond, List, [], ◌∷◌}
use Rattle.std.proofs.Common.{refl, ap, sym, subst, ◌∙◌, arith, inl, inr}
use Rattle.std.specs.Prelude.{◌⊎◌, Option, Some, None, Contains, filter}
use Rattle.std.proofs.lemmas.Bool.Decides.{nat_tests}
use Rattle.dw_frame.specs.Records.{Cie, Fde}
use Rattle.dw_rules.specs.Abi.{Abi}
use Rattle.dw_rules.specs.Rules.{Row}
use Rattle.dw_rows.specs.Section.{FrameSection, Covers, IsChecked, cie_at, rows_in}
use Rattle.dw_rows.specs.ExactRows.{HasOneRow}
use Rattle.dw_eval.specs.World.{World}
use Rattle.dw_unwind.specs.Caller.{Caller, IsCaller, Unwinds}

-- ---- the FDE that covers an address

abbrev Looked : ℕ → List Fde → Type 0
Looked a fs = ((f : Fde) → Contains fs f → ¬ Covers f a) ⊎ ((f : Fde) × Contains fs f × Covers f a)

not_first : (a : ℕ) (f : Fde) (fs : List Fde) → ¬ Covers f a → ((g : Fde) → Contains fs g → ¬ Covers g a) → (g : Fde)
    → Contains (f ∷ fs) g → ¬ Covers g a
not_first a f fs here none g (zero, lt, is) covers = here (subst (λ (x : Fde). Covers x a) (sym is) covers)
not_first a f fs here none g (suc k, lt, is) covers = none g (k, omega (arith, lt), is) covers

first_or : (a : ℕ) (f : Fde) (fs : List Fde) (low high : Bool) → nat_le f.initial_location a ≡ low
    → nat_lt a (f.initial_location + f.address_range) ≡ high
    → Looked a fs → Looked a (f ∷ fs)
first_or a f fs true true e h rest =
    inr (f, (zero, omega arith, refl), (grind (arith, nat_tests, e), grind (arith, nat_tests, h)))
first_or a f fs low high e h (inr (g, (k, lt, at), covers)) = inr (g, (suc k, omega (arith, lt), at), covers)
first_or a f fs false high e h (inl none) = inl (not_first a f fs (λ covers. grind (arith, nat_tests, e, covers.0)) none)
first_or a f fs true false e h (inl none) = inl (not_first a f fs (λ covers. grind (arith, nat_tests, h, covers.1)) none)

looked : (a : ℕ) (fs : List Fde) → Looked a fs
looked a [] = inl (λ f (k, lt, is) covers. omega (arith, lt))
looked a (f ∷ fs) = first_or a f fs (nat_le f.initial_location a) (nat_lt a (f.initial_location + f.address_range)) refl refl (looked a fs)

-- ---- the CIE of an FDE

first_cie_or : (p : ℕ) (c : Cie) (cs : List Cie) (b : Bool) → (c.offset == p) ≡ b → (d : Cie) → Contains (c ∷ cs) d → d.offset ≡ p
    → ((e : Cie) → Contains cs e → e.offset ≡ p → (x : Cie) × (cie_at cs p ≡ Some x)) → (x : Cie) × (cie_at (c ∷ cs) p ≡ Some x)
first_cie_or p c cs true e d among is past = (c, ap (λ (b : Bool). cond b (Some c) (cie_at cs p)) e)
first_cie_or p c cs false e d (zero, lt, at) is past =
    let same : c.offset ≡ p = ap (λ (x : Cie). x.offset) at ∙ is in
    absurd (grind (arith, nat_tests, e, same))
first_cie_or p c cs false e d (suc k, lt, at) is past =
    let found = past d (k, omega (arith, lt), at) is in
    (found.0, ap (λ (b : Bool). cond b (Some c) (cie_at cs p)) e ∙ found.1)

some_cie : (p : ℕ) (cs : List Cie) (d : Cie) → Contains cs d → d.offset ≡ p → (x : Cie) × (cie_at cs p ≡ Some x)
some_cie p [] d (k, lt, at) is = absurd (omega (arith, lt))
some_cie p (c ∷ cs) d among is = first_cie_or p c cs (c.offset == p) refl d among is (some_cie p cs)

-- ---- a filter keeps only elements of its list

later : {X : Type 0} (x y : X) (xs : List X) → Contains xs y → Contains (x ∷ xs) y
later x y xs at = (suc at.0, omega (arith, at.1), at.2)

kept_or : {X : Type 0} (test : X → Bool) (y : X) (xs : List X) (x : X) (ys : List X) (b : Bool) → test y ≡ b
    → filter test (y ∷ xs) ≡ x ∷ ys → (filter test xs ≡ x ∷ ys → Contains xs x) → Contains (y ∷ xs) x
kept_or test y xs x ys true t e past =
    let both : y ∷ filter test xs ≡ x ∷ ys = sym (ap (λ (b : Bool). cond b (y ∷ filter test xs) (filter test xs)) t) ∙ e in
    let same : y ≡ x = cc in
    (zero, omega arith, same)
kept_or test y xs x ys false t e past =
    let rest : filter test xs ≡ x ∷ ys = sym (ap (λ (b : Bool). cond b (y ∷ filter test xs) (filter test xs)) t) ∙ e in
    later y x xs (past rest)

kept_among : {X : Type 0} (test : X → Bool) (xs : List X) (x : X) (ys : List X) → filter test xs ≡ x ∷ ys → Contains xs x
kept_among test [] x ys e = absurd cc
kept_among test (y ∷ xs) x ys e = kept_or test y xs x ys (test y) refl e (kept_among test xs x ys)

-- ---- unwinding gives a caller, or none

module _ (covered : (s : FrameSection) (a : ℕ) → IsChecked s → (f : Fde) → Contains s.fdes f → Covers f a → HasOneRow s a)
    (has : (e : World) (abi : Abi) (back : ℕ) (frame : FrameSection) (fde : Fde) (row : Row) → IsChecked frame → Contains frame.fdes fde
    → Contains (rows_in frame fde) row → (c : Caller) × IsCaller e abi back row c) where
  by_cover : (e : World) (abi : Abi) (frame : FrameSection) (a : ℕ) → IsChecked frame → HasOneRow frame a
      → (c : Option Caller) × Unwinds e abi frame a c
  by_cover e abi frame a checked one =
      let cie = some_cie one.fde.cie_pointer frame.cies one.cie one.among one.pointed in
      let caller = has e abi cie.0.return_address_register frame one.fde one.row checked one.covers.0
      (kept_among _ (rows_in frame one.fde) one.row [] one.one) in (
        Some caller.0,
        record {
          fde = one.fde;
          covers = one.covers;
          cie = cie.0;
          cie_is = cie.1;
          row = one.row;
          row_is = one.found;
          is = caller.1;
        },
      )

  pub each_unwinding : (e : World) (abi : Abi) (frame : FrameSection) (a : ℕ) → IsChecked frame
      → (c : Option Caller) × Unwinds e abi frame a c
  each_unwinding e abi frame a checked = elim (looked a frame.fdes) [
    | inl none ↦ (None, none)
    | inr f ↦ by_cover e abi frame a checked (covered frame a checked f.0 f.1 f.2)
  ]
