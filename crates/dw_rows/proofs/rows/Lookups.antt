-- The row that a section has at an address is a row of the only FDE that covers the address.
use Rattle.std.proofs.Common.{◌≡◌, ℕ, zero, suc, List, [], ◌∷◌, ap, sym, ◌∙◌, refl, arith, cond}
use Rattle.std.specs.Prelude.{Bool, true, false, Some, None, find, option_and_then}
use Rattle.std.specs.List.{Contains}
use Rattle.std.proofs.lemmas.Bool.Decides.{nat_tests}
use Rattle.dw_frame.specs.Records.{Fde}
use Rattle.dw_rules.specs.Rules.{Row}
use Rattle.dw_rows.specs.UnwindRows.{has_address}
use Rattle.dw_rows.specs.Section.{FrameSection, Covers, IsCoverOf, rows_in, covers, row_of}

-- ---- the first element that passes a test

first : {X : Type 0} (x : X) (xs : List X) → Contains (x ∷ xs) x
first x xs = (0, omega arith, refl)

later : {X : Type 0} (x y : X) (xs : List X) → Contains xs y → Contains (x ∷ xs) y
later x y xs at = (suc at.0, omega (arith, at.1), at.2)

find_nothing : {X : Type 0} (p : X → Bool) (xs : List X) → ((x : X) → Contains xs x → p x ≡ false) → find p xs ≡ None
find_nothing p [] none = refl
find_nothing p (x ∷ xs) none = rw (none x (first x xs)) (find_nothing p xs (λ y at. none y (later x y xs at)))

past : {X : Type 0} (x f : X) (xs : List X) → (x ≡ f → ⊥) → Contains (x ∷ xs) f → Contains xs f
past x f xs other (zero, few, here) = absurd (other here)
past x f xs other (suc k, few, here) = (k, omega (arith, few), here)

find_only : {X : Type 0} (p : X → Bool) (xs : List X) (f : X) → Contains xs f → p f ≡ true → ((g : X) → Contains xs g → p g ≡ true → g ≡ f)
    → find p xs ≡ Some f
find_only p [] f at passes only = absurd (omega (arith, at.1))
find_only p (x ∷ xs) f at passes only =
    let next : Contains xs f → find p xs ≡ Some f = λ there. find_only p xs f there passes (λ g here. only g (later x g xs here)) in
    go next (p x) refl
  where
    go : (Contains xs f → find p xs ≡ Some f) → (b : Bool) → p x ≡ b → cond b (Some x) (find p xs) ≡ Some f
    go next true e = ap Some (only x (first x xs) e)
    go next false e =
        let other : x ≡ f → ⊥ = λ s. let wrong : true ≡ false = sym passes ∙ ap p (sym s) ∙ e in cc in
        next (past x f xs other at)

-- ---- the FDE that covers an address

covers_then : (a : ℕ) (f : Fde) → covers a f ≡ true → Covers f a
covers_then a f e = grind (arith, nat_tests)

covers_not : (a : ℕ) (f : Fde) → (Covers f a → ⊥) → covers a f ≡ false
covers_not a f not_here = go (covers a f) refl
  where
    go : (b : Bool) → covers a f ≡ b → b ≡ false
    go true e = absurd (not_here (covers_then a f e))
    go false e = refl

covers_so : (a : ℕ) (f : Fde) → Covers f a → covers a f ≡ true
covers_so a f here = grind (arith, nat_tests)

-- the row of the only FDE that covers an address is the row of the address
pub row-found : (s : FrameSection) (a : ℕ) (f : Fde) (row : Row) → IsCoverOf s.fdes a (Some f)
    → find (has_address a) (rows_in s f) ≡ Some row
    → row_of s a ≡ Some row
row-found s a f row only found =
    ap (option_and_then (λ g. find (has_address a) (rows_in s g)))
    (find_only (covers a) s.fdes f only.0 (covers_so a f only.1) (λ g at e. only.2 g at (covers_then a g e)))
    ∙ found

pub row-none : (s : FrameSection) (a : ℕ) → ((f : Fde) → Contains s.fdes f → ¬ Covers f a) → row_of s a ≡ None
row-none s a none =
    ap (option_and_then (λ g. find (has_address a) (rows_in s g)))
    (find_nothing (covers a) s.fdes (λ f at. covers_not a f (none f at)))
