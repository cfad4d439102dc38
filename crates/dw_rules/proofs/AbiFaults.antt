-- Register numbers can make an ABI (`CanBeAbi`) if and only if they have no fault. The index in the
-- fault AbiTwice is the index of the first number that occurred earlier in the list.
use Rattle.std.proofs.Common.{◌≡◌, ℕ, ◌<◌, Bool, true, false, cond, List, [], ◌∷◌, ◌++◌, length, Option, None, Some, refl, sym, ap, ◌∙◌}
use Rattle.std.proofs.Common.{arith, ltb, ◌||◌, take, subst, append_assoc, length-append}
use Rattle.std.specs.Prelude.{◌↔◌, nat_eq, option_map}
use Rattle.std.specs.Option.{option_to_list}
use Rattle.std.specs.List.{AllByRecursion, IsDistinct}
use Rattle.std.proofs.Math.Seq.{take-append_seam, get_or-append_seam}
use Rattle.std.proofs.lemmas.Bool.Decides.{nat_tests}
use Rattle.std.proofs.lemmas.List.{append-nil}
use Rattle.std.proofs.lemmas.Option.{slice_get-get_or}
use Rattle.dw_bytes.specs.declared.fault.Fault.{Fault}
use Rattle.dw_bytes.specs.declared.fault.FaultKind.TheVariants.{AbiTooLarge, AbiTwice}
use Rattle.dw_rules.specs.declared.abi.TheConstants.{MAX_KEPT}
use Rattle.dw_rules.specs.Abi.{is_among, abi_fault, place_of_second, CanBeAbi, StandsAgain}
use Rattle.dw_rules.proofs.AbiRules.{no-fault, second-here, second-later, twice}

-- ---- distinct numbers, and one more number after them

all-past : (x n : ℕ) (xs : List ℕ) → AllByRecursion (λ y. nat_eq x y ≡ false) xs → nat_eq x n ≡ false
    → AllByRecursion (λ y. nat_eq x y ≡ false) (xs ++ n ∷ [])
all-past x n [] all other = (other, tt)
all-past x n (y ∷ xs) all other = (all.0, all-past x n xs all.1 other)

one-of : (x n : ℕ) (xs ys : List ℕ) → AllByRecursion (λ y. nat_eq x y ≡ false) (xs ++ n ∷ ys) → nat_eq x n ≡ false
one-of x n [] ys all = all.0
one-of x n (y ∷ xs) ys all = one-of x n xs ys all.1

neither : (a b : Bool) → (a || b) ≡ false → (a ≡ false) × (b ≡ false)
neither true b h = absurd (cc)
neither false b h = (refl, h)

distinct-past : (xs : List ℕ) (n : ℕ) → IsDistinct nat_eq xs → is_among n xs ≡ false → IsDistinct nat_eq (xs ++ n ∷ [])
unfolding IsDistinct
distinct-past [] n d other = (tt, tt)
distinct-past (x ∷ xs) n d other =
    let both = neither (nat_eq x n) (is_among n xs) other in
    (all-past x n xs d.0 both.0, distinct-past xs n d.1 both.1)

none-before : (before : List ℕ) (n : ℕ) (rest : List ℕ) → IsDistinct nat_eq (before ++ n ∷ rest) → is_among n before ≡ false
unfolding IsDistinct
none-before [] n rest d = refl
none-before (x ∷ before) n rest d = rw (one-of x n before rest d.0, none-before before n rest d.1) refl

-- ---- the first number that has occurred before

regrouped : (before : List ℕ) (n : ℕ) (rest : List ℕ) → (before ++ n ∷ []) ++ rest ≡ before ++ n ∷ rest
regrouped before n rest = append_assoc before (n ∷ []) rest

none-second : (before rest : List ℕ) → IsDistinct nat_eq (before ++ rest) → place_of_second before rest ≡ None
none-second before [] d = refl
none-second before (n ∷ rest) d =
    second-later before n rest (none-before before n rest d)
    ∙ none-second (before ++ n ∷ []) rest (subst (IsDistinct nat_eq) (sym (regrouped before n rest)) d)

all-distinct : (before rest : List ℕ) → IsDistinct nat_eq before → place_of_second before rest ≡ None
    → IsDistinct nat_eq (before ++ rest)
all-distinct before [] d none = subst (IsDistinct nat_eq) (sym (append-nil before)) d
all-distinct before (n ∷ rest) d none = go (is_among n before) refl (all-distinct (before ++ n ∷ []) rest)
  where
    go : (among : Bool) → is_among n before ≡ among
        → (IsDistinct nat_eq (before ++ n ∷ []) → place_of_second (before ++ n ∷ []) rest ≡ None
        → IsDistinct nat_eq ((before ++ n ∷ []) ++ rest))
        → IsDistinct nat_eq (before ++ n ∷ rest)
    go true is later = let no : Some (length before) ≡ None = sym (second-here before n rest is) ∙ none in absurd (cc)
    go false is later =
        subst (IsDistinct nat_eq) (regrouped before n rest)
        (later (distinct-past before n d is) (sym (second-later before n rest is) ∙ none))

stands-here : (before : List ℕ) (n : ℕ) (rest : List ℕ) → IsDistinct nat_eq before → is_among n before ≡ true
    → StandsAgain (before ++ n ∷ rest) (length before)
stands-here before n rest d is =
    let front : take (length before) (before ++ n ∷ rest) ≡ before = take-append_seam before (n ∷ rest) in
    let inside : length before < length (before ++ n ∷ rest) = omega (arith, length-append before (n ∷ rest)) in
    record {
      number = n;
      here = slice_get-get_or (before ++ n ∷ rest) (length before) n inside ∙ ap Some (get_or-append_seam before n rest n);
      again = ap (is_among n) front ∙ is;
      first = subst (IsDistinct nat_eq) (sym front) d;
    }

stands-again : (before rest : List ℕ) (place : ℕ) → IsDistinct nat_eq before → place_of_second before rest ≡ Some place
    → StandsAgain (before ++ rest) place
stands-again before [] place d is = absurd (cc)
stands-again before (n ∷ rest) place d is = go (is_among n before) refl (stands-again (before ++ n ∷ []) rest place)
  where
    go : (among : Bool) → is_among n before ≡ among
        → (IsDistinct nat_eq (before ++ n ∷ []) → place_of_second (before ++ n ∷ []) rest ≡ Some place
        → StandsAgain ((before ++ n ∷ []) ++ rest) place)
        → StandsAgain (before ++ n ∷ rest) place
    go true here later =
        let found : Some (length before) ≡ Some place = sym (second-here before n rest here) ∙ is in
        let at : length before ≡ place = cc in
        subst (StandsAgain (before ++ n ∷ rest)) at (stands-here before n rest d here)
    go false other later =
        subst (λ l. StandsAgain l place) (regrouped before n rest)
        (later (distinct-past before n d other) (sym (second-later before n rest other) ∙ is))

-- ---- the first fault of an ABI

nothing-before : IsDistinct nat_eq []
unfolding IsDistinct
nothing-before = tt

abbrev too-large : Fault
too-large = record { kind = AbiTooLarge; at = MAX_KEPT }

none-of : (o : Option ℕ) → option_map twice o ≡ None → o ≡ None
none-of None h = refl
none-of (Some place) h = absurd (cc)

place-of : (o : Option ℕ) (place : ℕ) → option_map twice o ≡ Some (twice place) → o ≡ Some place
place-of None place h = absurd (cc)
place-of (Some found) place h = let same : twice found ≡ twice place = cc in ap (λ (f : Fault). Some f.at) same

can-be : (registers : List ℕ) (pointer : Option ℕ) → abi_fault registers pointer ≡ None → CanBeAbi registers pointer
can-be registers pointer is = go (ltb MAX_KEPT (length registers)) refl is
  where
    go : (large : Bool) → ltb MAX_KEPT (length registers) ≡ large
        → cond large (Some too-large) (option_map twice (place_of_second [] (registers ++ option_to_list pointer))) ≡ None
        → CanBeAbi registers pointer
    go true e h = absurd (cc)
    go false e h = record {
      few = grind (arith, nat_tests, e);
      distinct = all-distinct [] (registers ++ option_to_list pointer) nothing-before (none-of _ h);
    }

pub no-fault-is : (registers : List ℕ) (pointer : Option ℕ) → (abi_fault registers pointer ≡ None) ↔ CanBeAbi registers pointer
no-fault-is registers pointer = (
  can-be registers pointer,
  (λ k. no-fault registers pointer k.few (none-second [] (registers ++ option_to_list pointer) k.distinct)),
)

pub twice-is : (registers : List ℕ) (pointer : Option ℕ) (place : ℕ) → abi_fault registers pointer ≡ Some (twice place)
    → StandsAgain (registers ++ option_to_list pointer) place
twice-is registers pointer place is = go (ltb MAX_KEPT (length registers)) refl is
  where
    go : (large : Bool) → ltb MAX_KEPT (length registers) ≡ large
        → cond large (Some too-large) (option_map twice (place_of_second [] (registers ++ option_to_list pointer))) ≡ Some (twice place)
        → StandsAgain (registers ++ option_to_list pointer) place
    go true e h =
        let same : too-large ≡ twice place = cc in
        let kinds : AbiTooLarge ≡ AbiTwice = ap (λ (f : Fault). f.kind) same in absurd (cc)
    go false e h = stands-again [] (registers ++ option_to_list pointer) place nothing-before (place-of _ place h)
