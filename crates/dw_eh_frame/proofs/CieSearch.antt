-- Whether one of the CIEs begins at an offset.
use Rattle.std.proofs.Common.{◌≡◌, ◌≢◌, ℕ, zero, suc, ◌<◌, Bool, true, false, List, [], ◌∷◌, length, map, Result, Ok, Err, Contains, refl, sym, ap, ◌∙◌, arith}
use Rattle.std.specs.Prelude.{◌==◌, ◌||◌}
use Rattle.std.specs.List.{AllByRecursion}
use Rattle.std.specs.List.Sorted.{IsBinarySearchResult, IsSearchInRange}
use Rattle.std.specs.Ordering.{nat_cmp}
use Rattle.std.specs.Result.{is_ok}
use Rattle.std.proofs.lemmas.Bool.Decides.{nat_tests}
use Rattle.dw_frame.specs.declared.entry.CommonInformationEntry.{CommonInformationEntry}
use Rattle.dw_frame.specs.Bounds.{Ascends}
use Rattle.dw_frame.specs.Views.{cie_of}
use Rattle.dw_eh_frame.specs.Progress.{cie_offset, has_cie_at}
use Rattle.dw_eh_frame.proofs.PlaceSearch.{searched-found, searched-none}

abbrev pub entry_offset : CommonInformationEntry → ℕ
entry_offset c = c.offset

equal : (n m : ℕ) → n ≡ m → (n == m) ≡ true
equal n m is = grind (arith, nat_tests)

differs : (n m : ℕ) → n ≢ m → (n == m) ≡ false
differs n m other = grind (arith, nat_tests)

pub has-one : (cies : List CommonInformationEntry) (c : CommonInformationEntry) (k : ℕ) → Contains cies c → entry_offset c ≡ k
    → has_cie_at (map cie_of cies) k ≡ true
has-one [] c k (i, less, is) here = absurd (omega arith)
has-one (d ∷ cies) c k (zero, less, is) here =
    ap (λ b. b || has_cie_at (map cie_of cies) k) (equal (entry_offset d) k (ap entry_offset is ∙ here))
has-one (d ∷ cies) c k (suc i, less, is) here = go (entry_offset d == k) (has-one cies c k (i, omega arith, is) here)
  where
    go : (b : Bool) → has_cie_at (map cie_of cies) k ≡ true → (b || has_cie_at (map cie_of cies) k) ≡ true
    go true others = refl
    go false others = others

has-none : (cies : List CommonInformationEntry) (k : ℕ) → ((c : CommonInformationEntry) → Contains cies c → entry_offset c ≢ k)
    → has_cie_at (map cie_of cies) k ≡ false
has-none [] k none = refl
has-none (d ∷ cies) k none =
    ap (λ b. b || has_cie_at (map cie_of cies) k) (differs (entry_offset d) k (none d (zero, omega arith, refl)))
    ∙ has-none cies k (λ c (i, less, is). none c (suc i, omega arith, is))

above : (n : ℕ) (cies : List CommonInformationEntry) → AllByRecursion (λ c. n < cie_offset c) (map cie_of cies)
    → AllByRecursion (λ c. n < entry_offset c) cies
above n [] all = tt
above n (c ∷ cies) all = (all.0, above n cies all.1)

ascend : (cies : List CommonInformationEntry) → Ascends cie_offset (map cie_of cies) → Ascends entry_offset cies
ascend [] up = tt
ascend (c ∷ cies) up = (above (entry_offset c) cies up.0, ascend cies up.1)

pub searched : (cies : List CommonInformationEntry) (k : ℕ) (r : Result ℕ ℕ) → Ascends cie_offset (map cie_of cies)
    → IsSearchInRange r (length cies) → IsBinarySearchResult (λ c. nat_cmp (entry_offset c) k) cies r
    → is_ok r ≡ has_cie_at (map cie_of cies) k
searched [] k (Ok i) up inside found = absurd (omega (arith, inside))
searched (c ∷ cies) k (Ok i) up inside found =
    let one = searched-found entry_offset (c ∷ cies) k c i inside found in
    sym (has-one (c ∷ cies) _ k one.0 one.1)
searched cies k (Err i) up inside parted = sym (has-none cies k (searched-none entry_offset cies (ascend cies up) k i inside parted))
