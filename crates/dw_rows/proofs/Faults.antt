-- The first fault among the elements of a list, and the CIE that begins at an offset.
use Rattle.std.proofs.Common.{◌≡◌, ◌≢◌, ℕ, zero, suc, ◌+◌, ◌<◌, ◌≤◌, ◌==◌, List, [], ◌∷◌, length, get_or, drop, map, Option, Some, None}
use Rattle.std.proofs.Common.{Contains, true, false, refl, sym, ap, ◌∙◌, subst, arith, drop-cons, if◌then◌else◌}
use Rattle.std.specs.Prelude.{find}
use Rattle.std.specs.Option.{option_or}
use Rattle.std.proofs.lemmas.Bool.Decides.{nat_tests}
use Rattle.std.proofs.lemmas.Bool.{eqb-true}
use Rattle.dw_bytes.specs.declared.fault.Fault.{Fault}
use Rattle.dw_frame.specs.Records.{Cie}
use Rattle.dw_rows.specs.Section.{first_fault, cie_at}
use Rattle.dw_rows.specs.AddressIndex.{cie_offset}
use Rattle.dw_frame.specs.Bounds.{Ascends}
use Rattle.dw_rules.proofs.Search.{ascending-same}

-- if `option_or` gives none, both of its arguments are none
pub option_or-none : {A : Type 0} (a b : Option A) → option_or a b ≡ None → (a ≡ None) × (b ≡ None)
option_or-none None b e = (refl, e)
option_or-none (Some x) b e = let clash : Some x ≡ None = e in cc

-- without its first i elements a list begins with the element at index i
pub drop-at : {X : Type 0} (xs : List X) (i : ℕ) (x : X) → i < length xs → get_or xs i x ≡ x → drop i xs ≡ x ∷ drop (i + 1) xs
drop-at xs i x lt is =
    let next : suc i ≡ i + 1 = omega arith in
    drop-cons xs i x lt ∙ (ap (λ y. y ∷ drop (suc i) xs) is ∙ ap (λ k. x ∷ drop k xs) next)

from-here : {X Y : Type 0} (view : X → Y) (t : Y → Option Fault) (xs : List X) (i : ℕ) (x : X) → i < length xs → get_or xs i x ≡ x
    → first_fault t (map view (drop i xs)) ≡ option_or (t (view x)) (first_fault t (map view (drop (i + 1) xs)))
from-here view t xs i x lt is =
    ap (λ l. first_fault t (map view l)) (drop-at xs i x lt is)

-- if the element at index i has no fault, the first fault from index i on is the first fault from
-- index i + 1 on
pub passed : {X Y : Type 0} (view : X → Y) (t : Y → Option Fault) (xs : List X) (i : ℕ) (x : X) → i < length xs → get_or xs i x ≡ x
    → t (view x) ≡ None → first_fault t (map view (drop i xs)) ≡ first_fault t (map view (drop (i + 1) xs))
passed view t xs i x lt is none = from-here view t xs i x lt is ∙ ap (λ o. option_or o (first_fault t (map view (drop (i + 1) xs)))) none

-- if the element at index i has a fault, that fault is the first from index i on
pub refused : {X Y : Type 0} (view : X → Y) (t : Y → Option Fault) (xs : List X) (i : ℕ) (x : X) (f : Fault) → i < length xs
    → get_or xs i x ≡ x → t (view x) ≡ Some f → first_fault t (map view (drop i xs)) ≡ Some f
refused view t xs i x f lt is some = from-here view t xs i x lt is ∙ ap (λ o. option_or o (first_fault t (map view (drop (i + 1) xs)))) some

-- from an index past the last element on, there is no fault
pub ended : {X Y : Type 0} (view : X → Y) (t : Y → Option Fault) (xs : List X) (i : ℕ) → length xs ≤ i
    → first_fault t (map view (drop i xs)) ≡ None
ended view t [] zero le = refl
ended view t [] (suc i) le = refl
ended view t (x ∷ xs) zero le = absurd (omega arith)
ended view t (x ∷ xs) (suc i) le = ended view t xs i (omega arith)

-- ---- the CIE at an offset

Contains-rest : (c x : Cie) (xs : List Cie) → Contains (x ∷ xs) c → x.offset ≢ c.offset → Contains xs c
Contains-rest c x xs (zero, lt, is) other = absurd (other (ap cie_offset is))
Contains-rest c x xs (suc k, lt, is) other = (k, omega arith, is)

-- each CIE in the list is found at its own offset
pub found-at : (cies : List Cie) → Ascends cie_offset cies → (c : Cie) (at : ℕ) → Contains cies c → c.offset ≡ at → cie_at cies at ≡ Some c
found-at [] up c at (k, lt, is) same = absurd (omega arith)
found-at (x ∷ xs) up c at among same = elim (x.offset == at) as
    (λ b. (x.offset == at) ≡ b → (if b then Some x else find (λ y. y.offset == at) xs) ≡ Some c) [
      | true ↦ λ e. ap Some (ascending-same cie_offset (x ∷ xs) up x c (zero, omega arith, refl) among (eqb-true _ _ e ∙ sym same))
      | false ↦ λ e. found-at xs up.1 c at (Contains-rest c x xs among (λ h. let no : (x.offset == at) ≡ true = grind (arith, nat_tests) in
          let clash : true ≡ false = sym no ∙ e in cc)) same
    ] refl

-- if no CIE in the list begins at an offset, none is found there
pub absent-at : (cies : List Cie) (at : ℕ) → ((c : Cie) → Contains cies c → c.offset ≢ at) → cie_at cies at ≡ None
absent-at [] at none = refl
absent-at (x ∷ xs) at none = elim (x.offset == at) as
    (λ b. (x.offset == at) ≡ b → (if b then Some x else find (λ y. y.offset == at) xs) ≡ None) [
      | true ↦ λ e. absurd (none x (zero, omega arith, refl) (eqb-true _ _ e))
      | false ↦ λ e. absent-at xs at (λ c h. none c (suc h.0, omega (arith, h.1), h.2))
    ] refl

-- a CIE that is found at an offset is in the list, and begins at that offset
pub at-found : (cies : List Cie) (at : ℕ) (c : Cie) → cie_at cies at ≡ Some c → Contains cies c × (c.offset ≡ at)
at-found [] at c e = let nothing : Option Cie = None in let clash : nothing ≡ Some c = e in cc
at-found (x ∷ xs) at c e = elim (x.offset == at) as
    (λ b. (x.offset == at) ≡ b → (if b then Some x else find (λ y. y.offset == at) xs) ≡ Some c → Contains (x ∷ xs) c × (c.offset ≡ at)) [
      | true ↦ λ yes is. let same : x ≡ c = cc in ((zero, omega arith, same), subst (λ v. v.offset ≡ at) same (eqb-true _ _ yes))
      | false ↦ λ not_here is. let rest = at-found xs at c is in ((suc rest.0.0, omega (arith, rest.0.1), rest.0.2), rest.1)
    ] refl e

none-past : {X : Type 0} (t : X → Option Fault) (y : X) (xs : List X) → t y ≡ None → (x : X) → (Contains xs x → t x ≡ None)
    → Contains (y ∷ xs) x → t x ≡ None
none-past t y xs here x rest (zero, lt, is) = ap t (sym is) ∙ here
none-past t y xs here x rest (suc k, lt, is) = rest (k, omega arith, is)

-- if a list has no fault, none of its elements has one
pub none-each : {X : Type 0} (t : X → Option Fault) (xs : List X) → first_fault t xs ≡ None → (x : X) → Contains xs x → t x ≡ None
none-each t [] none x (k, lt, is) = absurd (omega arith)
none-each t (y ∷ xs) none x among = elim (t y) as (λ o. t y ≡ o → option_or o (first_fault t xs) ≡ None → t x ≡ None) [
  | Some f ↦ λ here no. cc
  | None ↦ λ here rest. none-past t y xs here x (λ c. none-each t xs rest x c) among
] refl none
