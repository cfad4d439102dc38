-- FDEs that share addresses: the test `shares`, and the fault Overlap.
use Rattle.std.proofs.Common.{◌≡◌, ℕ, zero, suc, ◌<◌, List, [], ◌∷◌, Option, Some, None, Contains, Bool, true, false, refl, sym, ap, ◌∙◌}
use Rattle.std.proofs.Common.{subst, arith, if◌then◌else◌, inl, inr}
use Rattle.std.specs.Prelude.{◌&&◌, ◌||◌, nat_lt}
use Rattle.std.specs.Option.{option_or}
use Rattle.std.specs.List.{list_any}
use Rattle.std.proofs.lemmas.Bool.{cases_lt, ltb-true, lt-ltb}
use Rattle.std.proofs.lemmas.List.Folds.{list_any_at}
use Rattle.std.proofs.lemmas.Bool.Decides.{nat_tests}
use Rattle.dw_bytes.specs.declared.fault.Fault.{Fault}
use Rattle.dw_bytes.specs.declared.fault.FaultKind.TheVariants.{Overlap}
use Rattle.dw_frame.specs.Records.{Fde}
use Rattle.dw_rows.specs.Section.{first_fault, overlap_fault, shares, SharesAddress, CoversOnce}
use Rattle.dw_rows.specs.AddressIndex.{fde_offset, AreApart, IsApart, Overlaps, IsFirstOverlap}
use Rattle.dw_frame.specs.Bounds.{Ascends}
use Rattle.dw_rules.proofs.Search.{ascending-at}
use Rattle.dw_rows.proofs.Faults.{none-each}
use Rattle.dw_rows.proofs.sections.Sweeps.{covers-once}

-- two FDEs that pass the test share an address: the higher of their initial locations
pub shares-true : (f g : Fde) → shares f g ≡ true → SharesAddress f g
shares-true f g e = elim (cases_lt f.initial_location g.initial_location) [
  | inl lt ↦ (g.initial_location, (omega arith, grind (arith, nat_tests)), (omega arith, grind (arith, nat_tests)))
  | inr le ↦ (f.initial_location, (omega arith, grind (arith, nat_tests)), (omega arith, grind (arith, nat_tests)))
]

pub shares-address : (f g : Fde) → SharesAddress f g → shares f g ≡ true
shares-address f g (a, cf, cg) =
    let f_low = cf.0 in
    let f_high = cf.1 in
    let g_low = cg.0 in
    let g_high = cg.1 in
    grind (arith, nat_tests)

-- whether f comes before g in the section and shares an address with g
abbrev pub clashes : Fde → Fde → Bool
clashes g f = nat_lt f.offset g.offset && shares f g

any-first : {X : Type 0} (p : X → Bool) (x : X) (xs : List X) (b : Bool) → p x ≡ b → (b || list_any p xs) ≡ true
    → (list_any p xs ≡ true → (y : X) × Contains xs y × (p y ≡ true)) → (y : X) × Contains (x ∷ xs) y × (p y ≡ true)
any-first p x xs true is e rest = (x, (zero, omega arith, refl), is)
any-first p x xs false is e rest = let found = rest e in (found.0, (suc found.1.0, omega (arith, found.1.1), found.1.2), found.2)

both : (a b : Bool) → a ≡ true → b ≡ true → (a && b) ≡ true
both a b e h = rw (e, h) refl

both-first : (a b : Bool) → (a && b) ≡ true → (a ≡ true) × (b ≡ true)
both-first true b e = (refl, e)
both-first false b e = let clash : false ≡ true = e in cc

none-some : (f : Fault) → None ≡ Some f → ⊥
none-some f e = cc

no-clash : (fdes : List Fde) (g : Fde) → IsApart fdes g → (f : Fde) → Contains fdes f → clashes g f ≡ true → ⊥
no-clash fdes g apart f among e = let tests = both-first (nat_lt f.offset g.offset) (shares f g) e in
    apart f among (ltb-true _ _ tests.0) (shares-true f g tests.1)

any-true : {X : Type 0} (p : X → Bool) (xs : List X) → list_any p xs ≡ true → (x : X) × Contains xs x × (p x ≡ true)
any-true p [] e = let clash : false ≡ true = e in cc
any-true p (x ∷ xs) e = any-first p x xs (p x) refl e (any-true p xs)

abbrev overlap_at : Fde → Fault
overlap_at g = record { kind = Overlap; at = g.offset }

abbrev overlap_if : Fde → Bool → Option Fault
overlap_if g b = if b then Some (overlap_at g) else None

-- if no FDE before g shares an address with g, there is no fault at g
pub apart-none : (fdes : List Fde) (g : Fde) → IsApart fdes g → overlap_fault fdes g ≡ None
apart-none fdes g apart = elim (list_any (clashes g) fdes) as (λ b. list_any (clashes g) fdes ≡ b → overlap_if g b ≡ None) [
  | true ↦ λ e. let clash = any-true (clashes g) fdes e in absurd (no-clash fdes g apart clash.0 clash.1 clash.2)
  | false ↦ λ e. refl
] refl

-- if an FDE before g shares an address with g, there is a fault at g
pub overlaps-some : (fdes : List Fde) (g : Fde) → Overlaps fdes g → overlap_fault fdes g ≡ Some (overlap_at g)
overlaps-some fdes g (f, (k, lt, is), order, shared) =
    let test : clashes g f ≡ true = both (nat_lt f.offset g.offset) (shares f g) (lt-ltb _ _ order) (shares-address f g shared) in
    let any : list_any (clashes g) fdes ≡ true = list_any_at (clashes g) fdes k f lt (ap (clashes g) is ∙ test) in
    ap (overlap_if g) any

-- if x, an element of a list in ascending order, has a fault, and no lower element has one, the
-- list's first fault is x's fault
pub first-of : {X : Type 0} (at : X → ℕ) (t : X → Option Fault) (xs : List X) → Ascends at xs → (x : X) (f : Fault) → Contains xs x
    → t x ≡ Some f → ((y : X) → Contains xs y → at y < at x → t y ≡ None) → first_fault t xs ≡ Some f
first-of at t [] up x f (k, lt, is) here before = absurd (omega arith)
first-of at t (y ∷ xs) up x f (zero, lt, is) here before = ap (λ o. option_or o (first_fault t xs)) (ap t is ∙ here)
first-of at t (y ∷ xs) up x f (suc k, lt, is) here before =
    let lower : at y < at x = subst (λ v. at y < at v) is (ascending-at at (y ∷ xs) up zero (suc k) x (omega arith) lt) in
    let none : t y ≡ None = before y (zero, omega arith, refl) lower in
    let rest = first-of at t xs up.1 x f (k, omega arith, is) here (λ z c h. before z (suc c.0, omega (arith, c.1), c.2) h) in
    ap (λ o. option_or o (first_fault t xs)) none ∙ rest

-- if no element has a fault, the list has none
pub each-none : {X : Type 0} (t : X → Option Fault) (xs : List X) → ((x : X) → Contains xs x → t x ≡ None) → first_fault t xs ≡ None
each-none t [] all = refl
each-none t (x ∷ xs) all = ap (λ o. option_or o (first_fault t xs)) (all x (zero, omega arith, refl))
    ∙ each-none t xs (λ y c. all y (suc c.0, omega (arith, c.1), c.2))

-- ---- the addresses of a whole section

pub none-overlap : (fdes : List Fde) → AreApart fdes → first_fault (overlap_fault fdes) fdes ≡ None
none-overlap fdes apart = each-none (overlap_fault fdes) fdes (λ g c. apart-none fdes g (apart g c))

pub first-overlaps : (fdes : List Fde) (g : Fde) → Ascends fde_offset fdes → IsFirstOverlap fdes g
    → first_fault (overlap_fault fdes) fdes ≡ Some (record { kind = Overlap; at = g.offset })
first-overlaps fdes g up first = first-of fde_offset (overlap_fault fdes) fdes up g (overlap_at g) first.among
    (overlaps-some fdes g first.fails) (λ y c lt. apart-none fdes y (first.before y c lt))

-- if no FDE shares an address with an earlier one, no address is covered by two
pub once-covered : (fdes : List Fde) → Ascends fde_offset fdes → first_fault (overlap_fault fdes) fdes ≡ None → CoversOnce fdes
once-covered fdes up none = covers-once fdes up (λ g g_in f f_in lt shared.
    let clash = overlaps-some fdes g (f, f_in, lt, shared) in
    let clear = none-each (overlap_fault fdes) fdes none g g_in in
    let no : None ≡ Some (record { kind = Overlap; at = g.offset }) = sym clear ∙ clash in
    absurd (none-some _ no))
