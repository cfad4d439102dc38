-- Lists that are mapped with a function f: the elements at each index, and the order of both lists.
use Rattle.std.proofs.Common.{◌≡◌, ℕ, zero, suc, ◌<◌, List, [], ◌∷◌, get_or, map, Contains}
use Rattle.std.proofs.Common.{refl, ap, arith}
use Rattle.std.specs.List.{AllByRecursion}
use Rattle.dw_frame.specs.Bounds.{Ascends}
use Rattle.std.proofs.lemmas.List.{length-map}

-- the element of the mapped list at an index is f of the list's element there
pub placed-map : {X Y : Type 0} (f : X → Y) (xs : List X) (i : ℕ) (x : X) → get_or xs i x ≡ x → get_or (map f xs) i (f x) ≡ f x
placed-map f [] i x e = refl
placed-map f (y ∷ xs) zero x e = ap f e
placed-map f (y ∷ xs) (suc i) x e = placed-map f xs i x e

-- if a list contains x, the mapped list contains f x
pub contains-map : {X Y : Type 0} (f : X → Y) (xs : List X) (x : X) → Contains xs x → Contains (map f xs) (f x)
contains-map f xs x (k, lt, is) = let long = length-map xs f in (k, omega arith, placed-map f xs k x is)

pub contained-map : {X Y : Type 0} (f : X → Y) (xs : List X) (y : Y) → Contains (map f xs) y → (x : X) × Contains xs x × (f x ≡ y)
contained-map f [] y (k, lt, is) = absurd (omega arith)
contained-map f (x ∷ xs) y (zero, lt, is) = (x, (zero, omega arith, refl), is)
contained-map f (x ∷ xs) y (suc k, lt, is) = let rest = contained-map f xs y (k, omega arith, is) in
    (rest.0, (suc rest.1.0, omega (arith, rest.1.1), rest.1.2), rest.2)

all-back : {X Y : Type 0} (f : X → Y) (at : Y → ℕ) (n : ℕ) (xs : List X) → AllByRecursion (λ y. n < at y) (map f xs)
    → AllByRecursion (λ x. n < at (f x)) xs
all-back f at n [] all = tt
all-back f at n (x ∷ xs) all = (all.0, all-back f at n xs all.1)

-- if the mapped list ascends by `at`, the list ascends by `at (f x)` of its elements x
pub ascending-back : {X Y : Type 0} (f : X → Y) (at : Y → ℕ) (xs : List X) → Ascends at (map f xs) → Ascends (λ x. at (f x)) xs
ascending-back f at [] up = tt
ascending-back f at (x ∷ xs) up = (all-back f at (at (f x)) xs up.0, ascending-back f at xs up.1)
