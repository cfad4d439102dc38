-- Lists that are mapped with a function f: the elements at each index, and the order of both lists.
use Rattle.std.proofs.Common.{◌≡◌, ℕ, ◌<◌, ◌≤◌, ◌+◌, List, [], ◌∷◌, ◌++◌, length, get_or, take, map}
use Rattle.std.proofs.Common.{sym, ap, ◌∙◌, subst, arith}
use Rattle.std.specs.List.Sorted.{IsNonDecreasingBy}
use Rattle.std.proofs.lemmas.List.{get_or-map, length-map, take_more, map-append}
use Rattle.std.proofs.lemmas.Option.{slice_get-get_or}
use Rattle.std.specs.Prelude.{Some, slice_get}
use Rattle.std.proofs.Math.ListN.{get_or-map as at_default}
use Rattle.dw_frame.specs.Records.{Fde}
use Rattle.dw_frame.specs.Views.{fde_of}
use Rattle.dw_frame.specs.declared.entry.FrameDescriptionEntry.{FrameDescriptionEntry}
use Rattle.dw_rules.proofs.Elements.{placed-map}

-- the first element of a list that isn't empty, to use where a default value is needed
pub some-element : {X : Type 0} (xs : List X) (i : ℕ) → i < length xs → X
some-element [] i h = absurd (omega arith)
some-element (x ∷ xs) i h = x

-- if a list is sorted by `key (f x)` of its elements x, the mapped list is sorted by `key`
pub sorted-map : {X Y : Type 0} (f : X → Y) (key : Y → ℕ) (xs : List X) → IsNonDecreasingBy (λ x. key (f x)) xs
    → IsNonDecreasingBy key (map f xs)
sorted-map f key xs sorted i j e le lt =
    let long = length-map xs f in
    let j_in : j < length xs = omega arith in
    let i_in : i < length xs = omega arith in
    let d = some-element xs j j_in in
    let at_i = get_or-map f xs i d e i_in in
    let at_j = get_or-map f xs j d e j_in in
    let h = sorted i j d le j_in in
    subst (λ v. key v ≤ key (get_or (map f xs) j e)) (sym at_i) (subst (λ v. key (f (get_or xs i d)) ≤ key v) (sym at_j) h)

-- mapping the code's FDEs to the specification's by `fde_of` keeps the offset of each FDE
pub offset-at : (xs : List FrameDescriptionEntry) (i : ℕ) (x : FrameDescriptionEntry) (d : Fde) → i < length xs
    → (get_or (map fde_of xs) i d).offset ≡ (get_or xs i x).offset
offset-at xs i x d i_in = ap (λ (f : Fde). f.offset) (get_or-map fde_of xs i x d i_in)

-- if the mapped list is sorted by `key`, the list is sorted by `key (f x)` of its elements x
pub sorted-back : {X Y : Type 0} (f : X → Y) (key : Y → ℕ) (xs : List X) → IsNonDecreasingBy key (map f xs)
    → IsNonDecreasingBy (λ x. key (f x)) xs
sorted-back f key xs sorted i j d le lt =
    let long = length-map xs f in
    let h = sorted i j (f d) le (omega arith) in
    subst (λ v. key v ≤ key (f (get_or xs j d))) (at_default f xs i d)
    (subst (λ v. key (get_or (map f xs) i (f d)) ≤ key v) (at_default f xs j d) h)

-- reading the mapped list at an index gives f of the list's element there
pub read-map : {X Y : Type 0} (f : X → Y) (xs : List X) (i : ℕ) (x : X) → i < length xs → get_or xs i x ≡ x
    → slice_get (map f xs) i ≡ Some (f x)
read-map f xs i x lt is = let long = length-map xs f in slice_get-get_or (map f xs) i (f x) (omega arith) ∙ ap Some (placed-map f xs i x is)

-- the first i + 1 elements, mapped, are the first i, mapped, and then f of the element at index i
pub front-map : {X Y : Type 0} (f : X → Y) (xs : List X) (i : ℕ) (x : X) → i < length xs → get_or xs i x ≡ x
    → map f (take (i + 1) xs) ≡ map f (take i xs) ++ f x ∷ []
front-map f xs i x lt is = ap (map f) (take_more xs i x lt ∙ ap (λ y. take i xs ++ y ∷ []) is) ∙ map-append f (take i xs) (x ∷ [])
