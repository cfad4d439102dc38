-- Writing elements to slots one by one gives the same slots as `put_into`, which writes all of the
-- elements. The slots are the elements of an array that C passes.
use Rattle.std.proofs.Common.{◌≡◌, ℕ, suc, ◌+◌, ◌<◌, ◌≤◌, List, [], ◌∷◌, ◌++◌, length, map, take, append_assoc, length-append, refl, sym, ap, ◌∙◌, arith, Option, Some, None}
use Rattle.std.specs.Prelude.{slice_set, slice_get, option_map}
use Rattle.std.proofs.Math.ListN.{get_or}
use Rattle.std.proofs.Math.Seq.{take-suc}
use Rattle.std.proofs.lemmas.Grind.{common_steps}
use Rattle.std.proofs.lemmas.List.{map-append}
use Rattle.std.proofs.lemmas.Option.{slice_get-get_or}
use Rattle.dw_c_types.specs.Slots.{put_into}

pub puts_next : {X : Type 0} (xs slots : List X) (x : X) → slice_set (put_into xs slots) (length xs) x ≡ put_into (xs ++ x ∷ []) slots
puts_next [] [] x = refl
puts_next [] (s ∷ slots) x = refl
puts_next (y ∷ xs) [] x = refl
puts_next (y ∷ xs) (s ∷ slots) x = ap (λ l. y ∷ l) (puts_next xs slots x)

-- if the slots have the elements of xs, each converted by f, then writing f x to the next slot
-- gives the slots with xs and x, converted by f
pub puts_shown : {X Y : Type 0} (f : X → Y) (xs : List X) (slots : List Y) (count : ℕ) (x : X) → count ≡ length (map f xs)
    → slice_set (put_into (map f xs) slots) count (f x) ≡ put_into (map f (xs ++ x ∷ [])) slots
puts_shown f xs slots count x many =
    ap (λ n. slice_set (put_into (map f xs) slots) n (f x)) many ∙ puts_next (map f xs) slots (f x)
    ∙ ap (λ l. put_into l slots) (sym (map-append f xs (x ∷ [])))

-- if the slots have the first i elements of a list, each converted by f and then by g, then writing
-- the element at i, converted likewise, gives the slots with the first i + 1 elements
pub puts_at : {X Y Z : Type 0} (f : X → Y) (g : Y → Z) (xs : List X) (slots : List Z) (i : ℕ) (d : X) → i < length xs
    → slice_set (put_into (map g (map f (take i xs))) slots) i (g (f (get_or xs i d))) ≡ put_into (map g (map f (take (i + 1) xs))) slots
puts_at f g xs slots i d room =
    let many : i ≡ length (map g (map f (take i xs))) = grind (arith, common_steps) in
    let next : take (i + 1) xs ≡ take i xs ++ get_or xs i d ∷ [] = let e : i + 1 ≡ suc i = omega arith in rw e (take-suc xs i d room) in
    puts_shown g (map f (take i xs)) slots i (f (get_or xs i d)) many
    ∙ ap (λ l. put_into (map g l) slots) (sym (map-append f (take i xs) (get_or xs i d ∷ [])) ∙ ap (map f) (sym next))

-- if the slots have the first i elements of a list, then writing the element at i gives the slots
-- with the first i + 1 elements
pub puts_from : {X : Type 0} (xs slots : List X) (i : ℕ) (d : X) → i < length xs
    → slice_set (put_into (take i xs) slots) i (get_or xs i d) ≡ put_into (take (i + 1) xs) slots
puts_from xs slots i d room =
    let many : i ≡ length (take i xs) = grind (arith, common_steps) in
    let next : take (i + 1) xs ≡ take i xs ++ get_or xs i d ∷ [] = let e : i + 1 ≡ suc i = omega arith in rw e (take-suc xs i d room) in
    ap (λ n. slice_set (put_into (take i xs) slots) n (get_or xs i d)) many ∙ puts_next (take i xs) slots (get_or xs i d)
    ∙ ap (λ l. put_into l slots) (sym next)

-- Let `all` be the elements of `came`, each converted by `view`, followed by `left`, and let
-- `view x` be the first element of `left`. Then `all` is also the elements of `came` and x, each
-- converted by `view`, followed by the rest of `left`.
pub comes : {X Y : Type 0} (view : X → Y) (came : List X) (x : X) (left rest all : List Y) → map view came ++ left ≡ all
    → left ≡ view x ∷ rest → map view (came ++ x ∷ []) ++ rest ≡ all
comes view came x left rest all whole next =
    ap (λ l. l ++ rest) (map-append view came (x ∷ [])) ∙ append_assoc (map view came) (view x ∷ []) rest
    ∙ ap (λ l. map view came ++ l) (sym next) ∙ whole

pub one_more : {X Y : Type 0} (view : X → Y) (came : List X) (x : X) (count : ℕ) → count ≡ length (map view came)
    → count + 1 ≡ length (map view (came ++ x ∷ []))
one_more view came x count many =
    ap (λ n. n + 1) many ∙ sym (length-append (map view came) (view x ∷ [])) ∙ ap length (sym (map-append view came (x ∷ [])))

-- if the elements of xs fill the slots, then no element after them is written
pub puts_no_more : {X : Type 0} (xs ys slots : List X) → length slots ≤ length xs → put_into (xs ++ ys) slots ≡ put_into xs slots
puts_no_more [] [] slots few = refl
puts_no_more [] (y ∷ ys) [] few = refl
puts_no_more [] (y ∷ ys) (s ∷ slots) few = absurd (omega (arith, few))
puts_no_more (x ∷ xs) ys [] few = refl
puts_no_more (x ∷ xs) ys (s ∷ slots) few = ap (λ l. x ∷ l) (puts_no_more xs ys slots (omega (arith, few)))

-- if the slots have the first i elements of a list, each converted by f, then writing the element
-- at i, converted likewise, gives the slots with the first i + 1 elements
pub puts_found : {X Y : Type 0} (f : X → Y) (xs : List X) (slots : List Y) (i : ℕ) (x : X) → i < length xs → slice_get xs i ≡ Some x
    → slice_set (put_into (map f (take i xs)) slots) i (f x) ≡ put_into (map f (take (i + 1) xs)) slots
puts_found f xs slots i x room is =
    let many : i ≡ length (map f (take i xs)) = grind (arith, common_steps) in
    let here : Some (get_or xs i x) ≡ Some x = sym (slice_get-get_or xs i x room) ∙ is in
    let same : get_or xs i x ≡ x = cc in
    let next : take (i + 1) xs ≡ take i xs ++ x ∷ [] =
    let e : i + 1 ≡ suc i = omega arith in rw e (take-suc xs i x room ∙ ap (λ y. take i xs ++ y ∷ []) same) in
    puts_shown f (take i xs) slots i x many ∙ ap (λ l. put_into (map f l) slots) (sym next)

-- an option that is something once it is converted is something
pub is_something : {X Y : Type 0} (f : X → Y) (o : Option X) (y : Y) → option_map f o ≡ Some y → ((x : X) → o ≡ Some x → ⊥) → ⊥
is_something f None y is other = cc
is_something f (Some x) y is other = other x refl

pub puts-length : {X : Type 0} (xs slots : List X) → length (put_into xs slots) ≡ length slots
puts-length [] slots = refl
puts-length (x ∷ xs) [] = refl
puts-length (x ∷ xs) (s ∷ slots) = ap suc (puts-length xs slots)
