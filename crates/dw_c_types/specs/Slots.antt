-- How elements are written to slots, which are the elements of an array that C passes.
use Rattle.std.specs.Prelude.{List, [], ◌∷◌}

-- the slots after elements are written to the front, as many as fit; the other slots are unchanged
abbrev pub put_into : {X : Type 0} → List X → List X → List X
put_into [] slots = slots
put_into (x ∷ xs) [] = []
put_into (x ∷ xs) (slot ∷ slots) = x ∷ put_into xs slots
