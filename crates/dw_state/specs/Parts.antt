-- Splitting bytes at separators: lines at LFs, words at spaces.
use Rattle.std.specs.Prelude.{ℕ, ◌==◌, if◌then◌else◌, List, [], ◌∷◌, Option, Some, None}

-- `parts`, with the byte b put in front of the first part; if there are no parts, the single part
-- of the byte b
abbrev pub joined_on : ℕ → List (List ℕ) → List (List ℕ)
joined_on b [] = (b ∷ []) ∷ []
joined_on b (part ∷ parts) = (b ∷ part) ∷ parts

-- the parts of some bytes between separators, including empty parts
abbrev pub parts_of : ℕ → List ℕ → List (List ℕ)
parts_of separator [] = [] ∷ []
parts_of separator (b ∷ bytes) = if b == separator then [] ∷ parts_of separator bytes else joined_on b (parts_of separator bytes)

-- the parts that a `Parts` iterator has not given yet, by the bytes that it has left to split; None
-- instead of bytes means that it has given all parts
abbrev pub parts_left : ℕ → Option (List ℕ) → List (List ℕ)
parts_left separator None = []
parts_left separator (Some bytes) = parts_of separator bytes
