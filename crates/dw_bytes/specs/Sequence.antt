-- Things that are encoded one after another, such as the records of a section or the instructions
-- of a program.
use Rattle.std.specs.Prelude.{◌≡◌, ◌+◌, ℕ, zero, suc, List, [], ◌∷◌, ◌++◌, length, nat_lt, if◌then◌else◌, Result, Ok, Err}
use Rattle.dw_bytes.specs.declared.fault.Fault.{Fault}
use Rattle.dw_bytes.specs.Reading.{ReadPosition, ◌>>=◌}

-- The bytes are the encodings of the things, without gaps. The first encoding begins at offset
-- `at`. How a thing is encoded may depend on its offset.
abbrev pub Sequence : {X : Type 0} → (ℕ → List ℕ → X → Type 0) → ℕ → List ℕ → List X → Type 0
Sequence IsEncoding at bytes [] = bytes ≡ []
Sequence IsEncoding at bytes (x ∷ xs) = (first rest : List ℕ) × (bytes ≡ first ++ rest) × IsEncoding at first x
    × Sequence IsEncoding (at + length first) rest xs

-- which bytes encode a pair of an offset and a thing: the bytes encode the thing, and the offset is
-- where they begin
abbrev pub Located : {X : Type 0} → (ℕ → List ℕ → X → Type 0) → ℕ → List ℕ → ℕ × X → Type 0
Located IsEncoding at bytes item = (item.0 ≡ at) × IsEncoding at bytes item.1

abbrev pub located_read : {X : Type 0} → (ReadPosition → Result (X × ReadPosition) Fault) → ReadPosition
    → Result ((ℕ × X) × ReadPosition) Fault
located_read read r = read r >>= λ x. Ok ((r.position, x.0), x.1)

-- the value that was read, followed by what is read after it; or the fault alone
abbrev pub and_then : {X : Type 0} → Result (X × ReadPosition) Fault → (ReadPosition → List (Result X Fault)) → List (Result X Fault)
and_then (Ok found) others = Ok found.0 ∷ others found.1
and_then (Err fault) others = Err fault ∷ []

-- reads at most `count` things, up to the end of the bytes or the first fault
abbrev pub at_most_of : {X : Type 0} → (ReadPosition → Result (X × ReadPosition) Fault) → ℕ → ReadPosition → List (Result X Fault)
at_most_of read zero r = []
at_most_of read (suc count) r = if nat_lt 0 (length r.rest) then and_then (read r) (at_most_of read count) else []

-- Reads things from left to right, up to the end of the bytes or the first fault, which is then the
-- last item. At most as many things are read as there are bytes.
unfoldable pub sequence_of : {X : Type 0} → (ReadPosition → Result (X × ReadPosition) Fault) → ReadPosition → List (Result X Fault)
sequence_of read r = at_most_of read (length r.rest) r

-- A given number of things, as in an array. `Exactly` says which bytes encode the things, and
-- `exactly_of` reads them.
abbrev pub Exactly : {X : Type 0} → (ℕ → List ℕ → X → Type 0) → ℕ → ℕ → List ℕ → List X → Type 0
Exactly IsEncoding count at bytes xs = Sequence IsEncoding at bytes xs × (length xs ≡ count)

abbrev pub exactly_of : {X : Type 0} → (ReadPosition → Result (X × ReadPosition) Fault) → ℕ → ReadPosition
    → Result (List X × ReadPosition) Fault
exactly_of read zero r = Ok ([], r)
exactly_of read (suc count) r = read r >>= λ x. exactly_of read count x.1 >>= λ xs. Ok (x.0 ∷ xs.0, xs.1)
