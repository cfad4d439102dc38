-- How many bytes at the front of a file determine the reply to a request.
use Rattle.std.specs.Prelude.{ℕ, zero, suc, ◌^◌, ◌||◌, ◌==◌, Bool, false, if◌then◌else◌, List, [], ◌∷◌, take, Option, Some, None}
use Rattle.dw_requests.specs.declared.requests.Task.{Task}
use Rattle.dw_requests.specs.declared.requests.Task.TheVariants.{Check}

-- whether the file at an index, if there is one, is a state file; files from index 2 on are
-- sections of further modules
abbrev pub is_state : Task → ℕ → Bool
is_state task zero = false
is_state Check (suc n) = false
is_state other (suc n) = n == 0

-- How many bytes at the front of the file at index `place` determine the reply. The number is 2^32
-- for a section or an expression, which is refused as too long if it has that many bytes. It is
-- None for hex text and for a state file, all of whose bytes matter.
abbrev pub needed_length : Task → Bool → ℕ → Option ℕ
needed_length task hex place = if hex || is_state task place then None else Some (2 ^ 32)

-- the first n bytes of a file; the whole file if no n is given
abbrev pub part_up_to : Option ℕ → List ℕ → List ℕ
part_up_to None file = file
part_up_to (Some n) file = take n file

-- the part of each file that determines the reply; the first file has index `place`
unfoldable pub needed_parts : Task → Bool → ℕ → List (List ℕ) → List (List ℕ)
needed_parts task hex place [] = []
needed_parts task hex place (file ∷ files) = part_up_to (needed_length task hex place) file ∷ needed_parts task hex (suc place) files
