-- Where the first FDE is that begins at each address: some are in a list, others in a tree.
use Rattle.std.specs.Prelude.{ℕ, ◌==◌, if◌then◌else◌, List, [], ◌∷◌, Option, Some, None}
use Rattle.std.specs.Option.{option_or}
use Rattle.std.specs.BTreeMap.{is_at}
use Rattle.std.specs.Map.{lookup}
use Rattle.std.specs.Ordering.{nat_cmp}
use Rattle.dw_eh_frame.specs.declared.first_fdes.FdePlace.{FdePlace}

abbrev pub place_address : FdePlace → ℕ
place_address p = p.address

-- the index in the first place with the address a
abbrev pub listed : List FdePlace → ℕ → Option ℕ
listed [] a = None
listed (p ∷ places) a = if p.address == a then Some p.index else listed places a

pub record Firsts : Type 0 where
  pub places : List FdePlace
  pub others : List (ℕ × ℕ)

abbrev pub first_in : Firsts → ℕ → Option ℕ
first_in firsts a = option_or (listed firsts.places a) (lookup (is_at (nat_cmp a)) firsts.others)

-- the first FDE at the address a, where one more FDE begins at an address
abbrev pub added : Option ℕ → ℕ → ℕ → ℕ → Option ℕ
added (Some i) address index a = Some i
added None address index a = if address == a then Some index else None
