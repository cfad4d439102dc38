-- Ranges of addresses in order, and the addresses that they have.
use Rattle.std.specs.Prelude.{ℕ, ◌≤◌, ◌<◌, ◌&&◌, nat_le, nat_lt, Bool, List, [], ◌∷◌}
use Rattle.std.specs.List.{list_any}
use Rattle.dw_signed_rows.specs.declared.signed_range.SignedRange.{SignedRange}

-- whether the range has the address
abbrev pub has_address : ℕ → SignedRange → Bool
has_address a range = nat_le range.start a && nat_lt a range.end

-- whether one of the ranges has the address
abbrev pub has_signed : List SignedRange → ℕ → Bool
has_signed ranges a = list_any (has_address a) ranges

-- No range is empty. The first begins at `low` or above it, and each other one at the end of the range
-- before it, or above that.
abbrev pub AreInOrder : ℕ → List SignedRange → Type 0
AreInOrder low [] = Unit {0}
AreInOrder low (range ∷ ranges) = (low ≤ range.start) × (range.start < range.end) × AreInOrder range.end ranges

-- the end of the last range, or `low` if there is none
abbrev pub ends_at : ℕ → List SignedRange → ℕ
ends_at low [] = low
ends_at low (range ∷ ranges) = ends_at range.end ranges
