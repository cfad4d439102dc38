-- What a location list gives at an address (DWARF 5, section 2.6.2).
use Rattle.std.specs.Prelude.{ℕ, ◌+◌, ◌&&◌, nat_le, nat_lt, Bool, false, if◌then◌else◌, List, [], ◌∷◌, ◌++◌, map, filter_map, flat_map}
use Rattle.dw_bytes.specs.Operands.{Block}
use Rattle.dw_stack.specs.declared.state.Kind.TheVariants.{Location}
use Rattle.dw_stack.specs.Located.{LocatedExpression, located_as}
use Rattle.dw_loclists.specs.Entries.{Entry, end_of_list, offset_pair, default_location, base_address, start_end, start_length}
use Rattle.dw_loclists.specs.Entries.{expression_in, is_default}
use Rattle.dw_loclists.specs.Lists.{Loclist}

-- the expression in a block, with its offset; in a location list it is always a location
-- description
abbrev pub location_of : Block → LocatedExpression
location_of e = located_as Location e

-- the expressions of these entries, in order; entries without an expression are left out
abbrev pub expressions_of : List Entry → List LocatedExpression
expressions_of entries = map location_of (filter_map expression_in entries)

-- the expressions of all entries of these lists, in order
abbrev pub expressions_in : List Loclist → List LocatedExpression
expressions_in lists = flat_map (λ (l : Loclist). expressions_of l.entries) lists

-- ---- the entries that hold at an address

-- the base address after these entries: what the last base_address among them sets, or the base
-- before the entries if none of them is a base_address
abbrev pub base_after : ℕ → List Entry → ℕ
base_after base [] = base
base_after base (base_address other ∷ entries) = base_after other entries
base_after base (_ ∷ entries) = base_after base entries

-- whether the address is at least `begin` and less than `end`
abbrev pub is_between : ℕ → ℕ → ℕ → Bool
is_between begin end address = nat_le begin address && nat_lt address end

-- Whether an entry has a range that contains the address. Only an offset_pair counts from the base,
-- and no sum wraps (this checker's own rule).
abbrev pub holds : ℕ → ℕ → Entry → Bool
holds base address end_of_list = false
holds base address (offset_pair begin end e) = is_between (base + begin) (base + end) address
holds base address (default_location e) = false
holds base address (base_address other) = false
holds base address (start_end begin end e) = is_between begin end address
holds base address (start_length begin count e) = is_between begin (begin + count) address

-- the expression of an entry whose range contains the address, else nothing
abbrev pub held_by : ℕ → ℕ → Entry → List LocatedExpression
held_by base address entry = if holds base address entry then expressions_of (entry ∷ []) else []

-- the expressions of all entries whose range contains the address, in order; `base` is the base
-- address before the first of these entries
abbrev pub bounded_at : ℕ → ℕ → List Entry → List LocatedExpression
bounded_at base address [] = []
bounded_at base address (entry ∷ entries) = held_by base address entry ++ bounded_at (base_after base (entry ∷ [])) address entries

-- the expression of an entry that is a default, else nothing
abbrev pub default_of : Entry → List LocatedExpression
default_of entry = if is_default entry then expressions_of (entry ∷ []) else []

abbrev pub defaults_in : List Entry → List LocatedExpression
defaults_in entries = flat_map default_of entries

-- the first list, or the second if the first is empty
abbrev pub or_else_all : {X : Type 0} → List X → List X → List X
or_else_all [] others = others
or_else_all (x ∷ xs) others = x ∷ xs

-- The expressions of a location list that hold at an address, in order: the expressions of all
-- entries whose range contains the address. If no entry's range does, the expression of the
-- default_location, if the list has one. `base` is the unit's base address.
abbrev pub locations_of : Loclist → ℕ → ℕ → List LocatedExpression
locations_of l base address = or_else_all (bounded_at base address l.entries) (defaults_in l.entries)
