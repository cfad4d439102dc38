-- How the code goes through a list to find the expressions that hold at an address. No contract of
-- a public call uses these definitions.
use Rattle.std.specs.Prelude.{◌≡◌, ℕ, Bool, false, Contains, List, [], ◌∷◌, ◌++◌, if◌then◌else◌, is_some, Option, Some, None, Result, Ok}
use Rattle.std.specs.Prelude.{Err, IsOk}
use Rattle.dw_bytes.specs.declared.block.Block as declared
use Rattle.dw_bytes.specs.declared.fault.Fault.{Fault}
use Rattle.dw_bytes.specs.Operands.{block_of}
use Rattle.dw_bytes.specs.Reading.{ReadPosition}
use Rattle.dw_loclists.specs.declared.walk.ListWalk.{ListWalk}
use Rattle.dw_loclists.specs.declared.stored_lists.StoredExpression.{StoredExpression}
use Rattle.dw_loclists.specs.Bounds.{Ascends}
use Rattle.dw_loclists.specs.Entries.{Entry}
use Rattle.dw_loclists.specs.Locations.{location_of, bounded_at, defaults_in, or_else_all}
use Rattle.dw_loclists.specs.Stored.{IsAmong}
use Rattle.dw_stack.specs.Located.{LocatedExpression}
use Rattle.dw_loclists.specs.Reading.{entries_at}
use Rattle.dw_loclists.specs.Views.{offset_of}

-- the expression of the default_location that was already read; empty if none was
abbrev pub default_located : Option declared.Block → List LocatedExpression
default_located None = []
default_located (Some b) = location_of (block_of b) ∷ []

-- the entries that a read returned; empty if the read failed
abbrev pub entries_in : Result (List Entry × ReadPosition) Fault → List Entry
entries_in (Ok found) = found.0
entries_in (Err fault) = []

-- what reading the rest of a walk's list returns, from the walk's cursor on
abbrev pub left_of : ListWalk → Result (List Entry × ReadPosition) Fault
left_of w = entries_at (is_some w.default) w.cursor

-- the rest of the walk's list can be read without a fault up to its end
abbrev pub IsReadable : ListWalk → Type 0
IsReadable w = IsOk (left_of w)

-- the expressions of the entries in the rest of the list whose range contains the address
abbrev pub held_ahead : ℕ → ListWalk → List LocatedExpression
held_ahead address w = bounded_at w.base address (entries_in (left_of w))

-- the expression of the list's default_location, whether it was already read or is in the rest of
-- the list; empty if there is none
abbrev pub default_ahead : ListWalk → List LocatedExpression
default_ahead w = default_located w.default ++ defaults_in (entries_in (left_of w))

-- the expressions that the walk will still return; `found` tells whether it already returned one,
-- in which case the default_location doesn't hold
abbrev pub still_to_come : Bool → ℕ → ListWalk → List LocatedExpression
still_to_come found address w = if found then held_ahead address w else or_else_all (held_ahead address w) (default_ahead w)

-- A walk over a list: unless the walk has ended, the rest of its list can be read up to the end,
-- and all expressions that the walk can still return are stored. The stored expressions are in
-- ascending order of their offsets.
pub record IsWalk (ended : Bool) (address : ℕ) (w : ListWalk) (kept : List StoredExpression) : Type 0 where
  pub readable : ended ≡ false → IsReadable w
  pub order : Ascends offset_of kept
  pub among : ended ≡ false → (x : LocatedExpression) → Contains (held_ahead address w ++ default_ahead w) x → IsAmong kept x
