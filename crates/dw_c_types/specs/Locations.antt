-- What C gets from a look-up in a location list.
use Rattle.std.specs.Prelude.{◌≡◌, ℕ, List, length, map, min, Option, Some, None, Contains, Err}
use Rattle.dw_bytes.specs.declared.fault.Fault.{Fault}
use Rattle.dw_bytes.specs.declared.target.Target.{Target}
use Rattle.dw_bytes.specs.Reading.{section_from}
use Rattle.dw_loclists.specs.Lists.{Loclist, starts_of}
use Rattle.dw_loclists.specs.Locations.{locations_of}
use Rattle.dw_loclists.specs.Reading.{IsListAt, ListSection, list_at, lists_in}
use Rattle.dw_stack.specs.Located.{LocatedExpression}
use Rattle.dw_c_types.specs.Slots.{put_into}
use Rattle.dw_c_types.specs.declared.location.CLocation.{CLocation}

abbrev pub clocation_of : LocatedExpression → CLocation
clocation_of e = record { offset = e.offset; length = length e.bytes }

-- A list begins at `offset`. Its expressions that apply at `address` are written to the front of
-- the slots, as many as fit, and `count` is the number of expressions written.
pub record AreLocated (s : ListSection) (offset base address : ℕ) (old new : List CLocation) (count : ℕ) : Type 0 where
  pub begins : Contains (starts_of (lists_in s)) offset
  pub locations : (list : Loclist) → Contains (lists_in s) list → list.offset ≡ offset
      → new ≡ put_into (map clocation_of (locations_of list base address)) old
  pub many : (list : Loclist) → Contains (lists_in s) list → list.offset ≡ offset
      → count ≡ min (length (locations_of list base address)) (length old)

-- no list begins at the offset
pub record HasNoList (s : ListSection) (offset : ℕ) : Type 0 where
  pub none : ¬ Contains (starts_of (lists_in s)) offset

abbrev pub HasLocations : ListSection → ℕ → ℕ → ℕ → List CLocation → List CLocation → Option ℕ → Type 0
HasLocations s offset base address old new (Some count) = AreLocated s offset base address old new count
HasLocations s offset base address old new None = HasNoList s offset × (new ≡ old)

-- ---- one list by itself

-- The bytes at the offset are a list (`IsListAt`). Its expressions that apply at `address` are
-- written as `AreLocated` says.
pub record AreLocatedAlone (target : Target) (section : List ℕ) (offset base address : ℕ) (old new : List CLocation) (count : ℕ)
    : Type 0 where
  pub list : Loclist
  pub is : IsListAt target section offset list
  pub locations : new ≡ put_into (map clocation_of (locations_of list base address)) old
  pub many : count ≡ min (length (locations_of list base address)) (length old)

-- the bytes at the offset are no list, and this is the first fault in reading one
abbrev pub IsNoListAt : Target → List ℕ → ℕ → Fault → Type 0
IsNoListAt target section offset fault = list_at (section_from target section offset) ≡ Err fault
