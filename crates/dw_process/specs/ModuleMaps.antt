-- The modules of a process in order of address: each has a range of addresses, no address is in the
-- ranges of two modules, and the module of an address is the one whose range contains it.
use Rattle.std.specs.Prelude.{◌≡◌, ◌<◌, ◌≤◌, ◌+◌, ◌*◌, ◌&&◌, ℕ, Bool, List, All, AllPairs, Contains, Option, find, length, slice_index_or, nat_le}
use Rattle.dw_process.specs.declared.address_range.AddressRange.{AddressRange}
use Rattle.dw_process.specs.declared.loaded_module.LoadedModule.{LoadedModule}

-- ---- ranges

-- the range contains an address
abbrev pub IsProper : AddressRange → Type 0
IsProper range = range.first ≤ range.last

-- the address is in the range
abbrev pub is_in : AddressRange → ℕ → Bool
is_in range address = nat_le range.first address && nat_le address range.last

-- the range r ends before the range s begins
abbrev pub IsBelow : AddressRange → AddressRange → Type 0
IsBelow r s = r.last < s.first

-- ---- modules

abbrev pub first_of : LoadedModule → ℕ
first_of m = m.range.first

-- No range is empty, and each module's range ends before the range of each later module begins. So
-- no address is in two ranges.
pub record AreInOrder (modules : List LoadedModule) : Type 0 where
  pub proper : All (λ m. IsProper m.range) modules
  pub order : AllPairs (λ m n. IsBelow m.range n.range) modules

-- the module whose range contains the address; none if there is no such module
abbrev pub module_at : List LoadedModule → ℕ → Option LoadedModule
module_at modules address = find (λ m. is_in m.range address) modules

-- ---- where a module is inserted

-- A module with this range may be inserted at index `place`: the modules before that end below the
-- range, and the others begin above it.
pub record IsPlaceFor (range : AddressRange) (modules : List LoadedModule) (place : ℕ) : Type 0 where
  pub bound : place ≤ length modules
  pub below : (k : ℕ) (d : LoadedModule) → k < place → IsBelow (slice_index_or modules k d).range range
  pub above : (k : ℕ) (d : LoadedModule) → place ≤ k → k < length modules → IsBelow range (slice_index_or modules k d).range

-- no module has an address of the range: it may be inserted at some index
abbrev pub IsFree : AddressRange → List LoadedModule → Type 0
IsFree range modules = (place : ℕ) × IsPlaceFor range modules place

-- the two ranges have an address in common
abbrev pub Overlaps : AddressRange → AddressRange → Type 0
Overlaps r s = (r.first ≤ s.last) × (s.first ≤ r.last)

-- the range shares an address with the range of the module that has this id
abbrev pub IsTaken : AddressRange → List LoadedModule → ℕ → Type 0
IsTaken range modules id = (m : LoadedModule) × Contains modules m × (m.id ≡ id) × Overlaps m.range range

-- ---- the search

-- exactly `count` starts are at or below the address `a`
pub record IsStartCount (starts : List ℕ) (a count : ℕ) : Type 0 where
  pub bound : count ≤ length starts
  pub below : (k d : ℕ) → k < count → slice_index_or starts k d ≤ a
  pub above : (k d : ℕ) → count ≤ k → k < length starts → a < slice_index_or starts k d

-- one step of the search
pub record IsStride (starts : List ℕ) (low quarter a stride : ℕ) : Type 0 where
  pub bound : stride ≤ 3 * quarter
  pub below : 0 < stride → slice_index_or starts (low + stride) 0 ≤ a
  pub above : stride < 3 * quarter → a < slice_index_or starts (low + stride + quarter) 0
