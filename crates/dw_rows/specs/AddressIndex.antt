-- FDEs in order of offset and in order of address: which share addresses, and the index by address.
use Rattle.std.specs.Prelude.{◌≡◌, ℕ, ◌+◌, ◌*◌, ◌<◌, ◌≤◌, List, [], length, map, All, Contains, IfSome, slice_get, slice_index_or}
use Rattle.dw_bytes.specs.declared.target.Format.TheVariants.{Dwarf32}
use Rattle.dw_bytes.specs.declared.target.Order.TheVariants.{Little}
use Rattle.dw_bytes.specs.declared.target.AddressSize.TheVariants.{Four}
use Rattle.dw_rows.specs.declared.index.IndexEntry.{IndexEntry}
use Rattle.std.specs.List.Sorted.{IsNonDecreasingBy}
use Rattle.dw_frame.specs.Dialects.{debug_frame}
use Rattle.dw_frame.specs.Records.{Cie, Fde}
use Rattle.dw_rows.specs.Section.{SharesAddress}
use Rattle.dw_rules.specs.RuleSet.{StoredRules}
use Rattle.dw_rules.specs.ProgramState.{IsLeftBy}

abbrev pub fde_offset : Fde → ℕ
fde_offset f = f.offset

abbrev pub cie_offset : Cie → ℕ
cie_offset c = c.offset

abbrev pub initial_of : Fde → ℕ
initial_of f = f.initial_location

-- x is the first element, in ascending order of `at`, for which `Fails` holds. For all elements
-- before it `Passes` holds.
pub record IsFirst {X : Type 0} (at : X → ℕ) (Passes Fails : X → Type 0) (xs : List X) (x : X) : Type 0 where
  pub among : Contains xs x
  pub fails : Fails x
  pub before : (y : X) → Contains xs y → at y < at x → Passes y

-- no FDE before g in the section shares an address with g
abbrev pub IsApart : List Fde → Fde → Type 0
IsApart fdes g = (f : Fde) → Contains fdes f → f.offset < g.offset → ¬ SharesAddress f g

abbrev pub Overlaps : List Fde → Fde → Type 0
Overlaps fdes g = (f : Fde) × Contains fdes f × (f.offset < g.offset) × SharesAddress f g

abbrev pub AreApart : List Fde → Type 0
AreApart fdes = (f : Fde) → Contains fdes f → IsApart fdes f

abbrev pub IsFirstOverlap : List Fde → Fde → Type 0
IsFirstOverlap fdes g = IsFirst fde_offset (IsApart fdes) (Overlaps fdes) fdes g

-- `ClashWithin`: two FDEs with offsets up to and including `last` share an address. `ApartWithin`
-- is the opposite: no two such FDEs share an address.
pub record ClashWithin (fdes : List Fde) (last : ℕ) : Type 0 where
  pub f : Fde
  pub g : Fde
  pub f_in : Contains fdes f
  pub g_in : Contains fdes g
  pub order : f.offset < g.offset
  pub within : g.offset ≤ last
  pub shared : SharesAddress f g

abbrev pub ApartWithin : List Fde → ℕ → Type 0
ApartWithin fdes last = (f g : Fde) → Contains fdes f → Contains fdes g → f.offset < g.offset → g.offset ≤ last → ¬ SharesAddress f g

-- the FDEs are in order of address, each covers at least one address, and none occurs twice
pub record IsOrdered (index : List Fde) : Type 0 where
  pub some : (f : Fde) → Contains index f → 0 < f.address_range
  pub distinct : (i j : ℕ) (d : Fde) → i < length index → j < length index
      → (slice_index_or index i d).offset ≡ (slice_index_or index j d).offset → i ≡ j
  pub sorted : IsNonDecreasingBy initial_of index

-- `index` has each FDE that covers at least one address, and no other FDE, in order of address
pub record IsIndexOf (fdes index : List Fde) : Type 0 where
  pub from : (f : Fde) → Contains index f → Contains fdes f
  pub to : (f : Fde) → Contains fdes f → 0 < f.address_range → Contains index f
  pub ordered : IsOrdered index

-- ---- the index as it is stored: where each FDE begins, and its index among all FDEs

-- A placeholder for the FDE at an index past the end. No index entry refers to such an index. The
-- placeholder covers no address.
abbrev pub no_fde : Fde
no_fde = record {
  offset = 0;
  format = Dwarf32;
  cie_pointer = 0;
  cie_pointer_offset = 0;
  initial_location = 0;
  address_range = 0;
  program = record { dialect = debug_frame; target = record { order = Little; address_size = Four }; position = 0; rest = [] };
}

-- the FDE that an index entry refers to
abbrev pub fde_at : List Fde → IndexEntry → Fde
fde_at fdes e = slice_index_or fdes e.place no_fde

pub record IsEntry (fdes : List Fde) (e : IndexEntry) : Type 0 where
  pub within : e.place < length fdes
  pub start : e.start ≡ (fde_at fdes e).initial_location

-- the entries refer to each FDE that covers at least one address, and to no other FDE, in order of
-- address
pub record IsAddressIndex (fdes : List Fde) (entries : List IndexEntry) : Type 0 where
  pub each : All (IsEntry fdes) entries
  pub index_of : IsIndexOf fdes (map (fde_at fdes) entries)

-- `low` and `stride` are counted in entries. The entry at index `low + stride` begins at or below
-- the address `a`, unless `stride` is 0. The entry at index `low + stride + quarter` begins above
-- `a`, unless `stride` is three times `quarter`.
pub record IsStride (entries : List IndexEntry) (low quarter a stride : ℕ) : Type 0 where
  pub bound : stride ≤ 3 * quarter
  pub below : (d : IndexEntry) → 0 < stride → (slice_index_or entries (low + stride) d).start ≤ a
  pub above : (d : IndexEntry) → stride < 3 * quarter → a < (slice_index_or entries (low + stride + quarter) d).start

-- exactly the first `count` entries begin at or below the address `a`
pub record IsCountUpTo (entries : List IndexEntry) (a count : ℕ) : Type 0 where
  pub bound : count ≤ length entries
  pub below : (k : ℕ) (d : IndexEntry) → k < count → (slice_index_or entries k d).start ≤ a
  pub above : (k : ℕ) (d : IndexEntry) → count ≤ k → k < length entries → a < (slice_index_or entries k d).start

-- the rules are those that the program of the CIE at this index leaves
abbrev pub IsLeftAt : List Cie → ℕ → StoredRules → Type 0
IsLeftAt cies place k = IfSome (slice_get cies place) (λ c. IsLeftBy c k)
