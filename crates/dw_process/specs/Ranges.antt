-- The range of a module: the given one, or the addresses from the first to the last one that the
-- FDEs of the module's section cover, or those of both its sections.
use Rattle.std.specs.Prelude.{◌≡◌, ◌⊎◌, ◌<◌, ◌≤◌, ◌^◌, ℕ, List, ◌++◌, Contains, Option, Some, None}
use Rattle.dw_bytes.specs.declared.target.Target.{Target}
use Rattle.dw_eval.specs.Numbers.{width_of}
use Rattle.dw_frame.specs.Records.{Fde}
use Rattle.dw_rows.specs.Section.{Covers, FrameSection}
use Rattle.dw_unwind.specs.Modules.{as_linked}
use Rattle.dw_process.specs.declared.address_range.AddressRange.{AddressRange}
use Rattle.dw_process.specs.ModuleMaps.{IsProper}

-- no FDE covers an address
abbrev pub CoversNone : List Fde → Type 0
CoversNone fdes = (f : Fde) (a : ℕ) → Contains fdes f → ¬ Covers f a

-- the range has each address that an FDE covers, and an FDE covers its first and its last address
pub record IsSpanOf (fdes : List Fde) (range : AddressRange) : Type 0 where
  pub all : (f : Fde) (a : ℕ) → Contains fdes f → Covers f a → (range.first ≤ a) × (a ≤ range.last)
  pub begins : (f : Fde) × Contains fdes f × Covers f range.first
  pub ends : (f : Fde) × Contains fdes f × Covers f range.last

-- The range begins and ends, as linked, with the first and the last address that an FDE covers. As
-- loaded these are addresses below 2^w.
pub record IsLoadedSpan (target : Target) (fdes : List Fde) (load_address : ℕ) (range : AddressRange) : Type 0 where
  pub linked : AddressRange
  pub span : IsSpanOf fdes linked
  pub first_fits : range.first < 2 ^ width_of target.address_size
  pub last_fits : range.last < 2 ^ width_of target.address_size
  pub first : as_linked target load_address range.first ≡ linked.first
  pub last : as_linked target load_address range.last ≡ linked.last

-- the range that is asked for: the given one, or if none is given, the one of the FDEs
abbrev pub IsAsked : Target → List Fde → ℕ → Option AddressRange → AddressRange → Type 0
IsAsked target fdes load_address (Some given) range = range ≡ given
IsAsked target fdes load_address None range = IsLoadedSpan target fdes load_address range

-- the range of a module with these FDEs that is loaded at `load_address`: it isn't empty, and its
-- addresses are below 2^w, w being the size of an address in bits
pub record IsRangeOver (target : Target) (fdes : List Fde) (load_address : ℕ) (given : Option AddressRange) (range : AddressRange) : Type 0 where
  pub asked : IsAsked target fdes load_address given range
  pub proper : IsProper range
  pub fits : range.last < 2 ^ width_of target.address_size

-- the range that is asked for is empty, goes past the greatest address, or would go on at address 0
abbrev pub IsImproper : Target → AddressRange → Type 0
IsImproper target range = (range.last < range.first) ⊎ (2 ^ width_of target.address_size ≤ range.last)

-- a module with these FDEs that is loaded at `load_address` has no range: no range is given and no
-- FDE covers an address, or the range that is asked for is improper
abbrev pub HasNoRangeOver : Target → List Fde → ℕ → Option AddressRange → Type 0
HasNoRangeOver target fdes load_address (Some given) = IsImproper target given
HasNoRangeOver target fdes load_address None =
    CoversNone fdes ⊎ ((range : AddressRange) × IsLoadedSpan target fdes load_address range × IsImproper target range)

-- ---- of one section, and of both

abbrev pub IsRangeFor : FrameSection → ℕ → Option AddressRange → AddressRange → Type 0
IsRangeFor frame load_address given range = IsRangeOver frame.target frame.fdes load_address given range

abbrev pub HasNoRange : FrameSection → ℕ → Option AddressRange → Type 0
HasNoRange frame load_address given = HasNoRangeOver frame.target frame.fdes load_address given

-- the FDEs of both sections of a module
abbrev pub both_fdes : FrameSection → FrameSection → List Fde
both_fdes debug_frame eh_frame = debug_frame.fdes ++ eh_frame.fdes

abbrev pub IsRangeForBoth : FrameSection → FrameSection → ℕ → Option AddressRange → AddressRange → Type 0
IsRangeForBoth debug_frame eh_frame load_address given range =
    IsRangeOver debug_frame.target (both_fdes debug_frame eh_frame) load_address given range

abbrev pub HaveNoRange : FrameSection → FrameSection → ℕ → Option AddressRange → Type 0
HaveNoRange debug_frame eh_frame load_address given =
    HasNoRangeOver debug_frame.target (both_fdes debug_frame eh_frame) load_address given
