-- What is known while the records of a section are counted: their programs are checked, and of an FDE
-- only its addresses are kept.
use Rattle.std.specs.Prelude.{◌≡◌, ◌+◌, ℕ, Bool, ◌&&◌, nat_le, nat_lt, if◌then◌else◌, List, Contains, Some, None, IfSome, length, map, sum_by}
use Rattle.std.specs.List.{flat_map}
use Rattle.dw_bytes.specs.declared.target.Target.{Target}
use Rattle.dw_frame.specs.Records.{Cie, Fde}
use Rattle.dw_frame.specs.Views.{cie_of}
use Rattle.dw_rules.specs.Expressions.{cie_expressions, fde_expressions}
use Rattle.dw_rules.specs.Initial.{AreLeftBy}
use Rattle.dw_rules.specs.ProgramFault.{cie_fault, fde_fault}
use Rattle.dw_rules.specs.ProgramState.{ProgramState}
use Rattle.dw_rows.specs.AddressIndex.{IsLeftAt}
use Rattle.dw_rows.specs.Section.{cie_at, covers, placed_rows}
use Rattle.dw_eh_frame.specs.declared.pointer.Bases.{Bases}
use Rattle.dw_eh_frame.specs.Progress.{IsUnderWay}
use Rattle.dw_eh_rows.specs.declared.counts.SectionCounts.{SectionCounts}
use Rattle.dw_eh_rows.specs.declared.short_range.ShortRange.{ShortRange}
use Rattle.dw_eh_rows.specs.declared.tally.Tally.{Tally}

-- ---- how many times an address is covered

abbrev pub one_if : Bool → ℕ
one_if b = if b then 1 else 0

-- whether a range whose addresses are above a base covers the address a
abbrev pub range_covers : ℕ → ℕ → ShortRange → Bool
range_covers base a r = nat_le (base + r.start) a && nat_lt a (base + r.start + r.count)

-- how many of the ranges cover the address a, and how many of the FDEs do
abbrev pub times_in : ℕ → ℕ → List ShortRange → ℕ
times_in base a ranges = sum_by (λ r. one_if (range_covers base a r)) ranges

abbrev pub times_among : ℕ → List Fde → ℕ
times_among a fdes = sum_by (λ f. one_if (covers a f)) fdes

-- ---- CIEs and FDEs without fault

-- the CIE to which an FDE points is among these, and the FDE's program has no fault with it
pub record HasGoodCie (cies : List Cie) (f : Fde) : Type 0 where
  pub cie : Cie
  pub at : cie_at cies f.cie_pointer ≡ Some cie
  pub good : fde_fault cie f ≡ None

-- The CIEs and the FDEs have no fault, unless FDEs share addresses. The tally has the CIEs, the rules
-- that their programs leave, the addresses of the FDEs, and how much there is of all.
pub record IsTally (cies : List Cie) (fdes : List Fde) (t : Tally) : Type 0 where
  pub cies_are : map cie_of t.cies.items ≡ cies
  pub left : AreLeftBy cies t.initial
  pub cie_programs : (c : Cie) → Contains cies c → cie_fault c ≡ None
  pub fde_programs : (f : Fde) → Contains fdes f → HasGoodCie cies f
  pub covered : (a : ℕ) → times_in t.base a t.ranges.items ≡ times_among a fdes
  pub fde_count : t.fdes ≡ length fdes
  pub row_count : t.rows ≡ length (flat_map (placed_rows cies) fdes)
  pub expression_count : t.expressions ≡ length (cie_expressions cies) + length (fde_expressions fdes)

-- the context has the rules of the CIE at the tally's place
abbrev pub IsReady : Tally → ProgramState → Type 0
IsReady t context = IfSome t.place (λ place. IsLeftAt (map cie_of t.cies.items) place context.initial_rules)

-- how much was counted
abbrev pub counts_in : Tally → SectionCounts
counts_in t = record { cies = length t.cies.items; fdes = t.fdes; rows = t.rows; expressions = t.expressions }

-- ---- a section, so far

-- The records before the offset `at` were read without a fault, and are counted.
pub record IsCounted (a : Bool) (bases : Bases) (target : Target) (section : List ℕ) (at : ℕ) (t : Tally) (context : ProgramState)
    : Type 0 where
  pub fdes : List Fde
  pub way : IsUnderWay a bases target section at (map cie_of t.cies.items) fdes
  pub tally : IsTally (map cie_of t.cies.items) fdes t
  pub ready : IsReady t context
