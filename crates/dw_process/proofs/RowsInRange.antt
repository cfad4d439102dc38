-- A module with the range of the FDEs of its section, or of both, has rows only in its range.
use Rattle.std.proofs.Common.{◌≡◌, ℕ, ◌^◌, ◌<◌, List, ◌++◌, true, Option, Some, None, sym, subst, ap, arith}
use Rattle.std.specs.Prelude.{Contains, IfSome}
use Rattle.std.specs.Option.{option_or}
use Rattle.std.proofs.lemmas.List.Elements.{Contains-append_left, Contains-append_right}
use Rattle.dw_bytes.specs.declared.target.Target.{Target}
use Rattle.dw_eval.specs.Numbers.{width_of}
use Rattle.dw_frame.specs.Records.{Fde}
use Rattle.dw_rules.specs.Rules.{Row}
use Rattle.dw_rows.specs.Section.{FrameSection}
use Rattle.dw_tables.specs.UnwindTables.{IsTableOf, RowTable, row_at}
use Rattle.dw_rows.specs.RowLookups.{IsFoundAt}
use Rattle.dw_unwind.specs.Modules.{as_linked}
use Rattle.dw_process.specs.BothSections.{AreTablesOf}
use Rattle.dw_process.specs.FirstRows.{HasRowInRange}
use Rattle.dw_process.specs.ModuleMaps.{is_in}
use Rattle.dw_process.specs.Processes.{fallback_row}
use Rattle.dw_process.specs.Ranges.{IsRangeFor, IsRangeForBoth, IsRangeOver}
use Rattle.dw_process.specs.declared.loaded_module.LoadedModule.{LoadedModule}
use Rattle.dw_process.proofs.Linking.{in_loaded}
use Rattle.dw_process.proofs.Placing.{is_inside}

module _ (target : Target) (fdes : List Fde) (m : LoadedModule) (a : ℕ) (range : IsRangeOver target fdes m.load_address None m.range)
    (fits : a < 2 ^ width_of target.address_size) where
  by_found : (frame : FrameSection) → ((f : Fde) → Contains frame.fdes f → Contains fdes f) → (o : Option (Row × ℕ))
      → IsFoundAt frame (as_linked target m.load_address a) o → IfSome o (λ found. is_in m.range a ≡ true)
  by_found frame among None found = tt
  by_found frame among (Some row) found =
      let bounds = range.asked.span.all found.1.0 (as_linked target m.load_address a) (among found.1.0 found.1.2.0) found.1.2.1 in
      let low = range.asked.first in
      let high = range.asked.last in
      let inside = in_loaded target m.load_address m.range.first m.range.last a range.proper range.fits fits
      (omega (arith, bounds, low)) (omega (arith, bounds, high)) in
      is_inside m.range a inside.0 inside.1

either : (P : Type 0) (o p : Option (Row × ℕ)) → IfSome o (λ found. P) → IfSome p (λ found. P) → IfSome (option_or o p) (λ found. P)
either P None p first second = second
either P (Some x) p first second = first

pub has_row_in_range : (frame : FrameSection) (m : LoadedModule) (a : ℕ) → IsTableOf frame m.rows → m.fallback ≡ None
    → IsRangeFor frame m.load_address None m.range → a < 2 ^ width_of frame.target.address_size → HasRowInRange a m
has_row_in_range frame m a table alone range fits =
    let P : Type 0 = is_in m.range a ≡ true in
    let at = as_linked m.rows.target m.load_address a in
    let own : IfSome (row_at m.rows at) (λ found. P) =
    subst (λ (t : Target). IfSome (row_at m.rows (as_linked t m.load_address a)) (λ found. P)) (sym table.target)
    (by_found frame.target frame.fdes m a range fits frame (λ f among. among) (row_at m.rows (as_linked frame.target m.load_address a))
    (table.row (as_linked frame.target m.load_address a))) in
    either P (row_at m.rows at) (fallback_row m.fallback at) own
    (subst (λ (o : Option RowTable). IfSome (fallback_row o at) (λ found. P)) (sym alone) tt)

pub both_have_rows_in_range : (debug_frame eh_frame : FrameSection) (m : LoadedModule) (a : ℕ) → AreTablesOf debug_frame eh_frame m
    → IsRangeForBoth debug_frame eh_frame m.load_address None m.range → a < 2 ^ width_of debug_frame.target.address_size → HasRowInRange a m
both_have_rows_in_range debug_frame eh_frame m a tables range fits =
    let P : Type 0 = is_in m.range a ≡ true in
    let fdes = debug_frame.fdes ++ eh_frame.fdes in
    let linked = as_linked debug_frame.target m.load_address a in
    let at = as_linked m.rows.target m.load_address a in
    let same : linked ≡ at = ap (λ (t : Target). as_linked t m.load_address a) (sym tables.first.target) in
    let own : IfSome (row_at m.rows linked) (λ found. P) =
    by_found debug_frame.target fdes m a range fits debug_frame (λ f among. Contains-append_left debug_frame.fdes eh_frame.fdes f among)
    (row_at m.rows linked) (tables.first.row linked) in
    let other : IfSome (row_at tables.second linked) (λ found. P) =
    by_found debug_frame.target fdes m a range fits eh_frame (λ f among. Contains-append_right debug_frame.fdes eh_frame.fdes f among)
    (row_at tables.second linked) (tables.stored.row linked) in
    subst (λ (n : ℕ). IfSome (option_or (row_at m.rows n) (fallback_row m.fallback n)) (λ found. P)) same
    (either P (row_at m.rows linked) (fallback_row m.fallback linked) own
    (subst (λ (o : Option RowTable). IfSome (fallback_row o linked) (λ found. P)) (sym tables.second_is) other))
