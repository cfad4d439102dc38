-- The addresses of a checked section fit in the hex digits with which they are shown.
use Rattle.std.proofs.Common.{◌≡◌, ℕ, ◌+◌, ◌*◌, ◌-◌, ◌^◌, ◌<◌, ◌≤◌, List, [], ◌∷◌, map, sym, subst, arith}
use Rattle.std.specs.Prelude.{None}
use Rattle.std.specs.List.{All}
use Rattle.std.proofs.lemmas.List.Elements.{All-nil, All-cons}
use Rattle.dw_bytes.specs.declared.target.Target.{Target}
use Rattle.dw_bytes.specs.declared.target.AddressSize.{AddressSize}
use Rattle.dw_bytes.specs.declared.target.AddressSize.TheVariants.{Four, Eight}
use Rattle.dw_bytes.specs.Encoding.{bytes_of_address}
use Rattle.dw_frame.specs.Records.{Cie, Fde}
use Rattle.dw_frame.specs.Sections.{top_of}
use Rattle.dw_rules.specs.Rules.{Row}
use Rattle.dw_stack.specs.Located.{LocatedExpression}
use Rattle.dw_rules.specs.RowsWithExpressions.{row_with_expressions}
use Rattle.dw_rows.proofs.rows.RowsWithExpressions.{cover-with}
use Rattle.dw_rules.specs.ProgramFault.{fde_fault}
use Rattle.dw_rows.specs.UnwindRows.{Cover, rows_of}
use Rattle.dw_rows.proofs.rows.Covering.{cover-rows}
use Rattle.dw_check.specs.Text.{Fits, digits_of}

below : (size : AddressSize) (n : ℕ) → n ≤ 2 ^ (8 * bytes_of_address size) - 1 → n < 16 ^ digits_of size
below Four n h = omega arith
below Eight n h = omega arith

-- an address of a target fits in the digits of the target's address size
pub below_top : (target : Target) (size : AddressSize) (n : ℕ) → size ≡ target.address_size → n ≤ top_of target → n < 16 ^ digits_of size
below_top target size n e h = subst (λ s. n < 16 ^ digits_of s) (sym e) (below target.address_size n h)

-- rows that cover a range whose end fits in the digits have addresses that fit, too
cover_fits : (size : AddressSize) (from to : ℕ) (rows : List Row) → Cover from rows to → to < 16 ^ digits_of size
    → (from < 16 ^ digits_of size) × All (λ row. Fits size row) rows
cover_fits size from to [] h k = (subst (λ n. n < 16 ^ digits_of size) (sym h) k, All-nil (λ row. Fits size row))
cover_fits size from to (row ∷ rows) h k =
    let later = cover_fits size row.end to rows h.2 k in
    let start : row.start < 16 ^ digits_of size = omega (arith, h.1, later.0) in
    (subst (λ n. n < 16 ^ digits_of size) h.0 start, All-cons (λ r. Fits size r) row rows (record { start = start; end = later.0 }) later.1)

-- the addresses of the rows of an FDE without a fault fit in the digits
pub good_rows_fit : (target : Target) (size : AddressSize) (cie : Cie) (fde : Fde) → size ≡ target.address_size → fde_fault cie fde ≡ None
    → fde.initial_location + fde.address_range ≤ top_of target → (es : List LocatedExpression)
    → All (λ row. Fits size row) (map (row_with_expressions es) (rows_of cie fde))
good_rows_fit target size cie fde z none h es =
    (cover_fits size fde.initial_location (fde.initial_location + fde.address_range) (map (row_with_expressions es) (rows_of cie fde))
    (cover-with es fde.initial_location (rows_of cie fde) (fde.initial_location + fde.address_range) (cover-rows cie fde none))
    (below_top target size (fde.initial_location + fde.address_range) z h)).1
