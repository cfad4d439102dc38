-- What calls that write one text after another have written.
use Rattle.std.proofs.Common.{◌≡◌, ℕ, List, [], ◌++◌, ap, map, refl, subst, sym, ◌∙◌}
use Rattle.std.specs.Prelude.{Option, Some, None, Result, Ok, Err, codes}
use Rattle.std.specs.Result.{IsErr}
use Rattle.std.specs.List.{flat_map}
use Rattle.std.specs.Io.KnownBytes.{Appends}
use Rattle.dw_bytes.specs.declared.target.AddressSize.{AddressSize}
use Rattle.dw_frame.specs.Records.{Cie, Fde}
use Rattle.dw_rules.specs.Rules.{Row}
use Rattle.dw_rows.specs.Section.{FrameSection, cie_in, rows_in, rows_by_cie, row_of}
use Rattle.dw_rules.specs.RowsWithExpressions.{row_with_expressions}
use Rattle.dw_rows.specs.UnwindRows.{rows_of}
use Rattle.dw_check.specs.SinkBytes.{AppendsFront}
use Rattle.dw_check.specs.Text.{fde_line, row_line, lines_of, fde_text, found_text, lookup_text}
use Rattle.dw_check.specs.WriteResults.{Writes, WritesWhole}
use Rattle.dw_check.specs.declared.stop.ReportFault.{ReportFault}
use Rattle.dw_check.specs.declared.stop.ReportFault.TheVariants.{Memory, Write}
use Rattle.dw_check.proofs.Growth.{appends_more, front_more, front_wider}

-- if all of x was written, and then a call wrote y or failed after a beginning of y, `Writes` holds
-- for the call and the text x ++ y
pub writes_then : (a b c : Option (List ℕ)) (r : Result (Unit {0}) ReportFault) (x y : List ℕ) → Appends a b x → Writes b c r y
    → Writes a c r (x ++ y)
writes_then a b c (Ok _) x y h k = appends_more a b c x y h k
writes_then a b c (Err _) x y h k = front_more a b c x y h k

-- `Writes` holds for a call that failed after a beginning of the text
pub writes_front : (a b : Option (List ℕ)) (r : Result (Unit {0}) ReportFault) (x : List ℕ) → IsErr r → AppendsFront a b x → Writes a b r x
writes_front a b (Ok _) x failed h = cc
writes_front a b (Err _) x failed h = h

-- if `WritesWhole` holds for a call, so does `Writes`
pub writes_whole : (a b : Option (List ℕ)) (r : Result (Unit {0}) ReportFault) (x : List ℕ) → WritesWhole a b r x → Writes a b r x
writes_whole a b (Ok _) x h = h
writes_whole a b (Err Memory) x h = ([], x, refl, h)
writes_whole a b (Err Write) x h = h

-- after the line of an FDE, a call that writes the lines of its rows has written the FDE's text, or
-- a beginning of it if the call failed
pub fde_then : (frame : FrameSection) (size : AddressSize) (cie : Cie) (fde : Fde) (rows : List Row) (a b c : Option (List ℕ))
    (r : Result (Unit {0}) ReportFault)
    → size ≡ frame.target.address_size → cie_in frame fde ≡ Some cie
    → rows ≡ map (row_with_expressions frame.expressions) (rows_of cie fde)
    → Appends a b (fde_line size cie fde) → Writes b c r (flat_map (row_line size) rows) → Writes a c r (fde_text frame fde)
unfolding fde_text
fde_then frame size cie fde rows a b c r z e d h k =
    let both : Writes a c r (lines_of size (Some cie) fde rows) =
    writes_then a b c r (fde_line size cie fde) (flat_map (row_line size) rows) h k in
    let its : rows ≡ rows_in frame fde = d ∙ ap (λ o. map (row_with_expressions frame.expressions) (rows_by_cie o fde)) (sym e) in
    subst (λ s. Writes a c r (lines_of s (cie_in frame fde) fde (rows_in frame fde))) z
    (subst (λ o. Writes a c r (lines_of size o fde (rows_in frame fde))) (sym e)
    (subst (λ l. Writes a c r (lines_of size (Some cie) fde l)) its both))

-- a call that failed after a beginning of an FDE's line has written a beginning of the FDE's text
pub fde_front : (frame : FrameSection) (size : AddressSize) (cie : Cie) (fde : Fde) (a b : Option (List ℕ))
    (r : Result (Unit {0}) ReportFault)
    → size ≡ frame.target.address_size → cie_in frame fde ≡ Some cie → IsErr r → AppendsFront a b (fde_line size cie fde)
    → Writes a b r (fde_text frame fde)
unfolding fde_text
fde_front frame size cie fde a b r z e failed h =
    let rest : List ℕ = flat_map (row_line size) (rows_in frame fde) in
    let both : Writes a b r (lines_of size (Some cie) fde (rows_in frame fde)) =
    writes_front a b r (fde_line size cie fde ++ rest) failed (front_wider a b (fde_line size cie fde) rest h) in
    subst (λ s. Writes a b r (lines_of s (cie_in frame fde) fde (rows_in frame fde))) z
    (subst (λ o. Writes a b r (lines_of size o fde (rows_in frame fde))) (sym e) both)

-- ---- the row of an address

-- if an address has a row, a call that writes the row's line writes the text of the look-up
pub row_written : (frame : FrameSection) (address : ℕ) (size : AddressSize) (row : Row) (a b : Option (List ℕ))
    (r : Result (Unit {0}) ReportFault)
    → size ≡ frame.target.address_size → Some row ≡ row_of frame address → Writes a b r (row_line size row)
    → Writes a b r (lookup_text frame address)
unfolding lookup_text
row_written frame address size row a b r z e h =
    subst (λ s. Writes a b r (found_text s (row_of frame address))) z (subst (λ o. Writes a b r (found_text size o)) e h)

-- if an address has no row, `none` is the text of the look-up
pub none_text : (frame : FrameSection) (address : ℕ) (bytes : List ℕ) → None ≡ row_of frame address → bytes ≡ codes "none\n"
    → bytes ≡ lookup_text frame address
unfolding lookup_text
none_text frame address bytes e d = d ∙ ap (found_text frame.target.address_size) e
