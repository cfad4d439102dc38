-- The text that shows the outcome of an expression.
use Rattle.std.specs.Prelude.{ℕ, List, ◌++◌, length, codes, decimal}
use Rattle.std.specs.List.{flat_map}
use Rattle.hex.specs.Hex.{encode_lower}
use Rattle.dw_bytes.specs.declared.target.AddressSize.{AddressSize}
use Rattle.dw_stack.specs.Machine.{LocationDescription, Nowhere, AtAddress, InRegister, HasValue, HasBytes, PieceExtent, Piece}
use Rattle.dw_stack.specs.Machine as machine
use Rattle.dw_eval.specs.Results.{Outcome, value, single, pieces, unreadable, division_by_zero}
use Rattle.dw_bytes.specs.Text.{offset_text}
use Rattle.dw_check.specs.Text.{address_text}

-- where an object or a piece of it is
abbrev pub location_text : AddressSize → LocationDescription → List ℕ
location_text size Nowhere = codes "empty"
location_text size (AtAddress a) = codes "address " ++ address_text size a
location_text size (InRegister r) = codes "register " ++ decimal r
location_text size (HasValue v) = codes "value " ++ address_text size v
location_text size (HasBytes bytes) = codes "bytes " ++ encode_lower bytes

abbrev pub size_text : PieceExtent → List ℕ
size_text (machine.bytes n) = codes " bytes " ++ decimal n
size_text (machine.bits n offset) = codes " bits " ++ decimal n ++ codes " offset " ++ decimal offset

unfoldable pub piece_line : AddressSize → Piece → List ℕ
piece_line size piece = codes "piece " ++ location_text size piece.location ++ size_text piece.size ++ codes "\n"

-- the line of an expression without a result: the reason, and the offset of the operation that has
-- no result, counted from the start of the expression
unfoldable pub stop_line : List ℕ → ℕ → List ℕ
stop_line what at = what ++ codes " at " ++ offset_text at ++ codes "\n"

abbrev pub outcome_text : AddressSize → Outcome → List ℕ
outcome_text size (value v) = codes "value " ++ address_text size v ++ codes "\n"
outcome_text size (single l) = location_text size l ++ codes "\n"
outcome_text size (pieces ps) = codes "pieces " ++ decimal (length ps) ++ codes "\n" ++ flat_map (piece_line size) ps
outcome_text size (unreadable at) = stop_line (codes "unreadable") at
outcome_text size (division_by_zero at) = stop_line (codes "division by zero") at

-- the line with the number of steps of the run, and the expression's greatest stack depth
unfoldable pub counts_line : ℕ → ℕ → List ℕ
counts_line steps depth = codes "steps " ++ decimal steps ++ codes " depth " ++ decimal depth ++ codes "\n"

unfoldable pub evaluation_text : AddressSize → Outcome → ℕ → ℕ → List ℕ
evaluation_text size outcome steps depth = outcome_text size outcome ++ counts_line steps depth
