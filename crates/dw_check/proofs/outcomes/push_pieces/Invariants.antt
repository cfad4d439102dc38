use Rattle.std.proofs.Common.{◌≡◌, ◌++◌, take, map}
use Rattle.std.specs.List.{flat_map}
use Rattle.std.specs.String.{string_bytes}
use Rattle.dw_eval.specs.Views.{piece_in}
use Rattle.dw_check.specs.Outcomes.{piece_line}
use Rattle.dw_check.proofs.outcomes.push_pieces.Given as goal

abbrev pub invariant-loop-piece : goal.invariant-loop-piece
invariant-loop-piece l = string_bytes l.line ≡ string_bytes l.fn.line
    ++ flat_map (piece_line l.size) (map piece_in (take l.piece-index l.pieces))
