use Rattle.std.proofs.Common.{arith, map, subst, length, ◌<◌, ◌^◌}
use Rattle.std.proofs.Math.ListN.{get_or-map}
use Rattle.std.proofs.lemmas.List.{length-map}
use Rattle.dw_eval.specs.Views.{piece_in}
use Rattle.dw_eval.specs.Fits.{PieceFits}
use Rattle.dw_check.specs.Text.{digits_of}
use Rattle.dw_check.proofs.outcomes.push_pieces.Goals as goal

pub push_piece-requires : goal.push_piece-requires
push_piece-requires c =
    let pieces = c.args.pieces.now in
    let k = c.loop-piece.piece-index in
    let inside : k < length (map piece_in pieces) = omega (arith, length-map pieces piece_in) in
    subst (PieceFits (16 ^ digits_of c.args.size)) (get_or-map piece_in pieces k _) (c.requires k _ inside)
