use Rattle.std.proofs.Common.{◌∙◌, ap}
use Rattle.std.specs.Prelude.{slice_set}
use Rattle.std.proofs.Math.ListN.{get_or}
use Rattle.dw_eval.specs.Views.{piece_in}
use Rattle.dw_eval.specs.declared.location.Piece.{Piece}
use Rattle.dw_eval.specs.declared.location.Location.TheVariants.{Empty}
use Rattle.dw_eval.specs.declared.location.PieceSize.TheVariants.{Bytes}
use Rattle.dw_c_types.specs.Evaluated.{cpiece_of}
use Rattle.dw_c_types.proofs.Putting.{puts_at}
use Rattle.dw_c_types.proofs.value.write_pieces.Goals as goal

pub loop-index-preserved : goal.loop-index-preserved
loop-index-preserved c =
    let pieces = c.args.pieces.now in let i = c.loop-index.index in
    let d : Piece = record { location = Empty; size = Bytes 0 } in
    c.put.ensures ∙ ap (λ x. slice_set c.loop-index.slots i x) c.c_piece_of.ensures
    ∙ ap (λ l. slice_set l i (cpiece_of (piece_in (get_or pieces i d)))) c.loop-index.invariant
    ∙ puts_at piece_in cpiece_of pieces c.args.slots.now i d c.loop-index-test.true
