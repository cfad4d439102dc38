use Rattle.std.proofs.Common.{ap, ◌∙◌}
use Rattle.std.specs.Option.{option_map}
use Rattle.dw_ops.specs.Views.{operation_of}
use Rattle.dw_stack.specs.Machine.{PieceExtent, location_of}
use Rattle.dw_eval.specs.Environments.{world_in}
use Rattle.dw_eval.specs.Views.{location_description_of}
use Rattle.dw_eval.proofs.Steps.{piece_applies}
use Rattle.dw_eval.proofs.run.Run.apply.Goals as goal

pub returns-in-Some : goal.returns-in-Some
returns-in-Some g c =
    let here = location_of c.args.self.now.stack (option_map location_description_of c.args.self.now.pending) in
    piece_applies (world_in g.R.Registers.contents g.M.Memory.bytes c.args.environment.now)
    (operation_of c.args.operation.now) c.args.next c.args.self.now c.end_piece.new.self c.end_piece.result c.in-Some.ensures.0
    c.end_piece.ensures.stack c.end_piece.ensures.pending
    (c.end_piece.ensures.piece ∙ ap (λ (x : PieceExtent). record { location = here; size = x }) c.in-Some.ensures.1)
