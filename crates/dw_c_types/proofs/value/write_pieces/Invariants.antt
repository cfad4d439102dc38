use Rattle.std.proofs.Common.{◌≡◌, map, take}
use Rattle.dw_eval.specs.Views.{piece_in}
use Rattle.dw_c_types.specs.Evaluated.{cpiece_of}
use Rattle.dw_c_types.specs.Slots.{put_into}
use Rattle.dw_c_types.proofs.value.write_pieces.Given as goal

abbrev pub invariant-loop-index : goal.invariant-loop-index
invariant-loop-index l = l.slots ≡ put_into (map cpiece_of (map piece_in (take l.index l.pieces))) l.initial.slots
