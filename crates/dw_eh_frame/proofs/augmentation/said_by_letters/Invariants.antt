use Rattle.std.proofs.Common.{◌≡◌, drop}
use Rattle.dw_eh_frame.specs.Augmentations.{say, no_letters}
use Rattle.std.specs.Prelude.{true}
use Rattle.dw_eh_frame.proofs.augmentation.said_by_letters.Given as goal

abbrev pub invariant-loop-letter : goal.invariant-loop-letter
invariant-loop-letter l = say l.target (drop l.letter-index l.letters) l.area l.said
    ≡ say l.target l.letters l.fn.area (record no_letters { has_data = true })
