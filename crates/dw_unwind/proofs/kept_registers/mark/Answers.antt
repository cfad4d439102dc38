use Rattle.std.proofs.Common.{◌==◌, ◌∙◌, ap, arith, get_or, if◌then◌else◌, ℕ}
use Rattle.std.proofs.lemmas.List.{length-set}
use Rattle.dw_unwind.proofs.InPlace.{set-marks}
use Rattle.dw_unwind.proofs.kept_registers.mark.Goals as goal

pub returns : goal.returns
returns c =
    let marks = c.args.marks.now in
    let n = c.from-place.result in record {
      length_is = length-set marks n _;
      each = λ r lt. set-marks marks n r (omega arith) ∙ ap (λ (k : ℕ). if k == r then 1 else get_or marks r 0) c.from-place.ensures;
    }
