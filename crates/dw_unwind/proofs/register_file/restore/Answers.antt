use Rattle.std.proofs.Common.{◌==◌, ◌∙◌, ap, arith, get_or, if◌then◌else◌, ℕ}
use Rattle.std.proofs.lemmas.List.{length-set}
use Rattle.dw_unwind.proofs.InPlace.{set-flags}
use Rattle.dw_unwind.proofs.register_file.restore.Goals as goal

pub returns : goal.returns
returns c =
    let flags = c.args.flags.now in
    let old = c.args.old.now in
    let n = c.from-place.result in record {
      length_is = length-set flags n _;
      each = λ r lt. set-flags old flags n r (omega arith)
          ∙ ap (λ (k : ℕ). if k == r then get_or old r 0 else get_or flags r 0) c.from-place.ensures;
    }
