use Rattle.std.proofs.Common.{◌≡◌, ◌<◌, ◌^◌, ◌⊎◌, arith, length, subst, sym}
use Rattle.std.specs.Prelude.{Some}
use Rattle.dw_bytes.specs.Answers.{memory}
use Rattle.dw_check.specs.Runs.{expression_refusal}
use Rattle.dw_sections.proofs.Lengths.{short_fault}
use Rattle.dw_check.proofs.runs.expression_or_refusal.Goals as goal

pub returns-in-Err-clause-stop : goal.returns-in-Err-clause-stop
returns-in-Err-clause-stop c =
    let bytes = c.args.bytes.now in
    let short : length bytes < 2 ^ 32 = omega arith in
    let answer = rw (c.new.ensures.target, c.new.ensures.bytes) at c.in-Err.ensures.answer in
    let own = subst (λ first. (c.in-Err.fault ≡ memory) ⊎ (first ≡ Some c.in-Err.fault)) (sym (short_fault bytes _ short)) answer in
    c.of_fault.ensures (expression_refusal c.args.kind c.args.target bytes) own
