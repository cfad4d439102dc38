use Rattle.std.proofs.Common.{◌≡◌, ◌<◌, ◌^◌, ◌⊎◌, arith, length, subst, sym}
use Rattle.std.specs.Prelude.{Some}
use Rattle.dw_bytes.specs.Answers.{memory}
use Rattle.dw_check.specs.Runs.{lists_refusal}
use Rattle.dw_sections.proofs.Lengths.{short_fault}
use Rattle.dw_check.proofs.runs.lists_or_refusal.Goals as goal

pub returns-in-Err-clause-stop : goal.returns-in-Err-clause-stop
returns-in-Err-clause-stop c =
    let section = c.args.section.now in
    let short : length section < 2 ^ 32 = omega arith in
    let own = subst (λ first. (c.in-Err.fault ≡ memory) ⊎ (first ≡ Some c.in-Err.fault))
    (sym (short_fault section _ short)) c.in-Err.ensures.answer in
    c.of_fault.ensures (lists_refusal c.args.target section) own
