use Rattle.std.proofs.Common.{ℕ, Some, ap, ◌∙◌, get_or}
use Rattle.std.specs.Prelude.{option_map}
use Rattle.std.proofs.lemmas.Option.{slice_get-get_or, slice_get-map}
use Rattle.dw_unwind.specs.declared.unwinding.Answer.TheVariants as answers
use Rattle.dw_unwind.specs.CallerViews.{answer_in, found_in}
use Rattle.dw_unwind.proofs.frame_registers.answer_at.Goals as goal

pub returns-then-register-number : goal.returns-then-register-number
returns-then-register-number c =
    let last = get_or c.args.found.now c.args.place (0, answers.Value 0) in (
      c.args.place,
      slice_get-map found_in c.args.found.now c.args.place
          ∙ ap (option_map found_in) (slice_get-get_or c.args.found.now c.args.place (0, answers.Value 0) c.if-place-found.false)
          ∙ ap (λ (n : ℕ). Some (n, answer_in last.1)) c.if-register-number.true,
    )
