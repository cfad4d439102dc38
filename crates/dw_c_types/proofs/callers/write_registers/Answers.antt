use Rattle.std.proofs.Common.{◌<◌, ◌∙◌, length, sym, ap, arith}
use Rattle.std.specs.Prelude.{slice_set, option_map}
use Rattle.std.proofs.lemmas.Option.{slice_get-get_or}
use Rattle.dw_unwind.specs.Caller.{undefined}
use Rattle.dw_unwind.specs.CallerViews.{answer_in, found_in}
use Rattle.dw_c_types.specs.Callers.{cregister_of}
use Rattle.dw_c_types.proofs.Putting.{is_something, puts_found}
use Rattle.dw_c_types.proofs.callers.write_registers.Goals as goal
use Rattle.dw_c_types.proofs.callers.write_registers.Goals.{in-Some, in_default}

pub loop-index-preserved : goal.loop-index-preserved
loop-index-preserved c =
    let found = c.args.found.now in let i = c.loop-index.index in
    let inside : i < length found = omega (arith, c.loop-index-test.true, c.len-index-end.ensures.count) in
    elim c.match-get.branch [
      | in-Some w ↦
          let shown = cregister_of (w.in-Some.number, answer_in w.in-Some.answer) in
          w.slots-is ∙ w.put.ensures ∙ ap (λ x. slice_set c.loop-index.slots i x) w.c_register_of.ensures
          ∙ ap (λ l. slice_set l i shown) c.loop-index.invariant
          ∙ puts_found cregister_of found c.args.slots.now i _ inside (sym c.get.ensures ∙ ap (option_map found_in) w.in-Some.is)
      | in_default w ↦
          absurd (is_something found_in c.get.result _ (c.get.ensures ∙ slice_get-get_or found i (0, undefined) inside) w.in_default.not-Some)
    ]
