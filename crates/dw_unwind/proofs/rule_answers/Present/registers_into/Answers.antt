use Rattle.std.proofs.Common.{[], ◌∷◌}
use Rattle.std.proofs.lemmas.List.{map-append}
use Rattle.dw_rules.specs.RowsWithExpressions.{IsEntryOfKind}
use Rattle.dw_rules.specs.Views.{numbered_rule_of}
use Rattle.dw_unwind.specs.CallerViews.{answer_in, machine_in}
use Rattle.dw_unwind.proofs.Callers.{has_room, of_next, one_more, comes}
use Rattle.dw_unwind.proofs.rule_answers.Present.registers_into.Goals as goal

pub register-requires : goal.register-requires
register-requires g c =
    of_next IsEntryOfKind _ (numbered_rule_of (c.in-Some.number, c.in-Some.rule)) _ _ _ c.requires.kinds c.loop-number.invariant.whole
    (c.in-Some.ensures).steps

pub push-requires : goal.push-requires
push-requires g c =
    let e = machine_in g.R.Registers.contents g.M.Memory.bytes c.args.self.now in
    has_room e (answer_in c.args.cfa) _ _ _ _ _ _ _ c.loop-number.invariant.found c.loop-number.invariant.whole
    (c.in-Some.ensures).steps c.requires.few

pub loop-number-preserved : goal.loop-number-preserved
loop-number-preserved g c = record {
  whole = comes numbered_rule_of c.loop-number.yielded (c.in-Some.number, c.in-Some.rule) _ _ _ c.loop-number.invariant.whole
      (c.in-Some.ensures).steps;
  found = rw (
    map-append numbered_rule_of c.loop-number.yielded ((c.in-Some.number, c.in-Some.rule) ∷ []),
    c.push.ensures,
  )
      (one_more (machine_in g.R.Registers.contents g.M.Memory.bytes c.args.self.now) _ _ _ _ _ _
      c.loop-number.invariant.found c.register.ensures);
}
