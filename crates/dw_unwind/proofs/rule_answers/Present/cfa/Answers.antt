use Rattle.std.specs.Prelude.{None}
use Rattle.dw_stack.specs.declared.state.Kind.TheVariants.{FrameCfa}
use Rattle.dw_stack.specs.Located.{located_of}
use Rattle.dw_unwind.specs.CallerViews.{answer_in, machine_in, with_optional_cfa}
use Rattle.dw_unwind.proofs.Callers.{as_kind}
use Rattle.dw_unwind.proofs.rule_answers.Present.cfa.Goals as goal

pub returns-in-Expression : goal.returns-in-Expression
returns-in-Expression g c =
    let kind = rw c.in-Expression.is at c.requires in
    let e = with_optional_cfa (machine_in g.R.Registers.contents g.M.Memory.bytes c.args.self.now) None in
    rw c.in-Expression.is
    (as_kind e FrameCfa (located_of (c.in-Expression.offset, c.in-Expression.expression)) (answer_in c.outcome.result) kind
    (c.outcome.ensures c.in-Expression.offset))
