use Rattle.std.proofs.Common.{refl}
use Rattle.std.proofs.lemmas.Result.{MatchResult-from_err}
use Rattle.dw_rules.specs.Abi.{abi_of}
use Rattle.dw_unwind.specs.UnwoundViews.{caller_with}
use Rattle.dw_unwind.specs.Walks.{over_rows}
use Rattle.dw_unwind.proofs.Contents.{first-gives}
use Rattle.dw_unwind.proofs.modules.RefSliceModuleUnwinder.contents_into.Goals as goal

pub returns-in-Some-clause-contents : goal.returns-in-Some-clause-contents
returns-in-Some-clause-contents g c =
    let h = (rw c.in-Some.is at c.in_ok-unwound.ensures).contents in
    let abi = abi_of c.args.kept.now c.args.stack_pointer in
    let memory = g.M.Memory.bytes c.args.memory.now in
    record {
      found = h.found;
      unwinds = c.loop-module.invariant _
          (first-gives g.T.UnwindRows.target_of
          (λ rows. over_rows (g.T.UnwindRows.target_of rows) (g.T.UnwindRows.finds rows) abi memory) c.args.self.now.now
          c.loop-module.module-index c.module-item.result (g.R.Registers.contents c.args.registers.now) c.args.address
          c.as_linked-linked.result c.rows_target.result _ (caller_with h.found c.in-Some.unwound) c.loop-module-test.true c.module-item.is
          c.rows_target.ensures c.as_linked-linked.ensures h.unwinds refl);
      contents_are = h.contents_are;
    }

pub returns-in_err-unwound-clause-no_place : goal.returns-in_err-unwound-clause-no_place
returns-in_err-unwound-clause-no_place g c =
    let h = c.in_err-unwound.ensures.no_place in
    let abi = abi_of c.args.kept.now c.args.stack_pointer in
    let memory = g.M.Memory.bytes c.args.memory.now in
    MatchResult-from_err c.from_residual.result _ _ c.from_residual.ensures.0
    (λ _. record {
      caller = h.caller;
      unwinds = c.loop-module.invariant _
          (first-gives g.T.UnwindRows.target_of
          (λ rows. over_rows (g.T.UnwindRows.target_of rows) (g.T.UnwindRows.finds rows) abi memory) c.args.self.now.now
          c.loop-module.module-index c.module-item.result (g.R.Registers.contents c.args.registers.now) c.args.address
          c.as_linked-linked.result c.rows_target.result _ h.caller c.loop-module-test.true c.module-item.is
          c.rows_target.ensures c.as_linked-linked.ensures h.unwinds refl);
      past = h.past;
    })
