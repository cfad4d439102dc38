use Rattle.std.proofs.Common.{ℕ, Some, None, ap, ◌∙◌, subst}
use Rattle.dw_process.specs.Processes.{IsFoundIn, ProcessState, found_at, found_with, linked_row}
use Rattle.dw_process.proofs.Finding.{its_module, its_row_found, its_targets}
use Rattle.dw_process.proofs.process.Process.row_for_address.Goals as goal

pub row_near-requires : goal.row_near-requires
row_near-requires c =
    let p : ProcessState = record { target = c.self.inside.target; next_id = c.self.inside.next_id; modules = c.self.inside.modules } in
    its_targets p c.self.invariant c.args.address c.in-Some.found.now c.in-Some.ensures

pub returns-in-Some-row_near-clause-row : goal.returns-in-Some-row_near-clause-row
returns-in-Some-row_near-clause-row c =
    let p : ProcessState = record { target = c.self.inside.target; next_id = c.self.inside.next_id; modules = c.self.inside.modules } in
    let w = c.in-Some-row_near in
    let row = w.ensures.row ∙ ap (λ (n : ℕ). linked_row c.in-Some.found.now n) c.as_linked-linked.ensures in
    its_row_found p c.self.invariant c.args.address c.in-Some.found.now c.in-Some.ensures (Some (w.row, w.return_register)) row
    ∙ ap (λ (p : ProcessState). found_at p c.args.address) c.self.view_is

pub returns-in-Some-row_near-clause-found : goal.returns-in-Some-row_near-clause-found
returns-in-Some-row_near-clause-found c =
    let p : ProcessState = record { target = c.self.inside.target; next_id = c.self.inside.next_id; modules = c.self.inside.modules } in
    let w = c.in-Some-row_near in
    let row = w.ensures.row ∙ ap (λ (n : ℕ). linked_row c.in-Some.found.now n) c.as_linked-linked.ensures in
    subst (λ (q : ProcessState). IsFoundIn q c.args.address (found_with p.target c.in-Some.found.now (w.row, w.return_register))) c.self.view_is
    (its_module p c.self.invariant c.args.address c.in-Some.found.now c.in-Some.ensures w.row w.return_register row w.ensures.under)

pub returns-in-None-clause-row : goal.returns-in-None-clause-row
returns-in-None-clause-row c =
    let p : ProcessState = record { target = c.self.inside.target; next_id = c.self.inside.next_id; modules = c.self.inside.modules } in
    let row = c.in-None.ensures.row ∙ ap (λ (n : ℕ). linked_row c.in-Some.found.now n) c.as_linked-linked.ensures in
    its_row_found p c.self.invariant c.args.address c.in-Some.found.now c.in-Some.ensures None row
    ∙ ap (λ (p : ProcessState). found_at p c.args.address) c.self.view_is
