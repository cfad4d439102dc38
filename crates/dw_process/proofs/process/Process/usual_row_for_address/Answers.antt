use Rattle.std.proofs.Common.{◌≡◌, ℕ, Option, Some, ap, ◌∙◌, subst, sym}
use Rattle.std.specs.Option.{option_or}
use Rattle.dw_rules.specs.Rules.{Row}
use Rattle.dw_tables.specs.UnwindTables.{row_at}
use Rattle.dw_unwind.specs.Modules.{as_linked}
use Rattle.dw_process.specs.Processes.{IsFoundIn, ProcessState, fallback_row, found_at, found_with}
use Rattle.dw_process.proofs.Finding.{its_module, its_row_found}
use Rattle.dw_process.proofs.process.Process.usual_row_for_address.Goals as goal

comes_first : (found : Row × ℕ) (first second : Option (Row × ℕ)) → Some found ≡ first → Some found ≡ option_or first second
comes_first found first second is = ap (λ (o : Option (Row × ℕ)). option_or o second) is

pub returns-clause-row : goal.returns-clause-row
returns-clause-row c =
    let p : ProcessState = record { target = c.self.inside.target; next_id = c.self.inside.next_id; modules = c.self.inside.modules } in
    let w = c.in_ok-row in
    let m = c.in-Some.found.now in
    let first = sym w.ensures.row ∙ ap (λ (n : ℕ). row_at m.rows n) c.as_linked-linked.ensures in
    let row = comes_first (w.row, w.return_register) _ (fallback_row m.fallback (as_linked p.target m.load_address c.args.address)) first in
    sym (its_row_found p c.self.invariant c.args.address c.in-Some.found.now c.in-Some.ensures (Some (w.row, w.return_register)) row
    ∙ ap (λ (p : ProcessState). found_at p c.args.address) c.self.view_is)

pub returns-clause-found : goal.returns-clause-found
returns-clause-found c =
    let p : ProcessState = record { target = c.self.inside.target; next_id = c.self.inside.next_id; modules = c.self.inside.modules } in
    let w = c.in_ok-row in
    let m = c.in-Some.found.now in
    let first = sym w.ensures.row ∙ ap (λ (n : ℕ). row_at m.rows n) c.as_linked-linked.ensures in
    let row = comes_first (w.row, w.return_register) _ (fallback_row m.fallback (as_linked p.target m.load_address c.args.address)) first in
    subst (λ (q : ProcessState). IsFoundIn q c.args.address (found_with p.target c.in-Some.found.now (w.row, w.return_register))) c.self.view_is
    (its_module p c.self.invariant c.args.address c.in-Some.found.now c.in-Some.ensures w.row w.return_register row w.ensures.under)
