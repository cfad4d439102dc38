use Rattle.std.proofs.Common.{ℕ, ap, ◌∙◌}
use Rattle.dw_eval.specs.Numbers.{width_of}
use Rattle.dw_unwind.specs.Modules.{as_linked}
use Rattle.dw_process.proofs.Linking.{back}
use Rattle.dw_process.proofs.ranges.as_loaded.Goals as goal

pub returns-clause-linked : goal.returns-clause-linked
returns-clause-linked c =
    ap (λ (n : ℕ). as_linked c.args.target c.args.load_address n)
    (c.as_linked-2.ensures ∙ ap (λ (n : ℕ). as_linked c.args.target n c.args.address) c.as_linked.ensures)
    ∙ back (width_of c.args.target.address_size) c.args.load_address c.args.address c.requires
