use Rattle.std.proofs.Common.{◌∙◌, Option, ap, subst}
use Rattle.std.specs.Prelude.{IfSome}
use Rattle.std.specs.Option.{option_and_then}
use Rattle.dw_bytes.specs.declared.target.Target.{Target}
use Rattle.dw_rows.specs.RowLookups.{IsRowUnder}
use Rattle.dw_process.specs.declared.loaded_module.LoadedModule.{LoadedModule}
use Rattle.dw_process.specs.Processes.{row_of_module}
use Rattle.dw_process.proofs.process.ProcessUnwindRows.find_row.Goals as goal

pub returns-clause-found : goal.returns-clause-found
returns-clause-found c =
    c.row_near.ensures.row
    ∙ ap (λ (o : Option LoadedModule). option_and_then (λ m. row_of_module m c.args.address) o) c.in-Some.ensures.module

pub returns-clause-under : goal.returns-clause-under
returns-clause-under c =
    subst (λ (t : Target). IfSome c.row_near.result (λ found. IsRowUnder t found.0)) c.in-Some.ensures.target c.row_near.ensures.under
