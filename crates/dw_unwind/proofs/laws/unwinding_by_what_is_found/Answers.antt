use Rattle.dw_tables.specs.UnwindTables.{row_at}
use Rattle.dw_unwind.proofs.Callers.{found-unwinds, unwinds-found}
use Rattle.dw_unwind.proofs.laws.unwinding_by_what_is_found.Goals as goal

pub returns : goal.returns
returns c = record {
  found = λ e abi frame address found caller is. (
    unwinds-found e abi frame address found caller is,
    found-unwinds e abi frame address found caller is,
  );
  table = λ e abi frame table address caller is. (
    unwinds-found e abi frame address (row_at table address) caller (is.row address),
    found-unwinds e abi frame address (row_at table address) caller (is.row address),
  );
}
