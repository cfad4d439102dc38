use Rattle.std.proofs.Common.{◌≡◌, map, take, filter}
use Rattle.std.specs.Prelude.{All}
use Rattle.dw_frame.specs.Views.{fde_of}
use Rattle.dw_rows.specs.AddressIndex.{fde_at, IsEntry}
use Rattle.dw_rows.proofs.sections.Indexes.{is_some_fde}
use Rattle.dw_rows.proofs.index.covering_some.Given as goal

abbrev pub invariant-loop-place : goal.invariant-loop-place
invariant-loop-place l = record {
  entries : All (IsEntry (map fde_of l.fdes)) l.index.items;
  fdes : map (fde_at (map fde_of l.fdes)) l.index.items ≡ filter is_some_fde (take l.place (map fde_of l.fdes));
}
