use Rattle.std.proofs.Common.{subst, map, List}
use Rattle.std.specs.List.Sorted.{IsPermutation}
use Rattle.std.proofs.lemmas.List.Sorted.{IsPermutation-map, All-permutation}
use Rattle.dw_frame.specs.Records.{Fde}
use Rattle.dw_frame.specs.Views.{fde_of}
use Rattle.dw_rows.specs.AddressIndex.{fde_at, IsEntry}
use Rattle.dw_rows.proofs.sections.Indexes.{indexed, sorted-entries}
use Rattle.dw_rows.proofs.index.index_of.Goals as goal

pub returns : goal.returns
returns c =
    let fdes = map fde_of c.args.fdes.now in
    let entries = c.sort_by_start.new.index.items in
    let moved = c.sort_by_start.ensures.permutation in
    let sorted = c.sort_by_start.ensures.sorted in
    let each = All-permutation (IsEntry fdes) _ entries moved c.in_ok-index.ensures.entries in
    record {
      each = each;
      index_of = indexed fdes (map (fde_at fdes) entries) c.requires
          (subst (λ (xs : List Fde). IsPermutation xs (map (fde_at fdes) entries)) c.in_ok-index.ensures.fdes
          (IsPermutation-map (fde_at fdes) _ entries moved))
          (sorted-entries fdes entries each sorted);
    }
