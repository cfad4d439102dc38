use Rattle.std.proofs.Common.{rules}
use Rattle.std.proofs.lemmas.List.Sorted.{IsNonDecreasingBy-from_sort_by_key}
use Rattle.dw_rows.specs.declared.index.IndexEntry.{IndexEntry}
use Rattle.dw_rows.proofs.index.sort_by_start.Goals as goal

pub returns-clause-sorted : goal.returns-clause-sorted
returns-clause-sorted c =
    IsNonDecreasingBy-from_sort_by_key (λ (e : IndexEntry). e.start) _ c.in-Ok.ensures.sorted (λ a r q k. search rules)

pub returns-2-clause-sorted : goal.returns-2-clause-sorted
returns-2-clause-sorted c =
    IsNonDecreasingBy-from_sort_by_key (λ (e : IndexEntry). e.start) _ c.sort_unstable_by_key.ensures.sorted (λ a r q k. search rules)
