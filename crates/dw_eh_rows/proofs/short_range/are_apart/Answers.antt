use Rattle.std.proofs.Common.{arith}
use Rattle.std.proofs.lemmas.List.Sorted.{sum_by-IsPermutation}
use Rattle.dw_eh_rows.specs.declared.short_range.ShortRange.{ShortRange}
use Rattle.dw_eh_rows.specs.Counting.{one_if, range_covers}
use Rattle.dw_eh_rows.proofs.short_range.are_apart.Goals as goal

pub returns : goal.returns
returns c = λ is base a. omega (
  arith,
  c.follow_each_other.ensures is base a,
  sum_by-IsPermutation (λ (r : ShortRange). one_if (range_covers base a r)) _ _ c.sort_unstable_by_key.ensures.permutation,
)
