use Rattle.std.proofs.Common.{arith, ◌+◌, ◌*◌, ◌/◌, inl, inr, refl}
use Rattle.std.proofs.lemmas.Bool.{cases_lt}
use Rattle.dw_rows.specs.declared.index.IndexEntry.{IndexEntry}
use Rattle.dw_rows.proofs.sections.Indexes.{start-at}
use Rattle.dw_rows.proofs.index.count_up_to.Goals as goal

pub loop-size-preserved : goal.loop-size-preserved
loop-size-preserved c =
    let i = c.loop-size.invariant in
    let s = c.stride-low.ensures in
    let q = c.loop-size.size / 4 in
    record {
      bound = omega (arith, i.bound, s.bound);
      below = λ k d lt. elim (cases_lt 0 c.stride-low.result) [
        | inl some ↦ let up = c.requires k (c.loop-size.low + c.stride-low.result) d (omega arith) (omega (arith, i.bound, s.bound)) in
            omega (arith, up, s.below d some)
        | inr none ↦ i.below k d (omega arith)
      ];
      above = λ k d le lt. elim (cases_lt c.stride-low.result (3 * q)) [
        | inl few ↦ let up = c.requires (c.loop-size.low + c.stride-low.result + q) k d (omega (arith, s.bound)) lt in
            omega (arith, up, s.above d few)
        | inr all ↦ i.above k d (omega (arith, s.bound)) lt
      ];
    }

pub returns-else-index-low : goal.returns-else-index-low
returns-else-index-low c =
    let i = c.loop-size-2.invariant in
    record {
      bound = omega (arith, i.bound);
      below = i.below;
      above = λ k d le lt.
          let e : IndexEntry = record { start = 0; place = 0 } in
          let up = c.requires c.loop-size-2.low k e le lt in
          omega (arith, up, c.if-index-low.false, start-at c.args.index.now k k e d refl lt);
    }
