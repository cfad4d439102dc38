use Rattle.std.proofs.Common.{◌-◌, arith}
use Rattle.std.specs.Prelude.{Bool, true, false}
use Rattle.std.specs.Bool.{OnTrue}
use Rattle.dw_tables.specs.CompiledTable.{IsBracketed}
use Rattle.dw_tables.proofs.table_entries.is_near_count.Goals as goal

so : (b : Bool) {X Y : Type 0} → OnTrue b X → (X → Y) → OnTrue b Y
so true fact then = then fact
so false fact then = tt

pub returns : goal.returns
returns c =
    let starts = c.args.starts.now in
    let n = c.args.count in
    so c.has_between.result c.has_between.ensures (λ (is : IsBracketed starts c.args.address n). record {
      bound = omega (arith, is.more);
      below = λ k d lt. omega (arith, c.requires k (n - 1) d (omega (arith, lt, is.some)) (omega (arith, is.more)), is.low d);
      above = λ k d le lt. omega (arith, c.requires n k d le lt, is.high d);
    })
