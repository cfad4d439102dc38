use Rattle.std.proofs.Common.{◌+◌, arith, slice_index}
use Rattle.std.specs.Ordering.{nat_cmp}
use Rattle.std.specs.BTreeMap.{get}
use Rattle.dw_state.proofs.KnownState.{added, byte_added}
use Rattle.dw_state.proofs.machine_state.add_memory_bytes.Goals as goal

pub loop-index-preserved : goal.loop-index-preserved
loop-index-preserved c =
    let m = c.args.address in
    let bs = c.args.bytes.now in
    let i = c.loop-index.index in
    λ a. byte_added m i bs a (get nat_cmp c.args.memory.now a) (get nat_cmp c.loop-index.memory a) (get nat_cmp c.add_first_value.new.map a)
    (omega arith)
    (c.loop-index.invariant a)
    (added c.loop-index.memory c.add_first_value.new.map (m + i) (slice_index bs i) c.in_ok-add_first_value.ensures a)
