use Rattle.std.proofs.Common.{rules, arith, ◌≡◌, ◌+◌, Some, None, take, sym, subst, ap}
use Rattle.dw_c_types.specs.Machine.{byte_in}
use Rattle.std.specs.Option.{option_map}
use Rattle.std.proofs.lemmas.List.{take_more_set}
use Rattle.byteorder.specs.Endian.{big_number, little_number}
use Rattle.dw_bytes.specs.Encoding.{number}
use Rattle.dw_c_types.proofs.Assembled.{Gathered, gathered_more, gathered_stops, gathered_all}
use Rattle.dw_c_types.proofs.memory.Blocks.read_by_bytes.Goals as goal

pub returns-in_err-bytes : goal.returns-in_err-bytes
returns-in_err-bytes c =
    let memory = byte_in c.args.self.now in
    let none : memory (c.args.address + c.loop-index.index) ≡ None = search (rules, c.in_err-bytes.ensures) in
    let stops = gathered_stops memory c.args.address c.args.size c.loop-index.index (take c.loop-index.index c.loop-index.bytes) (omega arith) c.loop-index.invariant.gathered none in
    search (rules, ap (option_map (number c.args.order c.args.size)) stops)

pub loop-index-preserved : goal.loop-index-preserved
loop-index-preserved c =
    let memory = byte_in c.args.self.now in
    let i = c.loop-index.index in
    let b = c.in_ok-bytes.field-0 in
    let some : memory (c.args.address + i) ≡ Some b = search (rules, c.in_ok-bytes.ensures) in
    let place : c.from-in-loop-index.result ≡ i = search rules in
    let more = gathered_more memory c.args.address c.args.size i b (take i c.loop-index.bytes) (omega arith) c.loop-index.invariant.gathered some in
    rw place (record {
      long = search rules;
      gathered = subst (λ bytes. Gathered memory c.args.address c.args.size (i + 1) bytes) (sym (take_more_set c.loop-index.bytes i b (omega (arith, c.loop-index.invariant.long)))) more;
    })

pub returns-in-Little : goal.returns-in-Little
returns-in-Little c =
    let memory = byte_in c.args.self.now in
    let bytes = c.loop-index.bytes in
    let size = c.args.size in
    let count : c.from-count.result ≡ size = search rules in
    let i : c.loop-index.index ≡ size = search rules in
    let whole = subst (λ k. Gathered memory c.args.address size k (take k bytes)) i c.loop-index.invariant.gathered in
    let all = gathered_all memory c.args.address size (take size bytes) whole in
    let read = subst (λ n. c.read_uint.result ≡ little_number n (take n bytes)) count c.read_uint.ensures in
    rw (c.in-Little.is, all) (ap Some read)

pub returns-in-Big : goal.returns-in-Big
returns-in-Big c =
    let memory = byte_in c.args.self.now in
    let bytes = c.loop-index.bytes in
    let size = c.args.size in
    let count : c.from-count.result ≡ size = search rules in
    let i : c.loop-index.index ≡ size = search rules in
    let whole = subst (λ k. Gathered memory c.args.address size k (take k bytes)) i c.loop-index.invariant.gathered in
    let all = gathered_all memory c.args.address size (take size bytes) whole in
    let read = subst (λ n. c.read_uint-in-Big.result ≡ big_number n (take n bytes)) count c.read_uint-in-Big.ensures in
    rw (c.in-Big.is, all) (ap Some read)
