use Rattle.std.proofs.Common.{◌≡◌, ◌∙◌, List, length, take, sym, ap, arith}
use Rattle.std.proofs.lemmas.List.{length-map, length-set, length-take-le}
use Rattle.dw_unwind.specs.declared.packed_registers.PackedRegister.{PackedRegister}
use Rattle.dw_unwind.specs.PackedRegisters.{packed_in}
use Rattle.dw_unwind.proofs.packed_registers.PackedRegistersRegisterList.push.Goals as goal

pub invariant_of-self : goal.invariant_of-self
invariant_of-self c =
    let slots : List PackedRegister = c.self.inside.slots in
    let count = c.self.inside.count in
    let long = c.self.invariant.room in
    let used : length (take count slots) ≡ count = length-take-le count slots (omega (arith, c.self.invariant.few, long)) in
    let seen : length c.args.self.now ≡ count = ap length (sym c.self.view_is) ∙ length-map (take count slots) packed_in ∙ used in
    record {
      few = omega (arith, seen, c.requires);
      room = length-set slots count c.packed.result ∙ long;
    }
