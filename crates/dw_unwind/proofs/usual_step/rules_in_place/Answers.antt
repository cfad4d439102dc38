use Rattle.std.specs.Prelude.{None}
use Rattle.dw_rules.specs.Abi.{abi_of}
use Rattle.dw_unwind.specs.Caller.{machine, value}
use Rattle.dw_unwind.specs.Contents.{abi_rules, contents_in}
use Rattle.dw_unwind.specs.declared.usual_step.TheConstants.{LITTLE_64}
use Rattle.dw_unwind.proofs.InPlace.{left-has, overlays-by}
use Rattle.dw_unwind.proofs.usual_step.rules_in_place.Goals as goal

pub returns : goal.returns
returns g c = λ rules n table is gives.
    let old = contents_in c.args.file.now in
    let memory = g.M.Memory.bytes c.args.memory.now in
    let cfa = value c.args.cfa in
    let base = contents_in c.abi_in_place.new.file in
    let middle = contents_in c.saved_into.new.into in
    left-has (machine LITTLE_64 old memory) cfa (abi_rules (abi_of c.args.kept.now c.args.stack_pointer)) rules c.args.left c.args.number
    c.args.content n base middle (contents_in c.set.new.self) table is gives c.abi_in_place.ensures
    (overlays-by LITTLE_64 (λ r. None) old memory cfa c.args.left base middle c.saved_into.ensures) c.set.ensures
