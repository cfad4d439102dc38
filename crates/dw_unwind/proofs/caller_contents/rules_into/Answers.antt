use Rattle.dw_rules.specs.Abi.{abi_of}
use Rattle.dw_unwind.specs.CallerViews.{answer_in, machine_in}
use Rattle.dw_unwind.specs.Contents.{abi_rules, contents_in}
use Rattle.dw_unwind.proofs.Contents.{overlaid}
use Rattle.dw_unwind.proofs.Places.{overlays-from, writes-both}
use Rattle.dw_unwind.proofs.caller_contents.rules_into.Goals as goal

pub returns : goal.returns
returns g c =
    let e = machine_in g.R.Registers.contents g.M.Memory.bytes c.args.present.now in
    let cfa = answer_in c.args.cfa in
    let abi = abi_of c.args.kept.now c.args.stack_pointer in
    let between = contents_in c.abi_into-all_placed.new.into in
    let named = c.abi_into-all_placed.ensures in
    let ruled = c.overlay_into.ensures in
    let both = overlays-from e cfa c.args.rules between named.wanted ruled.wanted ruled.right in
    record {
      wanted = both.0;
      right = overlaid e cfa c.args.rules 0 (abi_rules abi) named.wanted both.0 c.requires.table named.right both.1;
      writes = writes-both named.wanted between ruled.wanted (contents_in c.overlay_into.new.into) both.0 c.abi_into-all_placed.result
          c.overlay_into.result named.writes ruled.writes both.2;
    }
