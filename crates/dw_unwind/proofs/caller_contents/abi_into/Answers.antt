use Rattle.std.proofs.Common.{◌&&◌, ℕ, Option, refl, sym, subst}
use Rattle.dw_rules.specs.Abi.{abi_of}
use Rattle.dw_unwind.specs.CallerViews.{answer_in, machine_in}
use Rattle.dw_unwind.specs.Contents.{HasContents, abi_rules, content_changed, contents_in}
use Rattle.dw_unwind.specs.MissingPlaces.{Fills}
use Rattle.dw_unwind.proofs.Contents.{kept-has, pointer-has}
use Rattle.dw_unwind.proofs.Places.{writes-next}
use Rattle.dw_unwind.proofs.caller_contents.abi_into.Goals as goal

pub returns-in-Some : goal.returns-in-Some
returns-in-Some g c =
    let e = machine_in g.R.Registers.contents g.M.Memory.bytes c.args.present.now in
    let cfa = answer_in c.args.cfa in
    let kept = c.args.kept.now in
    let n = c.in-Some.number in
    let named = c.keep_into-all_placed.ensures in
    let now = content_changed named.wanted n c.content_of.result in
    subst (λ (p : Option ℕ). Fills (HasContents e cfa (abi_rules (abi_of kept p)))
    (c.keep_into-all_placed.result && c.put.result) (contents_in c.put.new.self)) (sym c.in-Some.is) (record {
      wanted = now;
      right = pointer-has e cfa kept n (answer_in c.pointed.result) c.content_of.result named.wanted now (c.pointed.ensures n)
          (kept-has e cfa kept (contents_in c.args.into.now) named.wanted c.requires named.right) (λ r. refl) c.content_of.ensures;
      writes = writes-next named.wanted (contents_in c.keep_into-all_placed.new.into) (contents_in c.put.new.self) n c.content_of.result
          c.keep_into-all_placed.result c.put.result named.writes c.put.ensures.near c.put.ensures.puts;
    })

pub returns-in-None : goal.returns-in-None
returns-in-None g c =
    let e = machine_in g.R.Registers.contents g.M.Memory.bytes c.args.present.now in
    let cfa = answer_in c.args.cfa in
    let kept = c.args.kept.now in
    let named = c.keep_into-all_placed.ensures in
    subst (λ (p : Option ℕ). Fills (HasContents e cfa (abi_rules (abi_of kept p)))
    c.keep_into-all_placed.result (contents_in c.keep_into-all_placed.new.into)) (sym c.in-None.is) (record {
      wanted = named.wanted;
      right = kept-has e cfa kept (contents_in c.args.into.now) named.wanted c.requires named.right;
      writes = named.writes;
    })
