use Rattle.std.proofs.Common.{ℕ, Option, subst, sym}
use Rattle.dw_rules.specs.Abi.{abi_of}
use Rattle.dw_unwind.specs.Caller.{machine, value}
use Rattle.dw_unwind.specs.CallerViews.{answer_in}
use Rattle.dw_unwind.specs.Contents.{HasContents, abi_rules, contents_in}
use Rattle.dw_unwind.specs.declared.usual_step.TheConstants.{LITTLE_64}
use Rattle.dw_unwind.proofs.Contents.{pointer-has}
use Rattle.dw_unwind.proofs.InPlace.{kept-in-place}
use Rattle.dw_unwind.proofs.usual_step.abi_in_place.Goals as goal

pub returns-in-Some : goal.returns-in-Some
returns-in-Some g c =
    let old = contents_in c.args.file.now in
    let memory = g.M.Memory.bytes c.args.memory.now in
    let e = machine LITTLE_64 old memory in
    let cfa = value c.args.cfa in
    let kept = c.args.kept.now in
    let base = contents_in c.keep.new.self in
    subst (λ (p : Option ℕ). HasContents e cfa (abi_rules (abi_of kept p)) (contents_in c.set.new.self)) (sym c.in-Some.is)
    (pointer-has e cfa kept c.in-Some.number (answer_in c.pointed.result) c.content_of.result base (contents_in c.set.new.self)
    (c.pointed.ensures c.in-Some.number) (kept-in-place memory old base cfa kept c.fits.ensures c.keep.ensures) c.set.ensures
    c.content_of.ensures)

pub returns-in-None : goal.returns-in-None
returns-in-None g c =
    let old = contents_in c.args.file.now in
    let memory = g.M.Memory.bytes c.args.memory.now in
    let kept = c.args.kept.now in
    let base = contents_in c.keep.new.self in
    subst (λ (p : Option ℕ). HasContents (machine LITTLE_64 old memory) (value c.args.cfa) (abi_rules (abi_of kept p)) base) (sym c.in-None.is)
    (kept-in-place memory old base (value c.args.cfa) kept c.fits.ensures c.keep.ensures)
