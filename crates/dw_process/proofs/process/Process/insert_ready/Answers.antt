use Rattle.std.proofs.Common.{◌≡◌, ◌∙◌, ◌+◌, ℕ, ap, sym, subst, refl, arith}
use Rattle.std.specs.List.{insert}
use Rattle.std.specs.Prelude.{IfSome}
use Rattle.dw_bytes.specs.declared.target.Target.{Target}
use Rattle.dw_process.specs.declared.loaded_module.LoadedModule.{LoadedModule}
use Rattle.dw_process.specs.Processes.{AreModulesOf, IsInserted, ProcessState, module_of}
use Rattle.dw_process.specs.Marks.{Marks, marks_of}
use Rattle.dw_process.specs.ModuleMaps.{AreInOrder, IsPlaceFor}
use Rattle.dw_process.proofs.Keeping.{kept_of_more}
use Rattle.dw_process.proofs.Placing.{order_of_more}
use Rattle.dw_process.proofs.process.Process.insert_ready.Goals as goal

pub invariant_of-self : goal.invariant_of-self
invariant_of-self c =
    let target = c.self.inside.target in
    let modules = c.self.inside.modules in
    let next_id = c.self.inside.next_id in
    let ready = c.args.ready in
    let m : LoadedModule = module_of ready c.in_ok-marks.marks c.args.load_address c.args.cookie next_id in
    let next_is : next_id + 1 ≡ c.in_ok-next_id.next_id = omega arith in
    let target_is : target ≡ c.args.self.now.target = ap (λ (p : ProcessState). p.target) c.self.view_is in
    let place : IsPlaceFor ready.range modules ready.place = subst (λ (p : ProcessState). IsPlaceFor ready.range p.modules ready.place) (sym c.self.view_is) c.requires.place in
    subst (AreModulesOf target c.in_ok-next_id.next_id) (sym c.in-Ok.ensures.inserted)
    (subst (λ (n : ℕ). AreModulesOf target n (insert modules ready.place m)) next_is
    (kept_of_more target next_id modules ready.place m refl (c.requires.rows ∙ sym target_is)
    (subst (λ (t : Target). IfSome ready.fallback (λ table. table.target ≡ t)) (sym target_is) c.requires.fallback)
    c.requires.proper place c.self.invariant))

pub returns-in-Ok-clause-inserted : goal.returns-in-Ok-clause-inserted
returns-in-Ok-clause-inserted c =
    let target = c.self.inside.target in
    let modules = c.self.inside.modules in
    let next_id = c.self.inside.next_id in
    let ready = c.args.ready in
    let m : LoadedModule = module_of ready c.in_ok-marks.marks c.args.load_address c.args.cookie next_id in
    let old : ProcessState = record { target = target; next_id = next_id; modules = modules } in
    let new : ProcessState = record { target = target; next_id = c.in_ok-next_id.next_id; modules = c.insert.new.self } in
    let next_is : c.in_ok-next_id.next_id ≡ next_id + 1 = omega arith in
    let place : IsPlaceFor ready.range modules ready.place = subst (λ (p : ProcessState). IsPlaceFor ready.range p.modules ready.place) (sym c.self.view_is) c.requires.place in
    let inserted : IsInserted m (marks_of c.args.marks) c.args.load_address c.args.cookie old next_id new = record {
      marks_are = c.in_ok-marks.ensures;
      load_address_is = refl;
      cookie_is = refl;
      id_is = refl;
      place = ready.place;
      place_is = place.bound;
      modules = c.in-Ok.ensures.inserted;
      order = subst AreInOrder (sym c.in-Ok.ensures.inserted) (order_of_more modules ready.place m c.requires.proper place c.self.invariant.order);
      id_new = refl;
      next = next_is;
      target = refl;
    } in
    subst (λ (p : ProcessState). IsInserted (module_of ready (marks_of c.args.marks) c.args.load_address c.args.cookie next_id) (marks_of c.args.marks)
    c.args.load_address c.args.cookie p next_id new) c.self.view_is
    (subst (λ (marks : Marks). IsInserted (module_of ready marks c.args.load_address c.args.cookie next_id) (marks_of c.args.marks)
    c.args.load_address c.args.cookie old next_id new) c.in_ok-marks.ensures inserted)
