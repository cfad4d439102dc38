use Rattle.std.proofs.Common.{◌≡◌, ◌∙◌, ◌==◌, ◌<◌, ℕ, List, Option, Some, None, length, sym, ap, subst}
use Rattle.std.specs.List.{list_any, position}
use Rattle.dw_process.specs.declared.loaded_module.LoadedModule.{LoadedModule}
use Rattle.dw_process.specs.Processes.{AreModulesOf, ProcessState, without}
use Rattle.dw_process.proofs.Keeping.{kept_of_less}
use Rattle.dw_process.proofs.Removing.{keeps, has, has_not}
use Rattle.dw_process.proofs.process.Process.remove.Goals as goal

place_in : (id : ℕ) (lent modules : List LoadedModule) (o : Option ℕ) → lent ≡ modules → o ≡ position (λ m. m.id == id) lent
    → position (λ m. m.id == id) modules ≡ o
place_in id lent modules o same is = sym (subst (λ (ms : List LoadedModule). o ≡ position (λ m. m.id == id) ms) same is)

pub invariant_of-self : goal.invariant_of-self
invariant_of-self c =
    let modules = c.self.inside.modules in
    let lt : c.in-Some.index < length modules = subst (λ (l : List LoadedModule). c.in-Some.index < length l) c.as_slice.ensures.modules c.in-Some.ensures.inside in
    subst (AreModulesOf c.self.inside.target c.self.inside.next_id) (sym c.remove.ensures)
    (kept_of_less c.self.inside.target c.self.inside.next_id modules c.in-Some.index lt c.self.invariant)

pub returns-in-Some-clause-found : goal.returns-in-Some-clause-found
returns-in-Some-clause-found c =
    sym (has c.args.id c.in-Some.index c.self.inside.modules
    (place_in c.args.id c.as_slice.result.now c.self.inside.modules (Some c.in-Some.index) c.as_slice.ensures.modules c.in-Some.ensures.place))
    ∙ ap (λ (p : ProcessState). list_any (λ m. m.id == c.args.id) p.modules) c.self.view_is

pub returns-in-None-clause-removed : goal.returns-in-None-clause-removed
returns-in-None-clause-removed c =
    let same = keeps c.args.id c.self.inside.modules
    (place_in c.args.id c.as_slice.result.now c.self.inside.modules None c.as_slice.ensures.modules c.in-None.ensures.place) in
    subst (λ (p : ProcessState). p ≡ record { target = p.target; next_id = p.next_id; modules = without c.args.id p.modules }) c.self.view_is
    (ap (λ (l : List LoadedModule). record { target = c.self.inside.target; next_id = c.self.inside.next_id; modules = l }) same)

pub returns-in-None-clause-found : goal.returns-in-None-clause-found
returns-in-None-clause-found c =
    sym (has_not c.args.id c.self.inside.modules
    (place_in c.args.id c.as_slice.result.now c.self.inside.modules None c.as_slice.ensures.modules c.in-None.ensures.place))
    ∙ ap (λ (p : ProcessState). list_any (λ m. m.id == c.args.id) p.modules) c.self.view_is
