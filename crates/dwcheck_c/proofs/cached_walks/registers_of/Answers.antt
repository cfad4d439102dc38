use Rattle.std.proofs.Common.{◌==◌, ◌∙◌, ℕ, ap, if◌then◌else◌}
use Rattle.std.specs.Prelude.{Option, Some}
use Rattle.dwcheck_c.proofs.cached_walks.registers_of.Goals as goal

pub returns : goal.returns
returns c = λ r.
    let p = c.args.place.now in
    c.set-7.ensures r
    ∙ ap (λ (o : Option ℕ). if 15 == r then Some p.r15 else o) (c.set-6.ensures r
    ∙ ap (λ (o : Option ℕ). if 14 == r then Some p.r14 else o) (c.set-5.ensures r
    ∙ ap (λ (o : Option ℕ). if 13 == r then Some p.r13 else o) (c.set-4.ensures r
    ∙ ap (λ (o : Option ℕ). if 12 == r then Some p.r12 else o) (c.set-3.ensures r
    ∙ ap (λ (o : Option ℕ). if 6 == r then Some p.rbp else o) (c.set-2.ensures r
    ∙ ap (λ (o : Option ℕ). if 3 == r then Some p.rbx else o) (c.set.ensures r
    ∙ ap (λ (o : Option ℕ). if 7 == r then Some p.stack_pointer else o) (c.none-registers.ensures r)))))))
