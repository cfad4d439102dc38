use Rattle.std.proofs.Common.{◌∙◌, ℕ, subst, sym}
use Rattle.dw_cached_rows.specs.CachedRows.{Holds}
use Rattle.dwcheck_c.proofs.cached_walks.dwcheck_rows_forget.Goals as goal

pub returns-clause-none : goal.returns-clause-none
returns-clause-none c = λ address row held. c.forget.ensures.none address row
    (subst (λ (slot : ℕ). Holds c.forget.new.self.rows slot address row) (sym c.slot_of.ensures) held)

pub returns-clause-others : goal.returns-clause-others
returns-clause-others c = λ other address row differs. c.forget.ensures.others other address row (λ same. differs (same ∙ c.slot_of.ensures))
