use Rattle.std.proofs.Common.{ℕ, inl, inr, subst, sym}
use Rattle.std.specs.Prelude.{Some}
use Rattle.dw_cached_rows.specs.CachedRows.{HasRulesAt}
use Rattle.dw_cached_rows.proofs.laws.rows_stay_those_of_their_modules.Goals as goal

pub returns : goal.returns
returns g c = λ module_of old new slot address column row is_signal has are only other at held is. elim (only other at held is) [
  | inl before ↦ are other at held before
  | inr kept ↦ (
    row,
    subst (λ (s : ℕ). g.T.UnwindRows.finds (module_of s) at (Some (row, 16))) (sym kept.slot_is)
        (subst (λ (a : ℕ). g.T.UnwindRows.finds (module_of slot) a (Some (row, 16))) (sym kept.address_is)
        (subst (λ (n : ℕ). g.T.UnwindRows.finds (module_of slot) address (Some (row, n))) kept.column_is has)),
    subst (λ (a : ℕ). HasRulesAt a held row) (sym kept.address_is) kept.rules,
  )
]
