-- Lemmas about modules with one table and with two.
use Rattle.std.proofs.Common.{◌≡◌, ℕ, Bool, true, false, Option, Some, None, refl, sym, subst, ap, ◌∙◌}
use Rattle.std.specs.Prelude.{Contains, IsSome, ◌&&◌}
use Rattle.std.specs.Option.{option_or}
use Rattle.dw_frame.specs.Records.{Fde}
use Rattle.dw_rules.specs.Rules.{Row}
use Rattle.dw_rows.specs.RowLookups.{IsFoundAt}
use Rattle.dw_rows.specs.Section.{Covers, FrameSection}
use Rattle.dw_tables.specs.UnwindTables.{RowTable, row_at}
use Rattle.dw_process.specs.BothSections.{AreTablesOf}
use Rattle.dw_process.specs.Processes.{fallback_row, has_marks_at, have_marks, linked_row}
use Rattle.dw_process.specs.declared.loaded_module.LoadedModule.{LoadedModule}

and_true : (b c : Bool) → c ≡ true → (b && c) ≡ b
and_true true c is = is
and_true false c is = refl

and_false : (b c : Bool) → c ≡ false → (b && c) ≡ false
and_false true c is = is
and_false false c is = refl

-- ---- one table

or_none : (o : Option (Row × ℕ)) → option_or o None ≡ o
or_none None = refl
or_none (Some x) = refl

pub one_row : (m : LoadedModule) (a : ℕ) → m.fallback ≡ None → linked_row m a ≡ row_at m.rows a
one_row m a alone =
    ap (λ (o : Option RowTable). option_or (row_at m.rows a) (fallback_row o a)) alone ∙ or_none (row_at m.rows a)

pub one_marks : (m : LoadedModule) (a : ℕ) (b : Bool) → m.fallback ≡ None → (b && has_marks_at m a) ≡ b
one_marks m a b alone = and_true b (has_marks_at m a) (ap (λ (o : Option RowTable). have_marks o (row_at m.rows a)) alone)

-- ---- two tables

module _ (debug_frame eh_frame : FrameSection) (m : LoadedModule) (a : ℕ) (tables : AreTablesOf debug_frame eh_frame m) where
  -- an FDE of the first section covers the address
  module _ (f : Fde) (among : Contains debug_frame.fdes f) (covers : Covers f a) where
    found_or : (o p : Option (Row × ℕ)) → IsFoundAt debug_frame a o → IsFoundAt debug_frame a (option_or o p) × IsSome (option_or o p)
    found_or None p none = absurd (none f among covers)
    found_or (Some x) p found = (found, refl)

    pub first_row_found : IsFoundAt debug_frame a (linked_row m a) × IsSome (linked_row m a)
    first_row_found = found_or (row_at m.rows a) (fallback_row m.fallback a) (tables.first.row a)

    unmarked : (o : Option (Row × ℕ)) → IsFoundAt debug_frame a o → have_marks (Some tables.second) o ≡ false
    unmarked None none = absurd (none f among covers)
    unmarked (Some x) found = refl

    pub no_marks_there : (b : Bool) → (b && has_marks_at m a) ≡ false
    no_marks_there b = and_false b (has_marks_at m a)
        (ap (λ (o : Option RowTable). have_marks o (row_at m.rows a)) tables.second_is ∙ unmarked (row_at m.rows a) (tables.first.row a))

  -- no FDE of the first section covers the address
  module _ (none : IsFoundAt debug_frame a None) where
    no_row : (o : Option (Row × ℕ)) → IsFoundAt debug_frame a o → ((x : Row × ℕ) → IsFoundAt debug_frame a (Some x) → ⊥) → o ≡ None
    no_row None found not = refl
    no_row (Some x) found not = absurd (not x found)

    -- a register of a covering FDE is that of some FDE that covers the address
    covered : (x : Row × ℕ) → IsFoundAt debug_frame a (Some x) → ⊥
    covered x found = none found.1.0 found.1.2.0 found.1.2.1

    first_none : row_at m.rows a ≡ None
    first_none = no_row (row_at m.rows a) (tables.first.row a) covered

    pub second_row_found : IsFoundAt eh_frame a (linked_row m a)
    second_row_found =
        subst (λ (o : Option (Row × ℕ)). IsFoundAt eh_frame a (option_or o (fallback_row m.fallback a))) (sym first_none)
        (subst (λ (o : Option RowTable). IsFoundAt eh_frame a (fallback_row o a)) (sym tables.second_is) (tables.stored.row a))

    pub marks_there : (b : Bool) → (b && has_marks_at m a) ≡ b
    marks_there b = and_true b (has_marks_at m a)
        (ap (λ (o : Option RowTable). have_marks o (row_at m.rows a)) tables.second_is
        ∙ ap (λ (o : Option (Row × ℕ)). have_marks (Some tables.second) o) first_none)
