-- What is counted, one CIE or FDE after another, and at the end of a section.
use Rattle.std.proofs.Common.{◌≡◌, ℕ, ◌+◌, List, [], ◌∷◌, ◌++◌, length, map, Option, Some, None, refl, sym, ap, subst, ◌∙◌, arith, inl, inr}
use Rattle.std.specs.Prelude.{IfSome, slice_get}
use Rattle.std.proofs.lemmas.List.{length-append}
use Rattle.std.proofs.lemmas.List.Elements.{Contains-push_cases}
use Rattle.std.proofs.lemmas.List.Sums.{sum_by_push}
use Rattle.dw_frame.specs.Records.{Cie, Fde}
use Rattle.dw_frame.specs.Views.{cie_of}
use Rattle.dw_rules.specs.Expressions.{expressions_of}
use Rattle.dw_rules.specs.Initial.{AreLeftBy}
use Rattle.dw_rules.specs.ProgramFault.{cie_fault, fde_fault}
use Rattle.dw_rules.specs.ProgramState.{IsLeftBy}
use Rattle.dw_rules.specs.RuleSet.{StoredRules}
use Rattle.dw_rules.proofs.Initials.{left-at}
use Rattle.dw_rows.specs.AddressIndex.{IsLeftAt}
use Rattle.dw_rows.specs.Section.{cie_at, covers}
use Rattle.dw_rows.specs.UnwindRows.{rows_of}
use Rattle.dw_eh_rows.specs.declared.short_range.ShortRange.{ShortRange}
use Rattle.dw_eh_rows.specs.declared.tally.Tally.{Tally}
use Rattle.dw_eh_rows.specs.Counting.{HasGoodCie, IsTally, one_if, range_covers, times_among, times_in}
use Rattle.dw_eh_rows.proofs.Counted.{has-still, all-rows-still, cie-expressions-more, fde-expressions-more, rows-more}

-- ---- one more CIE

pub tally-cie : (cies : List Cie) (fdes : List Fde) (old new : Tally) (c : Cie) → IsTally cies fdes old
    → map cie_of new.cies.items ≡ map cie_of old.cies.items ++ c ∷ [] → AreLeftBy (map cie_of new.cies.items) new.initial → cie_fault c ≡ None
    → new.expressions ≡ old.expressions + length (expressions_of c.program) → new.ranges ≡ old.ranges → new.base ≡ old.base → new.fdes ≡ old.fdes
    → new.rows ≡ old.rows → IsTally (cies ++ c ∷ []) fdes new
tally-cie cies fdes old new c so_far added left good more ranges base count rows = record {
  cies_are = all;
  left = subst (λ (l : List Cie). AreLeftBy l new.initial) all left;
  cie_programs = λ d among. elim (Contains-push_cases cies c d among) [
    | inl before ↦ so_far.cie_programs d before
    | inr same ↦ subst (λ (e : Cie). cie_fault e ≡ None) same good
  ];
  fde_programs = λ f among. has-still cies c f (so_far.fde_programs f among);
  covered = λ a. rw (ranges, base) (so_far.covered a);
  fde_count = count ∙ so_far.fde_count;
  row_count = rows ∙ (so_far.row_count ∙ sym (all-rows-still cies c fdes so_far.fde_programs));
  expression_count = omega (arith, more, so_far.expression_count, cie-expressions-more cies c);
}
  where
    all : map cie_of new.cies.items ≡ cies ++ c ∷ []
    all = added ∙ ap (λ (l : List Cie). l ++ c ∷ []) so_far.cies_are

-- ---- one more FDE

covered-more : (base a : ℕ) (ranges : List ShortRange) (r : ShortRange) (fdes : List Fde) (f : Fde) → base + r.start ≡ f.initial_location
    → r.count ≡ f.address_range → times_in base a ranges ≡ times_among a fdes
    → times_in base a (ranges ++ r ∷ []) ≡ times_among a (fdes ++ f ∷ [])
covered-more base a ranges r fdes f start count same =
    let one : one_if (range_covers base a r) ≡ one_if (covers a f) = rw (start, count) refl in
    omega (
      arith,
      sum_by_push (λ (s : ShortRange). one_if (range_covers base a s)) ranges r,
      sum_by_push (λ (g : Fde). one_if (covers a g)) fdes f,
      one,
      same,
    )

pub tally-fde : (cies : List Cie) (fdes : List Fde) (old new : Tally) (f : Fde) (c : Cie) (r : ShortRange) → IsTally cies fdes old
    → cie_at cies f.cie_pointer ≡ Some c → fde_fault c f ≡ None → old.base + r.start ≡ f.initial_location → r.count ≡ f.address_range
    → new.cies ≡ old.cies → new.initial ≡ old.initial → new.base ≡ old.base
    → ((base a : ℕ) → times_in base a new.ranges.items ≡ times_in base a (old.ranges.items ++ r ∷ []))
    → new.fdes ≡ old.fdes + 1 → new.rows ≡ old.rows + length (rows_of c f)
    → new.expressions ≡ old.expressions + length (expressions_of f.program) → IsTally cies (fdes ++ f ∷ []) new
tally-fde cies fdes old new f c r so_far found good start count same_cies same_initial same_base ranges one rows more = record {
  cies_are = rw same_cies so_far.cies_are;
  left = rw same_initial so_far.left;
  cie_programs = so_far.cie_programs;
  fde_programs = λ g among. elim (Contains-push_cases fdes f g among) [
    | inl before ↦ so_far.fde_programs g before
    | inr same ↦ subst (HasGoodCie cies) same (record { cie = c; at = found; good = good })
  ];
  covered = λ a. rw same_base (ranges old.base a ∙ covered-more old.base a old.ranges.items r fdes f start count (so_far.covered a));
  fde_count = omega (arith, one, so_far.fde_count, length-append fdes (f ∷ []));
  row_count = omega (arith, rows, so_far.row_count, rows-more cies fdes f c found);
  expression_count = omega (arith, more, so_far.expression_count, fde-expressions-more fdes f);
}

-- ---- the rules of a CIE

pub left-here : (cies : List Cie) (left : List StoredRules) (i : ℕ) (k : StoredRules) → AreLeftBy cies left → slice_get left i ≡ Some k
    → IsLeftAt cies i k
left-here cies left i k all there = go (slice_get cies i) refl
  where
    go : (o : Option Cie) → slice_get cies i ≡ o → IfSome o (λ (c : Cie). IsLeftBy c k)
    go None is = tt
    go (Some c) is = left-at cies left i c k all is there
