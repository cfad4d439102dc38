-- A section whose records are all counted: it has no fault, and the numbers are its own.
use Rattle.std.proofs.Common.{◌≡◌, ℕ, ◌≤◌, Bool, List, [], ◌∷◌, length, map, None, refl, sym, ap, subst, ◌∙◌, arith}
use Rattle.std.specs.List.{flat_map}
use Rattle.std.proofs.lemmas.List.{length-append, length-map}
use Rattle.dw_bytes.specs.Answers.{values_in}
use Rattle.dw_bytes.specs.declared.target.Target.{Target}
use Rattle.dw_frame.specs.Records.{Cie, Fde, cies_among, fdes_among}
use Rattle.dw_frame.specs.Views.{cie_of}
use Rattle.dw_rules.specs.Expressions.{cie_expressions, fde_expressions}
use Rattle.dw_rules.specs.ProgramState.{ProgramState}
use Rattle.dw_rows.specs.Section.{frame_by, parts_fault}
use Rattle.dw_eh_frame.specs.declared.pointer.Bases.{Bases}
use Rattle.dw_eh_frame.specs.Copies.{distinct}
use Rattle.dw_eh_frame.specs.Records.{all_in_dwarf, eh_records_of}
use Rattle.dw_eh_frame.proofs.Steps.{under-way-first, under-way-cies, under-way-fdes, under-way-placed, under-way-faultless}
use Rattle.dw_eh_rows.specs.declared.tally.Tally.{Tally}
use Rattle.dw_eh_rows.specs.Counting.{IsCounted, IsTally, counts_in, times_in}
use Rattle.dw_eh_rows.specs.Counts.{AreCountsOf}
use Rattle.dw_eh_rows.specs.Section.{eh_frame_of, eh_section_fault}
use Rattle.dw_eh_rows.proofs.Counted.{no-parts}
use Rattle.dw_eh_rows.proofs.NoCopies.{CopyLaws, no-copies}

pub counted-first : (a : Bool) (bases : Bases) (target : Target) (section : List ℕ) (t : Tally) (context : ProgramState) → IsTally [] [] t
    → t.place ≡ None → IsCounted a bases target section 0 t context
counted-first a bases target section t context tally place = record {
  fdes = [];
  way = under-way-first a bases target section (map cie_of t.cies.items) [] tally.cies_are refl;
  tally = subst (λ (l : List Cie). IsTally l [] t) (sym tally.cies_are) tally;
  ready = rw place tt;
}

-- ---- the numbers

mapped-count : {X A B : Type 0} (change : A → B) (rows : X → List A) (xs : List X)
    → length (flat_map (λ x. map change (rows x)) xs) ≡ length (flat_map rows xs)
mapped-count change rows [] = refl
mapped-count change rows (x ∷ xs) = omega (
  arith,
  length-append (map change (rows x)) (flat_map (λ y. map change (rows y)) xs),
  length-append (rows x) (flat_map rows xs),
  length-map (rows x) change,
  mapped-count change rows xs,
)

counts-of : (target : Target) (section : List ℕ) (fdes : List Fde) (t : Tally) → IsTally (map cie_of t.cies.items) fdes t
    → AreCountsOf (frame_by target section (map cie_of t.cies.items) fdes) (counts_in t)
counts-of target section fdes t tally = record {
  cies = sym (length-map t.cies.items cie_of);
  fdes = tally.fde_count;
  rows = tally.row_count ∙ sym (mapped-count _ _ fdes);
  expressions = tally.expression_count
      ∙ sym (length-append (cie_expressions (map cie_of t.cies.items)) (fde_expressions fdes));
}

-- ---- the end of a section

-- The records that were read are all kept.
record IsWhole (a : Bool) (bases : Bases) (target : Target) (section : List ℕ) (t : Tally) (fdes : List Fde) : Type 0 where
  cies_are : map cie_of t.cies.items ≡ cies_among (distinct (all_in_dwarf (values_in (eh_records_of a bases target section))))
  fdes_are : fdes ≡ fdes_among (distinct (all_in_dwarf (values_in (eh_records_of a bases target section))))
  none : parts_fault (map cie_of t.cies.items) fdes ≡ None

whole : CopyLaws → (a : Bool) (bases : Bases) (target : Target) (section : List ℕ) (at : ℕ) (t : Tally) (context : ProgramState)
    → (so_far : IsCounted a bases target section at t context) → length section ≤ at
    → ((base address : ℕ) → times_in base address t.ranges.items ≤ 1) → IsWhole a bases target section t so_far.fdes
whole laws a bases target section at t context so_far end once =
    let cies = map cie_of t.cies.items in
    let records = all_in_dwarf (values_in (eh_records_of a bases target section)) in
    let tally = so_far.tally in
    let cies_are = under-way-cies a bases target section at cies so_far.fdes so_far.way end in
    let fdes_are = under-way-fdes a bases target section at cies so_far.fdes so_far.way end in
    let placed = under-way-placed a bases target section at cies so_far.fdes so_far.way end in
    let none = no-parts cies so_far.fdes tally.cie_programs tally.fde_programs
    (λ address. omega (arith, tally.covered address, once t.base address)) in
    let read : parts_fault (cies_among records) (fdes_among records) ≡ None = rw (cies_are, fdes_are) at none in
    let same = no-copies laws target 0 (length section) records placed read in
    record { cies_are = cies_are ∙ ap cies_among (sym same); fdes_are = fdes_are ∙ ap fdes_among (sym same); none = none }

pub whole-faultless : CopyLaws → (a : Bool) (bases : Bases) (target : Target) (section : List ℕ) (at : ℕ) (t : Tally) (context : ProgramState)
    → IsCounted a bases target section at t context → length section ≤ at
    → ((base address : ℕ) → times_in base address t.ranges.items ≤ 1) → eh_section_fault a bases target section ≡ None
unfolding eh_section_fault
whole-faultless laws a bases target section at t context so_far end once =
    let w = whole laws a bases target section at t context so_far end once in
    rw (under-way-faultless a bases target section at (map cie_of t.cies.items) so_far.fdes so_far.way end)
    (subst (λ (l : List Cie). parts_fault l (fdes_among (distinct (all_in_dwarf (values_in (eh_records_of a bases target section))))) ≡ None) w.cies_are
    (subst (λ (l : List Fde). parts_fault (map cie_of t.cies.items) l ≡ None) w.fdes_are w.none))

pub whole-counts : CopyLaws → (a : Bool) (bases : Bases) (target : Target) (section : List ℕ) (at : ℕ) (t : Tally) (context : ProgramState)
    → IsCounted a bases target section at t context → length section ≤ at
    → ((base address : ℕ) → times_in base address t.ranges.items ≤ 1) → AreCountsOf (eh_frame_of a bases target section) (counts_in t)
whole-counts laws a bases target section at t context so_far end once =
    let w = whole laws a bases target section at t context so_far end once in
    subst (λ (l : List Cie). AreCountsOf (frame_by target section l (fdes_among (distinct (all_in_dwarf (values_in (eh_records_of a bases target section))))))
    (counts_in t)) w.cies_are
    (subst (λ (l : List Fde). AreCountsOf (frame_by target section (map cie_of t.cies.items) l) (counts_in t)) w.fdes_are
    (counts-of target section so_far.fdes t so_far.tally))
