-- FDEs whose rows are counted while a table is filled.
use Rattle.std.proofs.Common.{◌≡◌, ◌≢◌, ℕ, ◌<◌, List, length, get_or, None, Some, sym, ap, subst, ◌∙◌, arith, inl, inr, map, refl, ◌++◌, take}
use Rattle.std.proofs.Math.Seq.{take-append_seam}
use Rattle.std.specs.Prelude.{All, option_map, slice_get}
use Rattle.std.proofs.lemmas.List.{length-map}
use Rattle.std.proofs.lemmas.Option.{slice_get-map, slice_get_read}
use Rattle.dw_frame.specs.Views.{fde_of}
use Rattle.dw_frame.specs.declared.entry.FrameDescriptionEntry.{FrameDescriptionEntry}
use Rattle.dw_rows.specs.AddressIndex.{IsEntry}
use Rattle.dw_rows.specs.declared.index.IndexEntry.{IndexEntry}
use Rattle.std.proofs.lemmas.Bool.{cases_lt}
use Rattle.dw_frame.specs.Records.{Cie, Fde}
use Rattle.dw_rows.specs.Listing.{AreCounted, IsCounted, not_counted}
use Rattle.dw_rows.specs.Section.{FrameSection, IsChecked, program_fault}
use Rattle.dw_rows.proofs.Faults.{none-each}
use Rattle.dw_rows.proofs.sections.Parts.{parts-pass}
use Rattle.dw_tables.specs.CompiledTable.{HasFaulty}

-- the rows of one more FDE are counted
pub counted-more : (cies : List Cie) (fdes : List Fde) (old new : List ℕ) (place count : ℕ) (f : Fde) → AreCounted cies fdes old
    → length new ≡ length old → ((d : ℕ) → place < length old → get_or new place d ≡ count)
    → ((k d : ℕ) → k ≢ place → get_or new k d ≡ get_or old k d) → slice_get fdes place ≡ Some f
    → (count ≢ not_counted → IsCounted cies f count) → AreCounted cies fdes new
counted-more cies fdes old new place count f before long here others at this k d g lt found some = elim (cases_lt k place) [
  | inl low ↦ kept (λ same. omega (arith, low, same))
  | inr le ↦ elim (cases_lt place k) [
    | inl high ↦ kept (λ same. omega (arith, high, same))
    | inr ge ↦
        let same : place ≡ k = omega (arith, le, ge) in
        let one : Some f ≡ Some g = sym at ∙ ap (slice_get fdes) same ∙ found in
        let f_is : f ≡ g = cc in
        let count_is : get_or new k d ≡ count = ap (λ n. get_or new n d) (sym same) ∙ here d (omega (arith, lt, same, long)) in
        subst (λ n. IsCounted cies g n) (sym count_is)
        (subst (λ x. IsCounted cies x count) f_is (this (λ e. some (count_is ∙ e))))
  ]
]
  where
    kept : k ≢ place → IsCounted cies g (get_or new k d)
    kept other =
        let is = others k d other in
        subst (λ n. IsCounted cies g n) (sym is) (before k d g (omega (arith, lt, long)) found (λ e. some (is ∙ e)))

-- the FDE of an index entry
pub entry-found : (fdes : List FrameDescriptionEntry) (all : List Fde) (index : List IndexEntry) (k : ℕ) (d : IndexEntry)
    (x : FrameDescriptionEntry) → map fde_of fdes ≡ all → All (IsEntry (map fde_of fdes)) index → k < length index
    → x ≡ get_or fdes (get_or index k d).place x → slice_get all (get_or index k d).place ≡ Some (fde_of x)
entry-found fdes all index k d x same each lt is =
    let place = (get_or index k d).place in
    let within = (each k d lt).within in
    let long = length-map fdes fde_of in
    ap (λ (l : List Fde). slice_get l place) (sym same) ∙ slice_get-map fde_of fdes place
    ∙ ap (option_map fde_of) (slice_get_read fdes (length fdes) place x refl (omega (arith, within, long)) is)

-- no program of a checked section has a fault
pub no-faulty : (s : FrameSection) → IsChecked s → HasFaulty s → ⊥
no-faulty s checked h =
    let clean = none-each (program_fault s.cies) s.fdes (parts-pass s.cies s.fdes checked.faultless).fde_programs h.0 h.1 in
    let no : None ≡ Some h.2.0 = sym clean ∙ h.2.1 in cc

-- the first elements of two lists one after another, as many as the first list has
pub taken : (xs ys now : List ℕ) (n : ℕ) → now ≡ take n (xs ++ ys) → length xs ≡ n → now ≡ xs
taken xs ys now n is long = is ∙ ap (λ m. take m (xs ++ ys)) (sym long) ∙ take-append_seam xs ys
