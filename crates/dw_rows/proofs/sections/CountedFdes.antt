-- FDEs whose programs were checked before, and have no expressions.
use Rattle.std.proofs.Common.{◌≡◌, ℕ, ◌+◌, ◌<◌, ◌++◌, List, ◌∷◌, length, get_or, drop, map, ap, ◌∙◌, length-append}
use Rattle.std.specs.List.{flat_map}
use Rattle.std.specs.Option.{option_or}
use Rattle.dw_frame.specs.Records.{Cie, Fde}
use Rattle.dw_frame.specs.Views.{fde_of}
use Rattle.dw_frame.specs.declared.entry.FrameDescriptionEntry.{FrameDescriptionEntry}
use Rattle.dw_rules.specs.Expressions.{fde_expressions}
use Rattle.dw_rows.specs.Listing.{IsCounted}
use Rattle.dw_rows.specs.Section.{first_fault, placed_rows, program_fault}
use Rattle.dw_rows.proofs.Faults.{drop-at}

-- what is left to check and to count from an FDE on is what is left after it, and its own rows
pub record IsPassed (cies : List Cie) (fdes next : List Fde) (count : ℕ) : Type 0 where
  pub fault : first_fault (program_fault cies) fdes ≡ first_fault (program_fault cies) next
  pub expressions : fde_expressions fdes ≡ fde_expressions next
  pub rows : length (flat_map (placed_rows cies) fdes) ≡ count + length (flat_map (placed_rows cies) next)

first-passed : (cies : List Cie) (f : Fde) (fdes : List Fde) (count : ℕ) → IsCounted cies f count → IsPassed cies (f ∷ fdes) fdes count
first-passed cies f fdes count h = record {
  fault = ap (λ o. option_or o (first_fault (program_fault cies) fdes)) h.good;
  expressions = ap (λ l. l ++ fde_expressions fdes) h.plain;
  rows = length-append (placed_rows cies f) (flat_map (placed_rows cies) fdes)
      ∙ ap (λ n. n + length (flat_map (placed_rows cies) fdes)) h.rows;
}

pub passed-at : (cies : List Cie) (fdes : List FrameDescriptionEntry) (i : ℕ) (x : FrameDescriptionEntry) (count : ℕ) → i < length fdes
    → get_or fdes i x ≡ x → IsCounted cies (fde_of x) count
    → IsPassed cies (map fde_of (drop i fdes)) (map fde_of (drop (i + 1) fdes)) count
passed-at cies fdes i x count lt is h =
    rw (drop-at fdes i x lt is) (first-passed cies (fde_of x) (map fde_of (drop (i + 1) fdes)) count h)
