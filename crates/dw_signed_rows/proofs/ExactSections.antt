-- In an accepted section the FDE that covers an address says whether the return address is signed there.
use Rattle.std.proofs.Common.{◌≡◌, ℕ, true, false, sym, ap, ◌∙◌, Some, Contains}
use Rattle.std.proofs.lemmas.List.Folds.{Any-from_list_any, list_any_at}
use Rattle.dw_frame.specs.Records.{Cie, Fde}
use Rattle.dw_rows.specs.Section.{Covers, FrameSection, IsChecked, cie_in}
use Rattle.dw_rows.proofs.sections.CheckedSections.{checked-once}
use Rattle.dw_signed_rows.specs.SignedRows.{is_signed_in}
use Rattle.dw_signed_rows.specs.SignedSections.{is_signed_by, is_signed_of}
use Rattle.dw_signed_rows.proofs.Sections.{decide, is_signed_here, signed-by-some}

-- if the return address is signed at an address, an FDE of the section covers the address and says so
record IsSignedBySome (s : FrameSection) (a : ℕ) : Type 0 where
  fde : Fde
  among : Contains s.fdes fde
  covers : Covers fde a
  here : is_signed_here s a fde ≡ true

by-some : (s : FrameSection) → IsChecked s → (a : ℕ) → is_signed_of s a ≡ true → IsSignedBySome s a
by-some s checked a some =
    let (i, f, few, at, here) = Any-from_list_any (is_signed_here s a) s.fdes some in
    record { fde = f; among = (i, few, at); covers = signed-by-some s checked f (i, few, at) a here; here = here }

pub signed-where-covered : (s : FrameSection) (a : ℕ) → IsChecked s → (f : Fde) → Contains s.fdes f → Covers f a
    → (c : Cie) → cie_in s f ≡ Some c → is_signed_of s a ≡ is_signed_in c f a
signed-where-covered s a checked f among covers c cie =
    let by_cie : is_signed_here s a f ≡ is_signed_in c f a = ap (λ o. is_signed_by o f a) cie in
    decide (is_signed_of s a) (is_signed_in c f a)
    (λ some.
    let by = by-some s checked a some in
    let same : f ≡ by.fde = checked-once s checked a f by.fde among by.among covers by.covers in
    sym by_cie ∙ (ap (is_signed_here s a) same ∙ by.here))
    (λ is.
    let (i, few, at) = among in
    list_any_at (is_signed_here s a) s.fdes i f few (ap (is_signed_here s a) at ∙ (by_cie ∙ is)))

pub unsigned-elsewhere : (s : FrameSection) (a : ℕ) → IsChecked s → ((f : Fde) → Contains s.fdes f → ¬ Covers f a)
    → is_signed_of s a ≡ false
unsigned-elsewhere s a checked none = decide (is_signed_of s a) false
    (λ some. let by = by-some s checked a some in absurd (none by.fde by.among by.covers))
    (λ no. absurd cc)
