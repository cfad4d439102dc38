-- Where return addresses are signed in an accepted section.
use Rattle.std.specs.Prelude.{ℕ, Bool, false, Option, Some, None}
use Rattle.std.specs.List.{list_any}
use Rattle.dw_frame.specs.Records.{Cie, Fde}
use Rattle.dw_rows.specs.Section.{FrameSection, cie_in}
use Rattle.dw_signed_rows.specs.SignedRows.{is_signed_in}

-- whether the address has a row of the FDE in which the return address is signed, if its CIE is given
abbrev pub is_signed_by : Option Cie → Fde → ℕ → Bool
is_signed_by None f a = false
is_signed_by (Some c) f a = is_signed_in c f a

-- Whether the return address is signed in the row of the address a, which is a row of the FDE that
-- covers a. If no FDE covers a, it isn't.
abbrev pub is_signed_of : FrameSection → ℕ → Bool
is_signed_of s a = list_any (λ f. is_signed_by (cie_in s f) f a) s.fdes
