-- What values of the code's types stand for in the specifications.
use Rattle.std.specs.Prelude.{◌≡◌, ℕ, Bool, List, Ok}
use Rattle.dw_bytes.specs.declared.target.Target.{Target}
use Rattle.dw_frame.specs.declared.entry.FrameDescriptionEntry as declared_entry
use Rattle.dw_frame.specs.Bounds.{IsSoundCie, IsSoundFde}
use Rattle.dw_frame.specs.Headers.{header_of}
use Rattle.dw_frame.specs.Views.{cie_of, fde_of}
use Rattle.dw_eh_frame.specs.declared.head.EhCieHead as declared
use Rattle.dw_eh_frame.specs.declared.record.EhCie as declared_cie
use Rattle.dw_eh_frame.specs.declared.record.EhFde as declared_fde
use Rattle.dw_eh_frame.specs.declared.record.EhRecord as declared_record
use Rattle.dw_eh_frame.specs.declared.record.EhRecord.TheVariants as records
use Rattle.dw_eh_frame.specs.Records.{EhCieHead, EhCie, EhFde, EhRecord, eh_cie, eh_fde, eh_nothing, eh_cie_at}

abbrev pub head_of : declared.EhCieHead → EhCieHead
head_of h = record { numbers = header_of h.factors; augmentation = h.augmentation }

abbrev pub eh_cie_of : declared_cie.EhCie → EhCie
eh_cie_of c = record { cie = cie_of c.cie; augmentation = c.augmentation }

abbrev pub eh_fde_of : declared_fde.EhFde → EhFde
eh_fde_of f = record { fde = fde_of f.fde; cie = eh_cie_of f.cie }

-- an FDE with its CIE
abbrev pub fde_with_cie : declared_cie.EhCie → declared_entry.FrameDescriptionEntry → EhFde
fde_with_cie c f = record { fde = fde_of f; cie = eh_cie_of c }

abbrev pub eh_record_of : declared_record.EhRecord → EhRecord
eh_record_of (records.Cie c) = eh_cie (eh_cie_of c)
eh_record_of (records.Fde f) = eh_fde (eh_fde_of f)
eh_record_of (records.Nothing at) = eh_nothing at

-- ---- what holds of the values that are read

-- a CIE of the section: what is read at its offset
abbrev pub IsCieOf : Bool → Target → List ℕ → declared_cie.EhCie → Type 0
IsCieOf is_aarch64 target section c = eh_cie_at is_aarch64 target section c.cie.offset ≡ Ok (eh_cie_of c)

-- A record that was read at the offset `at`, where the next one begins at the offset `next`: it is
-- sound, and its program ends by there.
abbrev pub LiesAt : Target → ℕ → ℕ → EhRecord → Type 0
LiesAt target at next (eh_cie e) = (e.cie.offset ≡ at) × IsSoundCie target next e.cie
LiesAt target at next (eh_fde e) = (e.fde.offset ≡ at) × IsSoundFde target next e.fde
LiesAt target at next (eh_nothing n) = n ≡ at

-- the CIE that was read, or the CIE of the FDE, is one of the section; the FDE points to it
abbrev pub HasCieOf : Bool → Target → List ℕ → declared_record.EhRecord → Type 0
HasCieOf is_aarch64 target section (records.Cie c) = IsCieOf is_aarch64 target section c
HasCieOf is_aarch64 target section (records.Fde f) = IsCieOf is_aarch64 target section f.cie × (f.fde.cie_pointer ≡ f.cie.cie.offset)
HasCieOf is_aarch64 target section (records.Nothing at) = Unit {0}

-- A CIE is what is read at its own offset, and the CIE of an FDE what is read at the FDE's CIE_pointer.
abbrev pub HasCieAtItsPlace : Bool → Target → List ℕ → EhRecord → Type 0
HasCieAtItsPlace is_aarch64 target section (eh_cie c) = eh_cie_at is_aarch64 target section c.cie.offset ≡ Ok c
HasCieAtItsPlace is_aarch64 target section (eh_fde e) = eh_cie_at is_aarch64 target section e.fde.cie_pointer ≡ Ok e.cie
HasCieAtItsPlace is_aarch64 target section (eh_nothing at) = Unit {0}
