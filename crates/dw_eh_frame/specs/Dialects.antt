-- The dialects that the programs of `.eh_frame` are written in.
use Rattle.std.specs.Prelude.{Bool, true, false}
use Rattle.dw_frame.specs.declared.dialect.Dialect.{Dialect}
use Rattle.dw_frame.specs.declared.dialect.Dialect.TheVariants.{EhFrame, EhFrameEncoded, EhFrameAarch64, EhFrameAarch64Encoded}
use Rattle.dw_eh_frame.specs.declared.pointer.PointerFormat.{PointerFormat}
use Rattle.dw_eh_frame.specs.declared.pointer.PointerFormat.TheVariants.{Address}
use Rattle.dw_eh_frame.specs.declared.pointer.PointerBase.{PointerBase}
use Rattle.dw_eh_frame.specs.declared.pointer.PointerBase.TheVariants.{Absolute}
use Rattle.dw_eh_frame.specs.declared.augmentation.Augmentation.{Augmentation}

-- whether addresses are written as in `.debug_frame` (DW_EH_PE_absptr)
abbrev pub is_plain : PointerFormat → PointerBase → Bool
is_plain Address Absolute = true
is_plain _ _ = false

-- by whether the section is for aarch64, and whether addresses are plain
abbrev pub dialect_with : Bool → Bool → Dialect
dialect_with false true = EhFrame
dialect_with false false = EhFrameEncoded
dialect_with true true = EhFrameAarch64
dialect_with true false = EhFrameAarch64Encoded

-- how the instructions of a CIE with this augmentation are read, and those of its FDEs
abbrev pub dialect_for : Bool → Augmentation → Dialect
dialect_for is_aarch64 a = dialect_with is_aarch64 (is_plain a.addresses.format a.addresses.base)
