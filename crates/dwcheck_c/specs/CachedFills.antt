-- Rows that C keeps for walks that recur, and why such a walk ends.
use Rattle.std.specs.Prelude.{◌≡◌, ◌⊎◌, ℕ, false, true, List, None, Option, Some}
use Rattle.dw_bytes.specs.declared.target.Target.{Target}
use Rattle.dw_rules.specs.Rules.{Row}
use Rattle.dw_eh_frame.specs.Records.{EhFde}
use Rattle.dw_c_types.specs.Frames.{stop_number}
use Rattle.dw_unwind.specs.declared.frames.Stop.TheVariants as stops
use Rattle.dw_cached_rows.specs.declared.packed_row.PackedRow.{PackedRow}
use Rattle.dw_cached_rows.specs.declared.packed_row.TheConstants.{R12, R13, R14, R15, RBP, RBX, RETURN_ADDRESS, RSP}
use Rattle.dw_cached_rows.specs.declared.register_place.RegisterPlace.{RegisterPlace}
use Rattle.dw_cached_rows.specs.declared.walk.WalkEnd.{WalkEnd}
use Rattle.dw_cached_rows.specs.declared.walk.WalkEnd.TheVariants as ends
use Rattle.dw_cached_rows.specs.CachedRows.{HasRulesAt, HoldsInSet, is_confirmed}
use Rattle.dw_cached_rows.specs.PackedRows.{little_64}
use Rattle.dwcheck_c.specs.InPlaceLookUps.{HasRow}
use Rattle.dwcheck_c.specs.declared.cached_walks.TheConstants.{MISSING, OTHER}
use Rattle.dwcheck_c.specs.declared.in_place.CHeader.{CHeader}
use Rattle.dwcheck_c.specs.declared.module.CModule.{CModule}

-- C's number for why a walk with cached rows ends
abbrev pub end_number : WalkEnd → ℕ
end_number ends.Full = stop_number stops.Limit
end_number ends.Missing = MISSING
end_number ends.Other = OTHER
end_number ends.ReturnUndefined = stop_number stops.ReturnUndefined
end_number ends.ReturnUnreadable = stop_number stops.ReturnUnreadable

-- C's number says that the walk may go on from its place
abbrev pub GoesOn : ℕ → Type 0
GoesOn stop = (stop ≡ stop_number stops.Limit) ⊎ (stop ≡ MISSING) ⊎ (stop ≡ OTHER)

-- ---- the row that is kept

-- The rows of an FDE can be kept: numbers have 8 bytes, the least significant one first; the frames
-- aren't those of signals; and the return address has the column that x86-64 gives it.
pub record CanBeKept (target : Target) (fde : EhFde) : Type 0 where
  pub target_is : target ≡ little_64
  pub column : fde.cie.cie.return_address_register ≡ RETURN_ADDRESS
  pub called : fde.cie.augmentation.is_signal ≡ false

-- The look-up in place of an address as loaded finds an FDE with this row, which can be kept.
pub record HasUsableRow (m : CModule) (h : CHeader) (address : ℕ) (row : Row) : Type 0 where
  pub target : Target
  pub fde : EhFde
  pub usable : CanBeKept target fde
  pub has : HasRow m h address target fde row

-- The cache has the row of the address now, where walks search for it.
pub record IsFilled (m : CModule) (h : CHeader) (slot address : ℕ) (rows : List PackedRow) : Type 0 where
  pub row : Row
  pub has : HasUsableRow m h address row
  pub held : HoldsInSet rows slot address row

-- A row that the cache has is the one of this address, for this slot, or gives there what that one
-- gives.
pub record IsOfFill (m : CModule) (h : CHeader) (slot address other at : ℕ) (held : Row) : Type 0 where
  pub slot_is : other ≡ slot
  pub address_is : at ≡ address
  pub row : Row
  pub has : HasUsableRow m h address row
  pub rules : HasRulesAt address held row

-- ---- what is kept in the end

-- what a look-up in place of an address finds in the module with a slot: a row that can be kept
abbrev pub FindsIn : (ℕ → CModule × CHeader) → ℕ → ℕ → Option (Row × ℕ) → Type 0
FindsIn loaded slot address None = ⊥
FindsIn loaded slot address (Some found) =
    HasUsableRow (loaded slot).0 (loaded slot).1 address found.0 × (found.1 ≡ RETURN_ADDRESS)

-- the same in a module whose slot has its bit in the mask
abbrev pub FindsConfirmed : (ℕ → CModule × CHeader) → ℕ → ℕ → Option (Row × ℕ) → Type 0
FindsConfirmed loaded mask address found = (slot : ℕ) × (is_confirmed mask slot ≡ true) × FindsIn loaded slot address found

-- ---- cursors

-- the contents of the registers that a walk keeps are those of the place
pub record AreIn (place : RegisterPlace) (contents : ℕ → Option ℕ) : Type 0 where
  pub pointer : contents RSP ≡ Some place.stack_pointer
  pub rbx : contents RBX ≡ Some place.rbx
  pub rbp : contents RBP ≡ Some place.rbp
  pub r12 : contents R12 ≡ Some place.r12
  pub r13 : contents R13 ≡ Some place.r13
  pub r14 : contents R14 ≡ Some place.r14
  pub r15 : contents R15 ≡ Some place.r15

-- one of the registers that a walk keeps has no content
abbrev pub LacksOne : (ℕ → Option ℕ) → Type 0
LacksOne contents = (contents RSP ≡ None) ⊎ (contents RBX ≡ None) ⊎ (contents RBP ≡ None) ⊎ (contents R12 ≡ None)
    ⊎ (contents R13 ≡ None) ⊎ (contents R14 ≡ None) ⊎ (contents R15 ≡ None)
