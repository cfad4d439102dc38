-- Where records lie in their section, and instructions in their program.
use Rattle.std.specs.Prelude.{◌≤◌, ◌<◌, ◌+◌, ◌≡◌, ℕ, true, List, [], ◌∷◌, length, Result, Ok, Err}
use Rattle.std.specs.List.{AllByRecursion}
use Rattle.dw_bytes.specs.declared.target.Target.{Target}
use Rattle.dw_bytes.specs.declared.fault.Fault.{Fault}
use Rattle.dw_bytes.specs.Operands.{Block}
use Rattle.dw_bytes.specs.Reading.{ReadPosition, section_from}
use Rattle.dw_frame.specs.Dialects.{ProgramPosition}
use Rattle.dw_frame.specs.Instructions.{Instruction}
use Rattle.dw_frame.specs.Records.{is_version, Cie, Fde, Record, cie_record, fde_record}
use Rattle.dw_frame.specs.Sections.{top_of}

-- An instruction begins inside its program. A fault is reported inside the program or at its end.
abbrev pub StandsIn : ProgramPosition → Result (ℕ × Instruction) Fault → Type 0
StandsIn r (Ok item) = (r.position ≤ item.0) × (item.0 < r.position + length r.rest)
StandsIn r (Err fault) = (r.position ≤ fault.at) × (fault.at ≤ r.position + length r.rest)

-- Block b begins after offset `at`, ends at offset `end`, and has this target.
pub record EndsWith (target : Target) (at end : ℕ) (b : Block) : Type 0 where
  pub past : at < b.offset
  pub ends : b.offset + length b.bytes ≡ end
  pub target_is : b.target ≡ target

-- The expression of an instruction, if it has one, begins after the instruction's first byte and
-- ends where the instruction ends.
abbrev pub EndsWithItsBlock : Target → ℕ → ℕ → Instruction → Type 0
EndsWithItsBlock target at end (Instruction.def_cfa_expression b) = EndsWith target at end b
EndsWithItsBlock target at end (Instruction.expression r b) = EndsWith target at end b
EndsWithItsBlock target at end (Instruction.val_expression r b) = EndsWith target at end b
EndsWithItsBlock target at end _ = Unit {0}

-- `after` is what is left to read of the section from offset `after.position` on. That offset is
-- above `at`, and at most the section's length.
pub record IsAfter (target : Target) (section : List ℕ) (at : ℕ) (after : ReadPosition) : Type 0 where
  pub later : at < after.position
  pub inside : after.position ≤ length section
  pub left : after ≡ section_from target section after.position

-- The program of a record lies after the record's offset, inside a section of this size, and has
-- this target.
pub record LiesIn (target : Target) (size offset : ℕ) (program : ProgramPosition) : Type 0 where
  pub begins : offset < program.position
  pub ends : program.position + length program.rest ≤ size
  pub target_is : program.target ≡ target

pub record IsSoundCie (target : Target) (size : ℕ) (c : Cie) : Type 0 where
  pub program : LiesIn target size c.offset c.program
  pub version : is_version c.version ≡ true
  pub return_address_register : c.return_address_register ≤ 65535

-- The CIE_pointer field of an FDE lies between the FDE's offset and its program. The end of the
-- FDE's range is at most the target's highest address.
pub record IsSoundFde (target : Target) (size : ℕ) (f : Fde) : Type 0 where
  pub program : LiesIn target size f.offset f.program
  pub pointer_past : f.offset < f.cie_pointer_offset
  pub pointer_before : f.cie_pointer_offset < f.program.position
  pub range : f.initial_location + f.address_range ≤ top_of target

abbrev pub IsSoundRecord : Target → ℕ → Record → Type 0
IsSoundRecord target size (cie_record c) = IsSoundCie target size c
IsSoundRecord target size (fde_record f) = IsSoundFde target size f

abbrev pub IsSound : Target → ℕ → Result Record Fault → Type 0
IsSound target size (Ok r) = IsSoundRecord target size r
IsSound target size (Err fault) = fault.at ≤ size

abbrev pub offset_of : Record → ℕ
offset_of (cie_record c) = c.offset
offset_of (fde_record f) = f.offset

-- The records lie one after another, between the offsets `at` and `end`: each program is between its
-- record's offset and where the next record may begin, and has this target.
abbrev pub ArePlaced : Target → ℕ → ℕ → List Record → Type 0
ArePlaced target at end [] = at ≤ end
ArePlaced target at end (x ∷ xs) = (next : ℕ) × (at ≤ offset_of x) × IsSoundRecord target next x × ArePlaced target next end xs

-- The items ascend: the number of each item is below the numbers of all items after it.
abbrev pub Ascends : {X : Type 0} → (X → ℕ) → List X → Type 0
Ascends at [] = Unit {0}
Ascends at (x ∷ xs) = AllByRecursion (λ y. at x < at y) xs × Ascends at xs
