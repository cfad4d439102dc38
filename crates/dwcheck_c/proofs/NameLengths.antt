-- The lengths of the names of faults.
use Rattle.std.proofs.Common.{◌≤◌, length, lit≤}
use Rattle.dw_bytes.specs.Names.{name_of}
use Rattle.dw_bytes.specs.declared.fault.FaultKind.{FaultKind}
use Rattle.dw_bytes.specs.declared.fault.FaultKind.TheVariants.{Truncated, LebRange, ReservedLength, Version, Augmentation, AddressSize}
use Rattle.dw_bytes.specs.declared.fault.FaultKind.TheVariants.{SegmentSize, NoSuchCie, RegisterNumber, RangePastTop, UnknownInstruction}
use Rattle.dw_bytes.specs.declared.fault.FaultKind.TheVariants.{NotInCie, LocationBack, LocationPastEnd, RestoreWithoutRemember}
use Rattle.dw_bytes.specs.declared.fault.FaultKind.TheVariants.{Unrestored, RememberTooDeep, CfaNotRegister, OffsetRange, TooManyRules}
use Rattle.dw_bytes.specs.declared.fault.FaultKind.TheVariants.{NoCfa, Overlap, UnknownOperation, NotInFrame, BadSize, Backward}
use Rattle.dw_bytes.specs.declared.fault.FaultKind.TheVariants.{TargetNotStart, Underflow, TooDeep, Mismatch, Unreachable, NotAlone}
use Rattle.dw_bytes.specs.declared.fault.FaultKind.TheVariants.{EndsEmpty, TooManyPieces, PieceSize, ListVersion, UnknownEntry, BackRange}
use Rattle.dw_bytes.specs.declared.fault.FaultKind.TheVariants.{SecondDefault, NoEnd, BadOffsetEntry, Memory, SectionTooLong, AbiTooLarge}
use Rattle.dw_bytes.specs.declared.fault.FaultKind.TheVariants.{AbiTwice, CertLength, CertState}

-- the longest name is `RestoreWithoutRemember`, which has 22 letters
pub name_is_short : (kind : FaultKind) → length (name_of kind) ≤ 22
name_is_short Truncated = lit≤ tt
name_is_short LebRange = lit≤ tt
name_is_short ReservedLength = lit≤ tt
name_is_short Version = lit≤ tt
name_is_short Augmentation = lit≤ tt
name_is_short AddressSize = lit≤ tt
name_is_short SegmentSize = lit≤ tt
name_is_short NoSuchCie = lit≤ tt
name_is_short RegisterNumber = lit≤ tt
name_is_short RangePastTop = lit≤ tt
name_is_short UnknownInstruction = lit≤ tt
name_is_short NotInCie = lit≤ tt
name_is_short LocationBack = lit≤ tt
name_is_short LocationPastEnd = lit≤ tt
name_is_short RestoreWithoutRemember = lit≤ tt
name_is_short Unrestored = lit≤ tt
name_is_short RememberTooDeep = lit≤ tt
name_is_short CfaNotRegister = lit≤ tt
name_is_short OffsetRange = lit≤ tt
name_is_short TooManyRules = lit≤ tt
name_is_short NoCfa = lit≤ tt
name_is_short Overlap = lit≤ tt
name_is_short UnknownOperation = lit≤ tt
name_is_short NotInFrame = lit≤ tt
name_is_short BadSize = lit≤ tt
name_is_short Backward = lit≤ tt
name_is_short TargetNotStart = lit≤ tt
name_is_short Underflow = lit≤ tt
name_is_short TooDeep = lit≤ tt
name_is_short Mismatch = lit≤ tt
name_is_short Unreachable = lit≤ tt
name_is_short NotAlone = lit≤ tt
name_is_short EndsEmpty = lit≤ tt
name_is_short TooManyPieces = lit≤ tt
name_is_short PieceSize = lit≤ tt
name_is_short ListVersion = lit≤ tt
name_is_short UnknownEntry = lit≤ tt
name_is_short BackRange = lit≤ tt
name_is_short SecondDefault = lit≤ tt
name_is_short NoEnd = lit≤ tt
name_is_short BadOffsetEntry = lit≤ tt
name_is_short Memory = lit≤ tt
name_is_short SectionTooLong = lit≤ tt
name_is_short AbiTooLarge = lit≤ tt
name_is_short AbiTwice = lit≤ tt
name_is_short CertLength = lit≤ tt
name_is_short CertState = lit≤ tt
