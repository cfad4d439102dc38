-- The name of each kind of fault.
use Rattle.std.specs.Prelude.{ℕ, List, codes}
use Rattle.dw_bytes.specs.declared.fault.FaultKind.{FaultKind}
use Rattle.dw_bytes.specs.declared.fault.FaultKind.TheVariants.{Truncated, LebRange, ReservedLength, Version, Augmentation, AddressSize}
use Rattle.dw_bytes.specs.declared.fault.FaultKind.TheVariants.{SegmentSize, NoSuchCie, RegisterNumber, RangePastTop, UnknownInstruction}
use Rattle.dw_bytes.specs.declared.fault.FaultKind.TheVariants.{NotInCie, LocationBack, LocationPastEnd, RestoreWithoutRemember}
use Rattle.dw_bytes.specs.declared.fault.FaultKind.TheVariants.{Unrestored, RememberTooDeep, CfaNotRegister, OffsetRange, TooManyRules}
use Rattle.dw_bytes.specs.declared.fault.FaultKind.TheVariants.{NoCfa, Overlap, UnknownOperation, NotInFrame, BadSize, Backward}
use Rattle.dw_bytes.specs.declared.fault.FaultKind.TheVariants.{TargetNotStart, Underflow, TooDeep, Mismatch, Unreachable, NotAlone}
use Rattle.dw_bytes.specs.declared.fault.FaultKind.TheVariants.{EndsEmpty, TooManyPieces, PieceSize, ListVersion, UnknownEntry, BackRange}
use Rattle.dw_bytes.specs.declared.fault.FaultKind.TheVariants.{SecondDefault, NoEnd, BadOffsetEntry, Memory, SectionTooLong, AbiTooLarge}
use Rattle.dw_bytes.specs.declared.fault.FaultKind.TheVariants.{AbiTwice, CertLength, CertState}

abbrev pub name_of : FaultKind → List ℕ
name_of Truncated = codes "Truncated"
name_of LebRange = codes "LebRange"
name_of ReservedLength = codes "ReservedLength"
name_of Version = codes "Version"
name_of Augmentation = codes "Augmentation"
name_of AddressSize = codes "AddressSize"
name_of SegmentSize = codes "SegmentSize"
name_of NoSuchCie = codes "NoSuchCie"
name_of RegisterNumber = codes "RegisterNumber"
name_of RangePastTop = codes "RangePastTop"
name_of UnknownInstruction = codes "UnknownInstruction"
name_of NotInCie = codes "NotInCie"
name_of LocationBack = codes "LocationBack"
name_of LocationPastEnd = codes "LocationPastEnd"
name_of RestoreWithoutRemember = codes "RestoreWithoutRemember"
name_of Unrestored = codes "Unrestored"
name_of RememberTooDeep = codes "RememberTooDeep"
name_of CfaNotRegister = codes "CfaNotRegister"
name_of OffsetRange = codes "OffsetRange"
name_of TooManyRules = codes "TooManyRules"
name_of NoCfa = codes "NoCfa"
name_of Overlap = codes "Overlap"
name_of UnknownOperation = codes "UnknownOperation"
name_of NotInFrame = codes "NotInFrame"
name_of BadSize = codes "BadSize"
name_of Backward = codes "Backward"
name_of TargetNotStart = codes "TargetNotStart"
name_of Underflow = codes "Underflow"
name_of TooDeep = codes "TooDeep"
name_of Mismatch = codes "Mismatch"
name_of Unreachable = codes "Unreachable"
name_of NotAlone = codes "NotAlone"
name_of EndsEmpty = codes "EndsEmpty"
name_of TooManyPieces = codes "TooManyPieces"
name_of PieceSize = codes "PieceSize"
name_of ListVersion = codes "ListVersion"
name_of UnknownEntry = codes "UnknownEntry"
name_of BackRange = codes "BackRange"
name_of SecondDefault = codes "SecondDefault"
name_of NoEnd = codes "NoEnd"
name_of BadOffsetEntry = codes "BadOffsetEntry"
name_of Memory = codes "Memory"
name_of SectionTooLong = codes "SectionTooLong"
name_of AbiTooLarge = codes "AbiTooLarge"
name_of AbiTwice = codes "AbiTwice"
name_of CertLength = codes "CertLength"
name_of CertState = codes "CertState"
