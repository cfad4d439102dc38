-- What C gets of the records that are left out of a module's section.
use Rattle.std.specs.Prelude.{◌≡◌, ℕ, List, Option, Some, None, true, false, length, map}
use Rattle.dw_bytes.specs.declared.fault.Fault.{Fault}
use Rattle.dw_bytes.specs.declared.target.Target.{Target}
use Rattle.dw_eh_rows.specs.KeptRecords.{kept_of}
use Rattle.dw_eh_rows.specs.declared.kept_records.LeftOutRecord.{LeftOutRecord}
use Rattle.dw_process.specs.EhModules.{IsWholeFault, whole_fault_of}
use Rattle.dw_process.specs.declared.eh_frame.EhSection.{EhSection}
use Rattle.dw_c_types.specs.Faults.{cfault_of}
use Rattle.dw_c_types.specs.Slots.{put_into}
use Rattle.dw_c_types.specs.Targets.{target_by}
use Rattle.dw_c_types.specs.declared.fault.TheConstants.{IN_FRAME}
use Rattle.dwcheck_c.specs.LoadedModules.{eh_section_in, kind_by}
use Rattle.dwcheck_c.specs.declared.left_out.CLeftOut.{CLeftOut}
use Rattle.dwcheck_c.specs.declared.module.CModule.{CModule}
use Rattle.dwcheck_c.specs.declared.module.SectionKind.{SectionKind}
use Rattle.dwcheck_c.specs.declared.module.SectionKind.TheVariants.{DebugFrame, EhFrame, EhFrameAarch64, EhFrameLeavingOut, EhFrameAarch64LeavingOut}

-- the section of which bad records are left out, if the module's kind says so
abbrev pub split_section_by : Option SectionKind → CModule → Option EhSection
split_section_by (Some EhFrameLeavingOut) m = Some (eh_section_in false m)
split_section_by (Some EhFrameAarch64LeavingOut) m = Some (eh_section_in true m)
split_section_by (Some DebugFrame) m = None
split_section_by (Some EhFrame) m = None
split_section_by (Some EhFrameAarch64) m = None
split_section_by None m = None

abbrev pub split_section_in : CModule → Option EhSection
split_section_in m = split_section_by (kind_by m.kind) m

-- the records that are left out, in the order of the section
abbrev pub left_out_of : EhSection → Target → List LeftOutRecord
left_out_of s target = (kept_of s.is_aarch64 s.bases target s.bytes.now).left_out

-- C's struct for one of them
abbrev pub shown_left_out : LeftOutRecord → CLeftOut
shown_left_out r = record { offset = r.offset; fault = cfault_of IN_FRAME r.fault }

-- The section as a whole has no fault. `count` is the number of records that are left out, and C's
-- structs for them are written to the front of the slots, as many as fit. The other slots are
-- unchanged.
pub record AreLeftOut (m : CModule) (old new : List CLeftOut) (count : ℕ) : Type 0 where
  pub target : Target
  pub target_is : target_by m.order m.address_size ≡ Some target
  pub section : EhSection
  pub section_is : split_section_in m ≡ Some section
  pub accepted : whole_fault_of section target ≡ None
  pub counted : count ≡ length (left_out_of section target)
  pub written : new ≡ put_into (map shown_left_out (left_out_of section target)) old

-- the section as a whole has this fault
pub record HasWholeFault (m : CModule) (fault : Fault) : Type 0 where
  pub target : Target
  pub target_is : target_by m.order m.address_size ≡ Some target
  pub section : EhSection
  pub section_is : split_section_in m ≡ Some section
  pub fault_is : IsWholeFault section target fault
