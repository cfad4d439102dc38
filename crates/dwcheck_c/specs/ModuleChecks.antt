-- When the check of a module's section accepts it, and what C then gets.
use Rattle.std.specs.Prelude.{◌≡◌, Some, None, false, true}
use Rattle.dw_bytes.specs.declared.target.Target.{Target}
use Rattle.dw_rows.specs.Section.{FrameSection, frame_of, section_fault}
use Rattle.dw_process.specs.EhModules.{IsFrameOf, IsKeptFrameOf}
use Rattle.dw_process.specs.declared.eh_frame.EhSection.{EhSection}
use Rattle.dw_c_types.specs.Targets.{target_by}
use Rattle.dwcheck_c.specs.LoadedModules.{eh_section_in, kind_by}
use Rattle.dwcheck_c.specs.Reports.{frame_counts}
use Rattle.dwcheck_c.specs.declared.module.CModule.{CModule}
use Rattle.dwcheck_c.specs.declared.module.SectionKind.{SectionKind}
use Rattle.dwcheck_c.specs.declared.module.SectionKind.TheVariants.{DebugFrame, EhFrame, EhFrameAarch64, EhFrameLeavingOut, EhFrameAarch64LeavingOut}
use Rattle.dwcheck_c.specs.declared.reports.CCounts.{CCounts}

-- A `.debug_frame` section has no fault, and these are the numbers of what it contains.
pub record IsAccepted (m : CModule) (target : Target) (counts : CCounts) : Type 0 where
  pub faultless : section_fault target m.frame.now ≡ None
  pub counted : counts ≡ frame_counts (frame_of target m.frame.now)

-- An `.eh_frame` section has no fault, and these are the numbers of what it contains without exact
-- copies of FDEs (`IsFrameOf`).
pub record IsEhAccepted (s : EhSection) (target : Target) (counts : CCounts) : Type 0 where
  pub frame : FrameSection
  pub is : IsFrameOf s target frame
  pub counted : counts ≡ frame_counts frame

-- The same of what is kept, if the section as a whole has no fault (`IsKeptFrameOf`).
pub record IsAcceptedLeavingOut (s : EhSection) (target : Target) (counts : CCounts) : Type 0 where
  pub frame : FrameSection
  pub is : IsKeptFrameOf s target frame
  pub counted : counts ≡ frame_counts frame

-- the same by the kind of a module's section
abbrev pub AreCountsBy : SectionKind → CModule → Target → CCounts → Type 0
AreCountsBy DebugFrame m target counts = IsAccepted m target counts
AreCountsBy EhFrame m target counts = IsEhAccepted (eh_section_in false m) target counts
AreCountsBy EhFrameAarch64 m target counts = IsEhAccepted (eh_section_in true m) target counts
AreCountsBy EhFrameLeavingOut m target counts = IsAcceptedLeavingOut (eh_section_in false m) target counts
AreCountsBy EhFrameAarch64LeavingOut m target counts = IsAcceptedLeavingOut (eh_section_in true m) target counts

-- the module's section has no fault, and these are the numbers of what it contains
pub record AreCountsOf (m : CModule) (counts : CCounts) : Type 0 where
  pub target : Target
  pub target_is : target_by m.order m.address_size ≡ Some target
  pub kind : SectionKind
  pub kind_is : kind_by m.kind ≡ Some kind
  pub are : AreCountsBy kind m target counts
