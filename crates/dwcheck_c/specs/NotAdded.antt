-- Why a module isn't added, as the code's `NotAdded` has it.
use Rattle.std.specs.Prelude.{◌≡◌, ◌≢◌, Option}
use Rattle.dw_bytes.specs.declared.target.Target.{Target}
use Rattle.dw_process.specs.Processes.{ProcessState}
use Rattle.dwcheck_c.specs.LoadedModules.{IsModuleRefused, IsRefusedBy, IsTargetFor}
use Rattle.dwcheck_c.specs.declared.module.CModule.{CModule}
use Rattle.dwcheck_c.specs.declared.module.SectionKind.{SectionKind}
use Rattle.dwcheck_c.specs.declared.processes.NotAdded.{NotAdded}
use Rattle.dwcheck_c.specs.declared.processes.NotAdded.TheVariants.{BadTarget, Refused}

-- a module of this target isn't added to an open process: its target is another one, or it is
-- refused
abbrev pub IsNotAddedTo : ProcessState → SectionKind → CModule → Target → NotAdded → Type 0
IsNotAddedTo p kind m target BadTarget = p.target ≢ target
IsNotAddedTo p kind m target (Refused why) = (p.target ≡ target) × IsRefusedBy kind m target p.modules why

-- a module isn't added: its target isn't one, or isn't that of the process, or it is refused
abbrev pub IsNotAdded : CModule → Option ProcessState → NotAdded → Type 0
IsNotAdded m held BadTarget = (target : Target) → ¬ IsTargetFor m held target
IsNotAdded m held (Refused why) = IsModuleRefused m held why
