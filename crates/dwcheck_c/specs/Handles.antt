-- The process that C owns.
use Rattle.std.specs.Prelude.{[], List, Option, Some, None}
use Rattle.dw_bytes.specs.declared.target.Target.{Target}
use Rattle.dw_process.specs.Processes.{ProcessState, no_modules}
use Rattle.dw_process.specs.declared.loaded_module.LoadedModule.{LoadedModule}
use Rattle.dwcheck_c.specs.declared.handle.CProcess.{CProcess}

-- the process in C's struct; None if it is closed
abbrev pub held_in : CProcess → Option ProcessState
held_in p = p.held.process

-- the modules of a process; a closed process has none
abbrev pub modules_of : Option ProcessState → List LoadedModule
modules_of None = []
modules_of (Some p) = p.modules

-- the process to which a module with this target is added: a closed process is opened first
abbrev pub opened_for : Target → Option ProcessState → ProcessState
opened_for target None = no_modules target
opened_for target (Some p) = p
