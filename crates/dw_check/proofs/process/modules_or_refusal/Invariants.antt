use Rattle.std.proofs.Common.{◌≡◌, ◌++◌, drop}
use Rattle.dw_check.specs.FileViews.{with_bytes}
use Rattle.dw_check.specs.Runs.{modules_of_sections, modules_refusal}
use Rattle.dw_check.proofs.process.modules_or_refusal.Given as goal

-- the modules checked so far have no fault; they and the remaining modules are all modules
abbrev pub invariant-loop-module : goal.invariant-loop-module
invariant-loop-module l = record {
  checked : l.checked.items ++ modules_of_sections l.target (with_bytes (drop l.module-index l.modules))
      ≡ modules_of_sections l.target (with_bytes l.modules);
  whole : modules_refusal l.target (with_bytes l.modules)
      ≡ modules_refusal l.target (with_bytes (drop l.module-index l.modules));
}
