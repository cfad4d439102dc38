use Rattle.std.proofs.Common.{◌≡◌, ◌++◌, map, take}
use Rattle.std.specs.String.{string_bytes}
use Rattle.dw_requests.proofs.arguments.with_module_files.Given as goal

-- the files of the modules visited so far are at the end of the list
abbrev pub invariant-loop-module : goal.invariant-loop-module
invariant-loop-module l =
    map (λ s. string_bytes s) l.files.items
    ≡ map (λ s. string_bytes s) l.fn.files.items ++ map (λ m. m.file) (take l.module-index l.modules)
