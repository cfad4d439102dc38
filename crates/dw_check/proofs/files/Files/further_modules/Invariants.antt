use Rattle.std.proofs.Common.{◌≡◌, ◌+◌, drop, map}
use Rattle.dw_check.specs.FileViews.{with_bytes}
use Rattle.dw_check.specs.Files.{further_modules}
use Rattle.dw_check.proofs.FurtherModules.{joined}
use Rattle.dw_check.proofs.files.Files.further_modules.Given as goal

-- the modules so far, followed by the remaining modules, are all modules
abbrev pub invariant-loop-index : goal.invariant-loop-index
invariant-loop-index l =
    let files = map (λ file. file.items) l.self.contents.now in
    further_modules l.self.hex files 2 l.loads
    ≡ joined (with_bytes l.modules.items) (further_modules l.self.hex files (l.index + 2) (drop l.index l.loads))
