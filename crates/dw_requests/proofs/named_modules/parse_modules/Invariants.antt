use Rattle.std.proofs.Common.{◌≡◌, ◌++◌, drop, map}
use Rattle.std.specs.Prelude.{option_map}
use Rattle.dw_requests.specs.NamedModules.{modules_of}
use Rattle.dw_requests.proofs.named_modules.parse_modules.Given as goal

-- the modules so far, followed by the modules of the remaining texts, are all modules
abbrev pub invariant-loop-text : goal.invariant-loop-text
invariant-loop-text l =
    modules_of l.target (map (λ t. t.now) l.texts)
    ≡ option_map (λ rest. l.modules.items ++ rest) (modules_of l.target (map (λ t. t.now) (drop l.text-index l.texts)))
