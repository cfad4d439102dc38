-- A loop that parses the values of `--module` one by one.
use Rattle.std.proofs.Common.{◌≡◌, List, [], ◌∷◌, ◌++◌, refl, ap, sym}
use Rattle.std.proofs.lemmas.List.{append_assoc}
use Rattle.std.specs.Prelude.{Option, Some, None, option_map}
use Rattle.dw_requests.specs.NamedModules.{NamedModule}

-- the whole list stays the same if the module m is moved from the front of `rest` to the end of
-- `before`
pub joined : (before : List NamedModule) (m : NamedModule) (rest : Option (List NamedModule))
    → option_map (λ others. before ++ others) (option_map (λ others. m ∷ others) rest)
    ≡ option_map (λ others. (before ++ m ∷ []) ++ others) rest
joined before m None = refl
joined before m (Some others) = ap Some (sym (append_assoc before (m ∷ []) others))
