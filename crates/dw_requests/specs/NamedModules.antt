-- Modules as the values of `--module` name them, for example `0x7ffff7fc0000=lib.f`.
use Rattle.std.specs.Prelude.{◌==◌, ℕ, Bool, List, [], ◌∷◌, Option, Some, None, option_map, option_and_then}
use Rattle.std.specs.List.{before_first, after_first}
use Rattle.dw_bytes.specs.declared.target.Target.{Target}
use Rattle.dw_state.specs.Addresses.{address_of}

-- A module's load address, and the name of the file that has its frame section.
pub record NamedModule : Type 0 where
  pub load : ℕ
  pub file : List ℕ

-- the byte is `=`
abbrev pub is_equals_sign : ℕ → Bool
is_equals_sign byte = byte == 61

-- the module with a load address and the name of a file; None if there is no load address or the
-- name is empty
abbrev pub module_with : Option ℕ → List ℕ → Option NamedModule
module_with load [] = None
module_with load (byte ∷ name) = option_map (λ a. record { load = a; file = byte ∷ name }) load

-- the module that a text gives: its load address, `=`, and the name of its file; None if the text
-- has no `=`, the address is malformed or the name is empty
abbrev pub module_of : Target → List ℕ → Option NamedModule
module_of target text = module_with (address_of target (before_first is_equals_sign text)) (after_first is_equals_sign text)

-- the modules that texts give, in order; None if one of the texts is malformed
abbrev pub modules_of : Target → List (List ℕ) → Option (List NamedModule)
modules_of target [] = Some []
modules_of target (text ∷ texts) =
    option_and_then (λ first. option_map (λ others. first ∷ others) (modules_of target texts)) (module_of target text)
