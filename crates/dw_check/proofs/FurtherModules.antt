-- Loops that read and check the modules of `--module` one by one.
use Rattle.std.proofs.Common.{◌≡◌, ℕ, ◌<◌, List, [], ◌∷◌, ◌++◌, refl, ap, sym, subst, ◌∙◌}
use Rattle.std.proofs.lemmas.List.{append_assoc}
use Rattle.std.specs.Prelude.{Option, Some, None, Result, Ok, Err}
use Rattle.std.specs.Option.{option_or}
use Rattle.dw_bytes.specs.declared.target.Target.{Target}
use Rattle.dw_bytes.specs.declared.fault.Fault.{Fault}
use Rattle.dw_check.specs.Files.{loaded_at, module_before}
use Rattle.dw_check.specs.Runs.{frame_refusal, modules_refusal}
use Rattle.dw_check.specs.Stops.{AreBadModules, IsBadSection}
use Rattle.dw_unwind.specs.declared.modules.Module.{Module}
use Rattle.dw_check.specs.declared.stop.RunFault.{RunFault}
use Rattle.dw_check.specs.declared.stop.RunFault.TheVariants.{Refused, BadHex, StateLine, Memory, Output}

-- the modules that are already read, followed by the others; an error if the others can't be read
abbrev pub joined : List (Module (List ℕ)) → Result (List (Module (List ℕ))) ℕ → Result (List (Module (List ℕ))) ℕ
joined before (Err n) = Err n
joined before (Ok others) = Ok (before ++ others)

-- `joined` gives the same list if a module whose section can be read is moved from the front of
-- `others` to the end of `before`
pub one_more_read : (before : List (Module (List ℕ))) (place load : ℕ) (found : Option (List ℕ)) (section : List ℕ)
    (others : Result (List (Module (List ℕ))) ℕ) → found ≡ Some section
    → joined before (module_before place load found others) ≡ joined (before ++ loaded_at load section ∷ []) others
one_more_read before place load found section (Err n) is = rw is refl
one_more_read before place load found section (Ok others) is = rw is (ap Ok (sym (append_assoc before (loaded_at load section ∷ []) others)))

-- putting a module without a fault in front of others doesn't change their first fault
pub one_more_checked : (target : Target) (m : Module (List ℕ)) (modules : List (Module (List ℕ))) → frame_refusal target m.rows ≡ None
    → modules_refusal target (m ∷ modules) ≡ modules_refusal target modules
one_more_checked target m modules none = ap (λ (f : Option Fault). option_or f (modules_refusal target modules)) none

-- if `stop` says why the section of the next module can't be read, it also says why the whole list
-- of modules can't be read
pub bad_module : (all : Result (List (Module (List ℕ))) ℕ) (before : List (Module (List ℕ))) (place load count : ℕ)
    (found : Option (List ℕ)) (others : Result (List (Module (List ℕ))) ℕ) (stop : RunFault)
    → all ≡ joined before (module_before place load found others) → IsBadSection found place count stop → AreBadModules all count stop
bad_module all before place load count found others (BadHex n) are h = (
  are ∙ ap (λ o. joined before (module_before place load o others)) h.2 ∙ ap Err (sym h.0),
  subst (λ k. k < count) (sym h.0) h.1,
)
bad_module all before place load count found others Memory are h = tt
bad_module all before place load count found others (Refused s f) are h = absurd h
bad_module all before place load count found others (StateLine n) are h = absurd h
bad_module all before place load count found others Output are h = absurd h
