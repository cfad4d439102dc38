-- What the files of a request contain: sections, expressions, state files and modules.
use Rattle.std.specs.Prelude.{◌≡◌, ℕ, suc, ◌==◌, ◌||◌, Bool, not, if◌then◌else◌, List, [], ◌∷◌, filter, Option, Some, None}
use Rattle.std.specs.Prelude.{Result, Ok, Err, slice_get}
use Rattle.std.specs.Result.{result_ok}
use Rattle.hex.specs.Hex.{decode_of}
use Rattle.dw_bytes.specs.declared.target.Target.{Target}
use Rattle.dw_state.specs.StateFile.{StateFact, facts_of_file}
use Rattle.dw_unwind.specs.declared.modules.Module.{Module}

-- a tab, LF, CR or space
abbrev pub is_blank : ℕ → Bool
is_blank b = b == 9 || b == 10 || b == 13 || b == 32

-- the text without its tabs, LFs, CRs and spaces
abbrev pub without_blanks : List ℕ → List ℕ
without_blanks text = filter (λ b. not (is_blank b)) text

-- The bytes of the section or the expression in a file. If `hex` is true, they are decoded from hex
-- text, and None if the file isn't hex text. Otherwise they are the file's bytes. If there is no
-- file, the section is empty.
abbrev pub section_bytes : Bool → Option (List ℕ) → Option (List ℕ)
section_bytes hex None = Some []
section_bytes hex (Some file) = if hex then result_ok (decode_of (without_blanks file)) else Some file

-- what a state file gives, or the number of its first bad line; nothing if there is no file
abbrev pub state_facts : Target → Option (List ℕ) → Result (List StateFact) ℕ
state_facts target None = Ok []
state_facts target (Some text) = facts_of_file target text

-- ---- the modules of a process

-- a module: its load address, and the bytes of its section
abbrev pub loaded_at : ℕ → List ℕ → Module (List ℕ)
loaded_at load section = record { rows = section; load_address = load }

-- The modules `others`, with one more module in front of them. If the section of that module is
-- None, since its file must be hex text and isn't, the error is `place`, the index of the file.
-- Otherwise, if `others` is an error, the result is the same error.
abbrev pub module_before : ℕ → ℕ → Option (List ℕ) → Result (List (Module (List ℕ))) ℕ → Result (List (Module (List ℕ))) ℕ
module_before place load None others = Err place
module_before place load (Some section) (Err n) = Err n
module_before place load (Some section) (Ok others) = Ok (loaded_at load section ∷ others)

-- The modules that `--module` gives. Their load addresses are `loads`, and the first module's file
-- has index `place`. The error is the index of the first file that must be hex text and isn't.
abbrev pub further_modules : Bool → List (List ℕ) → ℕ → List ℕ → Result (List (Module (List ℕ))) ℕ
further_modules hex files place [] = Ok []
further_modules hex files place (load ∷ loads) =
    module_before place load (section_bytes hex (slice_get files place)) (further_modules hex files (suc place) loads)

-- The files of a process give `modules` and `facts`. The first module has its section in the first
-- file, FRAME; the others are the modules of `--module`. The facts are what the second file, the
-- state file, says.
pub record GivesProcess (target : Target) (load : ℕ) (loads : List ℕ) (hex : Bool) (files : List (List ℕ))
    (modules : List (Module (List ℕ))) (facts : List StateFact) : Type 0 where
  pub section : List ℕ
  pub others : List (Module (List ℕ))
  pub section_is : section_bytes hex (slice_get files 0) ≡ Some section
  pub facts_are : state_facts target (slice_get files 1) ≡ Ok facts
  pub others_are : further_modules hex files 2 loads ≡ Ok others
  pub whole : modules ≡ loaded_at load section ∷ others
