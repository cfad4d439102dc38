-- Each request has a reply (`IsReply` in specs/Runs.antt).
use Rattle.std.proofs.Common.{◌≡◌, ℕ, ◌^◌, ◌<◌, Bool, true, false, List, ◌∷◌, length, Option, Some, None, Result, Ok, Err, refl, nat_lt}
use Rattle.std.proofs.Common.{arith}
use Rattle.std.proofs.lemmas.Bool.Decides.{nat_tests}
use Rattle.dw_bytes.specs.declared.target.Target.{Target}
use Rattle.dw_bytes.specs.declared.fault.Fault.{Fault}
use Rattle.dw_stack.specs.declared.state.Kind.{Kind}
use Rattle.dw_stack.specs.Expressions.{IsGoodExpression}
use Rattle.dw_stack.specs.FirstFault.{expression_fault}
use Rattle.dw_stack.proofs.Named.{good_if_none}
use Rattle.dw_sections.specs.Checked.{too_long}
use Rattle.dw_requests.specs.Requests.{Asked}
use Rattle.dw_state.specs.StateFile.{StateFact}
use Rattle.dw_check.specs.Runs.{Reply, text, refusal, not_hex, bad_line, frame_reply, IsOutcome, OfSection, OfState, OfChecked}
use Rattle.dw_check.specs.Runs.{OfFrame, OfFurther, OfModules, OfModulesAndState, ShowsCaller, ShowsWalk, IsFound, IsCheckReply, IsLocsReply}
use Rattle.dw_check.specs.Runs.{abi_given, memory_given, registers_given}
use Rattle.dw_check.specs.Runs.{IsEvalReply, IsReplyTo, IsReply}
use Rattle.dw_check.specs.Text.{frame_text, lookup_text}
use Rattle.dw_check.specs.Files.{section_bytes, state_facts, further_modules, loaded_at}
use Rattle.dw_unwind.specs.Modules.{as_linked, over_sections}
use Rattle.dw_bytes.specs.declared.target.AddressSize.{AddressSize}
use Rattle.dw_unwind.specs.declared.modules.Module.{Module}
use Rattle.dw_check.specs.Report.{IsReport}
use Rattle.dw_loclists.specs.Reading.{ListSection, IsChecked}
use Rattle.dw_rows.specs.Section.{FrameSection, frame_of}
use Rattle.dw_rules.specs.Abi.{Abi}
use Rattle.dw_unwind.specs.Walks.{Place, WalkedFrame, Walks, first_place}
use Rattle.dw_check.specs.WalkText.{walk_text}
use Rattle.dw_unwind.specs.declared.frames.Stop.{Stop}
use Rattle.dw_unwind.specs.Caller.{Caller}
use Rattle.dw_check.specs.CallerText.{caller_text}
use Rattle.dw_rows.specs.Section as rows
use Rattle.std.specs.Prelude.{slice_get}
use Rattle.dw_sections.specs.declared.section.Section.TheVariants.{Expression}
use Rattle.dw_requests.specs.declared.requests.ListLookup.{ListLookup}
use Rattle.dw_requests.specs.declared.requests.Task.{Task}
use Rattle.dw_requests.specs.declared.requests.Task.TheVariants.{Check, Rows, Row, Locs, Eval, Unwind, Backtrace}
use Rattle.dw_check.proofs.Evaluated.{each_text, refused_short, refused_long}
use Rattle.dw_check.proofs.Found.{each_found}
use Rattle.dw_check.proofs.BothSections.{each_of_checked}
use Rattle.dw_check.proofs.Processes.{AreChecked, each_of_modules}

module _ (kind : Kind) (target : Target) (bytes : List ℕ) (gs : List StateFact) where
  good_outcome : length bytes < 2 ^ 32 → IsGoodExpression kind target bytes → (r : Reply) × IsOutcome kind target bytes gs r
  good_outcome short good = let found = each_text kind target bytes gs short good in (text found.0, found.1)

  by_fault : (f : Option Fault) → expression_fault kind target bytes ≡ f → length bytes < 2 ^ 32
      → (r : Reply) × IsOutcome kind target bytes gs r
  by_fault None e short = good_outcome short (good_if_none kind target bytes e)
  by_fault (Some f) e short = (refusal Expression f, refused_short kind target bytes gs f short e)

  by_length : (b : Bool) → nat_lt (length bytes) (2 ^ 32) ≡ b → (r : Reply) × IsOutcome kind target bytes gs r
  by_length true e = by_fault (expression_fault kind target bytes) refl (grind (arith, nat_tests, e))
  by_length false e = (
    refusal Expression too_long,
    refused_long kind target bytes gs (grind (arith, nat_tests, e)),
  )

  pub each_outcome : (r : Reply) × IsOutcome kind target bytes gs r
  each_outcome = by_length (nat_lt (length bytes) (2 ^ 32)) refl

each_of_section : (place : ℕ) (found : Option (List ℕ)) (Is : List ℕ → Reply → Type 0) → ((bytes : List ℕ) → (r : Reply) × Is bytes r)
    → (r : Reply) × OfSection place found Is r
each_of_section place None Is each = (not_hex place, refl)
each_of_section place (Some bytes) Is each = each bytes

each_of_state : (given : Result (List StateFact) ℕ) (Is : List StateFact → Reply → Type 0) → ((gs : List StateFact) → (r : Reply) × Is gs r)
    → (r : Reply) × OfState given Is r
each_of_state (Err n) Is each = (bad_line n, refl)
each_of_state (Ok gs) Is each = each gs

each_of_frame : (text_for : FrameSection → List ℕ) (target : Target) (hex : Bool) (files : List (List ℕ))
    → (r : Reply) × OfFrame text_for target hex files r
each_of_frame text_for target hex files =
    each_of_section 0 (section_bytes hex (slice_get files 0)) (λ section r. r ≡ frame_reply text_for target section)
    (λ section. (frame_reply text_for target section, refl))

each_eval : (kind : Kind) (target : Target) (hex : Bool) (files : List (List ℕ)) → (r : Reply) × IsEvalReply kind target hex files r
each_eval kind target hex files =
    each_of_section 0 (section_bytes hex (slice_get files 0))
    (λ bytes. OfState (state_facts target (slice_get files 1)) (IsOutcome kind target bytes))
    (λ bytes. each_of_state (state_facts target (slice_get files 1)) (IsOutcome kind target bytes) (each_outcome kind target bytes))

each_locs : (lookup : ListLookup) (target : Target) (hex : Bool) (files : List (List ℕ))
    → (r : Reply) × IsLocsReply lookup target hex files r
each_locs lookup target hex files =
    each_of_section 0 (section_bytes hex (slice_get files 0))
    (λ section. OfState (state_facts target (slice_get files 1)) (IsFound lookup target section))
    (λ section. each_of_state (state_facts target (slice_get files 1)) (IsFound lookup target section) (each_found lookup target section))

-- what is assumed of reports: there is one on any two checked sections
abbrev EachReport : Type 0
EachReport = (frame : FrameSection) (lists : ListSection) → rows.IsChecked frame → IsChecked lists → (t : List ℕ) × IsReport frame lists t

-- what is assumed of unwinding: through checked modules, there is a result for each address, which
-- is a caller or None
abbrev pub EachUnwinding : Type 0
EachUnwinding = (sections : List (Module FrameSection)) (abi : Abi) (memory registers : ℕ → Option ℕ) (address : ℕ)
    → AreChecked sections → (c : Option Caller) × over_sections abi memory sections registers address c

-- what is assumed of walks: through checked modules, there is a walk from each `Place` with each
-- limit
abbrev pub EachWalk : Type 0
EachWalk = (sections : List (Module FrameSection)) (abi : Abi) (memory : ℕ → Option ℕ) (first : Place) (limit : ℕ)
    → AreChecked sections → (xs : List WalkedFrame) × (stop : Stop) × Walks (over_sections abi memory sections) first limit xs stop

-- for any checked modules and any facts of a state file, there is a text for which `Shows` holds
abbrev EachShown : (AddressSize → List StateFact → List (Module FrameSection) → List ℕ → Type 0) → Type 0
EachShown Shows = (size : AddressSize) (facts : List StateFact) (sections : List (Module FrameSection)) → AreChecked sections
    → (t : List ℕ) × Shows size facts sections t

each_of_further : (given : Result (List (Module (List ℕ))) ℕ) (Is : List (Module (List ℕ)) → Reply → Type 0)
    → ((modules : List (Module (List ℕ))) → (r : Reply) × Is modules r) → (r : Reply) × OfFurther given Is r
each_of_further (Err n) Is each = (not_hex n, refl)
each_of_further (Ok modules) Is each = each modules

each_of_process : (Shows : AddressSize → List StateFact → List (Module FrameSection) → List ℕ → Type 0) → EachShown Shows
    → (load : ℕ) (loads : List ℕ) (target : Target) (hex : Bool) (files : List (List ℕ))
    → (r : Reply) × OfModulesAndState Shows load loads target hex files r
each_of_process Shows each load loads target hex files =
    let Is = λ (facts : List StateFact) (modules : List (Module (List ℕ))). OfModules target modules (Shows target.address_size facts) in
    each_of_section 0 (section_bytes hex (slice_get files 0))
    (λ section. OfFurther (further_modules hex files 2 loads)
    (λ others. OfState (state_facts target (slice_get files 1)) (λ facts. Is facts (loaded_at load section ∷ others))))
    (λ section. each_of_further (further_modules hex files 2 loads)
    (λ others. OfState (state_facts target (slice_get files 1)) (λ facts. Is facts (loaded_at load section ∷ others)))
    (λ others. each_of_state (state_facts target (slice_get files 1)) (λ facts. Is facts (loaded_at load section ∷ others))
    (λ facts. each_of_modules target (loaded_at load section ∷ others) (Shows target.address_size facts)
    (each target.address_size facts _))))

module _ (report : EachReport) (unwinding : EachUnwinding) (walk : EachWalk) where
  each_check : (target : Target) (hex : Bool) (files : List (List ℕ)) → (r : Reply) × IsCheckReply target hex files r
  each_check target hex files =
      each_of_section 0 (section_bytes hex (slice_get files 0))
      (λ frame. OfSection 1 (section_bytes hex (slice_get files 1)) (λ lists. OfChecked target frame lists IsReport))
      (λ frame. each_of_section 1 (section_bytes hex (slice_get files 1)) (λ lists. OfChecked target frame lists IsReport)
      (λ lists. each_of_checked target frame lists IsReport
      (λ checked. report (frame_of target frame) (record { target = target; section = lists }) checked.0 checked.1)))

  each_caller : (address : ℕ) → EachShown (ShowsCaller address)
  each_caller address size facts sections checked =
      let found = unwinding sections (abi_given facts) (memory_given facts) (registers_given facts) address checked in
      (caller_text size found.0, (found.0, found.1, refl))

  each_walk : (address limit : ℕ) → EachShown (ShowsWalk address limit)
  each_walk address limit size facts sections checked =
      let found = walk sections (abi_given facts) (memory_given facts) (first_place address (registers_given facts)) limit checked in
      (walk_text size found.0 found.1, (found.0, found.1, found.2, refl))

  each_to : (task : Task) (load : ℕ) (loads : List ℕ) (target : Target) (hex : Bool) (files : List (List ℕ))
      → (r : Reply) × IsReplyTo task load loads target hex files r
  each_to Check load loads target hex files = each_check target hex files
  each_to Rows load loads target hex files = each_of_frame frame_text target hex files
  each_to (Row address) load loads target hex files =
      each_of_frame (λ frame. lookup_text frame (as_linked target load address)) target hex files
  each_to (Locs lookup) load loads target hex files = each_locs lookup target hex files
  each_to (Eval kind) load loads target hex files = each_eval kind target hex files
  each_to (Unwind address) load loads target hex files =
      each_of_process (ShowsCaller address) (each_caller address) load loads target hex files
  each_to (Backtrace address limit) load loads target hex files =
      each_of_process (ShowsWalk address limit) (each_walk address limit) load loads target hex files

  pub each_reply : (asked : Asked) (files : List (List ℕ)) → (r : Reply) × IsReply asked files r
  each_reply asked files = each_to asked.task asked.load asked.module_loads asked.target asked.hex files
