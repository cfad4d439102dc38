-- A request has at most one reply (`IsReply` in specs/Runs.antt).
use Rattle.std.proofs.Common.{◌≡◌, ℕ, List, ◌∷◌, Option, Some, None, Result, Ok, Err, ap, sym, ◌∙◌}
use Rattle.dw_bytes.specs.declared.target.Target.{Target}
use Rattle.dw_bytes.specs.declared.fault.Fault.{Fault}
use Rattle.dw_stack.specs.declared.state.Kind.{Kind}
use Rattle.dw_stack.specs.FirstFault.{expression_fault}
use Rattle.dw_stack.proofs.Named.{none_if_good}
use Rattle.dw_requests.specs.Requests.{Asked}
use Rattle.dw_state.specs.StateFile.{StateFact}
use Rattle.dw_check.specs.Evaluations.{Evaluates}
use Rattle.dw_check.specs.Runs.{Reply, text, refusal, not_hex, bad_line, frame_reply, expression_refusal, IsOutcome, OfSection, OfState}
use Rattle.dw_check.specs.Runs.{OfChecked, OfFrame, OfFurther, OfModules, OfModulesAndState, ShowsCaller, ShowsWalk, IsFound, IsCheckReply}
use Rattle.dw_check.specs.Runs.{abi_given, memory_given, registers_given}
use Rattle.dw_check.specs.Runs.{IsLocsReply, IsEvalReply, IsReplyTo, IsReply}
use Rattle.dw_check.specs.Text.{frame_text, lookup_text}
use Rattle.dw_check.specs.Files.{section_bytes, state_facts, further_modules, loaded_at}
use Rattle.dw_unwind.specs.Modules.{as_linked, over_sections}
use Rattle.dw_bytes.specs.declared.target.AddressSize.{AddressSize}
use Rattle.dw_unwind.specs.declared.modules.Module.{Module}
use Rattle.dw_check.specs.Report.{IsReport}
use Rattle.dw_loclists.specs.Reading.{ListSection}
use Rattle.dw_rows.specs.Section.{FrameSection, frame_of}
use Rattle.dw_rules.specs.Abi.{Abi}
use Rattle.dw_unwind.specs.Walks.{Place, WalkedFrame, Walks}
use Rattle.dw_check.specs.WalkText.{walk_text}
use Rattle.dw_unwind.specs.declared.frames.Stop.{Stop}
use Rattle.dw_unwind.specs.Caller.{Caller}
use Rattle.dw_check.specs.CallerText.{caller_text}
use Rattle.std.specs.Prelude.{slice_get, Bool}
use Rattle.dw_requests.specs.declared.requests.ListLookup.{ListLookup}
use Rattle.dw_requests.specs.declared.requests.Task.{Task}
use Rattle.dw_requests.specs.declared.requests.Task.TheVariants.{Check, Rows, Row, Locs, Eval, Unwind, Backtrace}
use Rattle.dw_check.proofs.Evaluated.{same_text}
use Rattle.dw_sections.proofs.Lengths.{short_fault}
use Rattle.dw_check.proofs.Found.{one_found}
use Rattle.dw_check.proofs.BothSections.{one_of_checked}
use Rattle.dw_check.proofs.Processes.{AreChecked, OneShown, one_of_modules}

not_both : (kind : Kind) (target : Target) (bytes : List ℕ) (gs : List StateFact) (a : List ℕ) (f : Fault)
    → Evaluates kind target bytes gs a → expression_refusal kind target bytes ≡ Some f → ⊥
not_both kind target bytes gs a f h e =
    let none : expression_fault kind target bytes ≡ None = none_if_good kind target bytes h.comes.good in
    let short : expression_refusal kind target bytes ≡ None = short_fault bytes _ h.comes.short ∙ none in
    let both : None ≡ Some f = sym short ∙ e in
    cc

one_outcome : (kind : Kind) (target : Target) (bytes : List ℕ) (gs : List StateFact) (r s : Reply) → IsOutcome kind target bytes gs r
    → IsOutcome kind target bytes gs s → r ≡ s
one_outcome kind target bytes gs (text a) (text b) h k = ap text (same_text kind target bytes gs a b h k)
one_outcome kind target bytes gs (text a) (refusal p f) h k = absurd (not_both kind target bytes gs a f h k.1)
one_outcome kind target bytes gs (refusal p f) (text a) h k = absurd (not_both kind target bytes gs a f k h.1)
one_outcome kind target bytes gs (refusal p f) (refusal q g) h k =
    let both : Some f ≡ Some g = sym h.1 ∙ k.1 in
    let same : f ≡ g = cc in
    ap (λ x. refusal x f) (h.0 ∙ sym k.0) ∙ ap (refusal q) same
one_outcome kind target bytes gs (not_hex n) s h k = absurd h
one_outcome kind target bytes gs (bad_line n) s h k = absurd h
one_outcome kind target bytes gs (text a) (not_hex n) h k = absurd k
one_outcome kind target bytes gs (text a) (bad_line n) h k = absurd k
one_outcome kind target bytes gs (refusal p f) (not_hex n) h k = absurd k
one_outcome kind target bytes gs (refusal p f) (bad_line n) h k = absurd k

one_of_section : (place : ℕ) (found : Option (List ℕ)) (Is : List ℕ → Reply → Type 0)
    → ((bytes : List ℕ) (r s : Reply) → Is bytes r → Is bytes s → r ≡ s)
    → (r s : Reply) → OfSection place found Is r → OfSection place found Is s → r ≡ s
one_of_section place None Is one r s h k = h ∙ sym k
one_of_section place (Some bytes) Is one r s h k = one bytes r s h k

one_of_state : (given : Result (List StateFact) ℕ) (Is : List StateFact → Reply → Type 0)
    → ((gs : List StateFact) (r s : Reply) → Is gs r → Is gs s → r ≡ s)
    → (r s : Reply) → OfState given Is r → OfState given Is s → r ≡ s
one_of_state (Err n) Is one r s h k = h ∙ sym k
one_of_state (Ok gs) Is one r s h k = one gs r s h k

one_of_frame : (text_for : FrameSection → List ℕ) (target : Target) (hex : Bool) (files : List (List ℕ)) (r s : Reply)
    → OfFrame text_for target hex files r → OfFrame text_for target hex files s → r ≡ s
one_of_frame text_for target hex files r s h k =
    one_of_section 0 (section_bytes hex (slice_get files 0)) (λ section r. r ≡ frame_reply text_for target section)
    (λ section r s h k. h ∙ sym k) r s h k

one_eval : (kind : Kind) (target : Target) (hex : Bool) (files : List (List ℕ)) (r s : Reply) → IsEvalReply kind target hex files r
    → IsEvalReply kind target hex files s → r ≡ s
one_eval kind target hex files r s h k =
    one_of_section 0 (section_bytes hex (slice_get files 0))
    (λ bytes. OfState (state_facts target (slice_get files 1)) (IsOutcome kind target bytes))
    (λ bytes. one_of_state (state_facts target (slice_get files 1)) (IsOutcome kind target bytes) (one_outcome kind target bytes)) r s h k

one_locs : (lookup : ListLookup) (target : Target) (hex : Bool) (files : List (List ℕ)) (r s : Reply)
    → IsLocsReply lookup target hex files r → IsLocsReply lookup target hex files s → r ≡ s
one_locs lookup target hex files r s h k =
    one_of_section 0 (section_bytes hex (slice_get files 0))
    (λ section. OfState (state_facts target (slice_get files 1)) (IsFound lookup target section))
    (λ section. one_of_state (state_facts target (slice_get files 1)) (IsFound lookup target section) (one_found lookup target section)) r s
    h k

-- what is assumed of reports: there is at most one on two sections
abbrev OneReport : Type 0
OneReport = (frame : FrameSection) (lists : ListSection) (s t : List ℕ) → IsReport frame lists s → IsReport frame lists t → s ≡ t

-- what is assumed of callers: through checked modules, there is at most one result for an address,
-- a caller or None
abbrev pub OneCaller : Type 0
OneCaller = (sections : List (Module FrameSection)) (abi : Abi) (memory registers : ℕ → Option ℕ) (address : ℕ) (c d : Option Caller)
    → AreChecked sections → over_sections abi memory sections registers address c → over_sections abi memory sections registers address d
    → c ≡ d

-- what is assumed of walks: through checked modules, there is at most one walk from a `Place` with
-- a given limit
abbrev pub OneWalk : Type 0
OneWalk = (sections : List (Module FrameSection)) (abi : Abi) (memory : ℕ → Option ℕ) (first : Place) (limit : ℕ)
    (xs ys : List WalkedFrame) (a b : Stop) → AreChecked sections → Walks (over_sections abi memory sections) first limit xs a
    → Walks (over_sections abi memory sections) first limit ys b → (xs ≡ ys) × (a ≡ b)

pub one_caller_shown : OneCaller → (address : ℕ) → OneShown (ShowsCaller address)
one_caller_shown caller address size facts sections checked s t (c, h, is) (d, k, same) =
    is ∙ ap (caller_text size) (caller sections (abi_given facts) (memory_given facts) (registers_given facts) address c d checked h k)
    ∙ sym same

pub one_walk_shown : OneWalk → (address limit : ℕ) → OneShown (ShowsWalk address limit)
one_walk_shown walk address limit size facts sections checked s t (xs, a, h, is) (ys, b, k, same) =
    let one = walk sections (abi_given facts) (memory_given facts) _ limit xs ys a b checked h k in
    is ∙ ap (λ l. walk_text size l a) one.0 ∙ ap (walk_text size ys) one.1 ∙ sym same

one_of_further : (given : Result (List (Module (List ℕ))) ℕ) (Is : List (Module (List ℕ)) → Reply → Type 0)
    → ((modules : List (Module (List ℕ))) (r s : Reply) → Is modules r → Is modules s → r ≡ s)
    → (r s : Reply) → OfFurther given Is r → OfFurther given Is s → r ≡ s
one_of_further (Err n) Is one r s h k = h ∙ sym k
one_of_further (Ok modules) Is one r s h k = one modules r s h k

one_of_process : (Shows : AddressSize → List StateFact → List (Module FrameSection) → List ℕ → Type 0) → OneShown Shows
    → (load : ℕ) (loads : List ℕ) (target : Target) (hex : Bool) (files : List (List ℕ)) (r s : Reply)
    → OfModulesAndState Shows load loads target hex files r → OfModulesAndState Shows load loads target hex files s → r ≡ s
one_of_process Shows one load loads target hex files r s h k =
    let Is = λ (facts : List StateFact) (modules : List (Module (List ℕ))). OfModules target modules (Shows target.address_size facts) in
    one_of_section 0 (section_bytes hex (slice_get files 0))
    (λ section. OfFurther (further_modules hex files 2 loads)
    (λ others. OfState (state_facts target (slice_get files 1)) (λ facts. Is facts (loaded_at load section ∷ others))))
    (λ section. one_of_further (further_modules hex files 2 loads)
    (λ others. OfState (state_facts target (slice_get files 1)) (λ facts. Is facts (loaded_at load section ∷ others)))
    (λ others. one_of_state (state_facts target (slice_get files 1)) (λ facts. Is facts (loaded_at load section ∷ others))
    (λ facts. one_of_modules target (loaded_at load section ∷ others) (Shows target.address_size facts)
    (one target.address_size facts _)))) r s h k

module _ (report : OneReport) (caller : OneCaller) (walk : OneWalk) where
  one_check : (target : Target) (hex : Bool) (files : List (List ℕ)) (r s : Reply) → IsCheckReply target hex files r
      → IsCheckReply target hex files s → r ≡ s
  one_check target hex files r s h k =
      one_of_section 0 (section_bytes hex (slice_get files 0))
      (λ frame. OfSection 1 (section_bytes hex (slice_get files 1)) (λ lists. OfChecked target frame lists IsReport))
      (λ frame. one_of_section 1 (section_bytes hex (slice_get files 1)) (λ lists. OfChecked target frame lists IsReport)
      (λ lists. one_of_checked target frame lists IsReport
      (λ checked. report (frame_of target frame) (record { target = target; section = lists })))) r s h k

  one_to : (task : Task) (load : ℕ) (loads : List ℕ) (target : Target) (hex : Bool) (files : List (List ℕ)) (r s : Reply)
      → IsReplyTo task load loads target hex files r → IsReplyTo task load loads target hex files s → r ≡ s
  one_to Check load loads target hex files r s h k = one_check target hex files r s h k
  one_to Rows load loads target hex files r s h k = one_of_frame frame_text target hex files r s h k
  one_to (Row address) load loads target hex files r s h k =
      one_of_frame (λ frame. lookup_text frame (as_linked target load address)) target hex files r s h k
  one_to (Locs lookup) load loads target hex files r s h k = one_locs lookup target hex files r s h k
  one_to (Eval kind) load loads target hex files r s h k = one_eval kind target hex files r s h k
  one_to (Unwind address) load loads target hex files r s h k =
      one_of_process (ShowsCaller address) (one_caller_shown caller address) load loads target hex files r s h k
  one_to (Backtrace address limit) load loads target hex files r s h k =
      one_of_process (ShowsWalk address limit) (one_walk_shown walk address limit) load loads target hex files r s h k

  pub one_reply : (asked : Asked) (files : List (List ℕ)) (r s : Reply) → IsReply asked files r → IsReply asked files s → r ≡ s
  one_reply asked files r s h k = one_to asked.task asked.load asked.module_loads asked.target asked.hex files r s h k
