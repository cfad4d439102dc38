-- What `unwind` and `backtrace` write: the reply for the files of a process, and for its modules.
use Rattle.std.proofs.Common.{◌≡◌, ◌∙◌, ℕ, ◌<◌, Bool, List, [], ◌∷◌, ap, sym, subst, refl}
use Rattle.std.specs.Prelude.{All, Option, Some, None, Result, Ok, Err, slice_get}
use Rattle.std.specs.Result.{IsErr, IsErrAnd, IfErr}
use Rattle.std.specs.Option.{option_or}
use Rattle.std.specs.List.{AllByRecursion}
use Rattle.std.proofs.lemmas.List.Elements.{All-from_recursion}
use Rattle.dw_bytes.specs.declared.target.Target.{Target}
use Rattle.dw_bytes.specs.declared.target.AddressSize.{AddressSize}
use Rattle.dw_bytes.specs.declared.fault.Fault.{Fault}
use Rattle.dw_rows.specs.Section as rows
use Rattle.dw_rows.specs.Section.{FrameSection}
use Rattle.dw_rows.proofs.sections.CheckedSections.{accepted as accepted_frame}
use Rattle.dw_check.specs.Files.{GivesProcess, section_bytes, state_facts, further_modules, loaded_at}
use Rattle.dw_check.specs.Runs.{Reply, text, refusal, not_hex, bad_line, accepted_text, frame_refusal, modules_refusal, modules_of_sections}
use Rattle.dw_check.specs.Runs.{OfSection, OfState, OfFurther, OfProcess, IsUnreadProcess, IsBadProcess, OfModules, OfModulesAndState, Goes}
use Rattle.dw_state.specs.StateFile.{StateFact}
use Rattle.dw_check.specs.Stops.{AreBadModules, IsBadSection, IsBadState, IsRefusal, ended_by}
use Rattle.dw_check.specs.WriteResults.{Writes}
use Rattle.dw_unwind.specs.declared.modules.Module.{Module}
use Rattle.dw_check.specs.declared.stop.ReportFault.{ReportFault}
use Rattle.dw_check.specs.declared.stop.RunFault.{RunFault}
use Rattle.dw_check.specs.declared.stop.RunFault.TheVariants.{Refused, BadHex, StateLine, Memory, Output}
use Rattle.dw_sections.specs.declared.section.Section.TheVariants.{Frame}
use Rattle.dw_check.proofs.Growth.{appends_nothing}
use Rattle.dw_sections.proofs.Lengths.{no_fault}
use Rattle.dw_check.proofs.Replies.{front_none, goes_section, goes_state, goes_refusal, goes_text}

-- ---- files that can't be read

-- what holds for an error still holds for the result after `?` has passed the error on
pub err_from : {T : Type 0} (P : RunFault → Type 0) (r : Result T RunFault) (e : RunFault) → IsErr r × IsErrAnd r (λ x. x ≡ e) → P e
    → IfErr r P
err_from P (Ok _) e h p = let f = h.0 in cc
err_from P (Err x) e h p = subst P (sym h.1) p

pub unread_section : (count : ℕ) (found : Option (List ℕ)) (Is : List ℕ → Reply → Type 0) (stop : RunFault)
    → IsBadSection found 0 count stop → IsBadProcess (OfSection 0 found Is) count stop
unread_section count found Is (BadHex n) h =
    (subst (λ k. k < count) (sym h.0) h.1, subst (λ o. OfSection 0 o Is (not_hex n)) (sym h.2) (ap not_hex h.0))
unread_section count found Is Memory h = tt
unread_section count found Is (Refused s f) h = absurd h
unread_section count found Is (StateLine n) h = absurd h
unread_section count found Is Output h = absurd h

pub unread_state : (count : ℕ) (given : Result (List StateFact) ℕ) (Is : List StateFact → Reply → Type 0) (stop : RunFault)
    → IsBadState given stop → IsBadProcess (OfState given Is) count stop
unread_state count given Is (StateLine n) h = subst (λ g. OfState g Is (bad_line n)) (sym h) refl
unread_state count given Is Memory h = tt
unread_state count given Is (Refused s f) h = absurd h
unread_state count given Is (BadHex n) h = absurd h
unread_state count given Is Output h = absurd h

pub unread_modules : (count : ℕ) (modules : Result (List (Module (List ℕ))) ℕ) (Is : List (Module (List ℕ)) → Reply → Type 0)
    (stop : RunFault) → AreBadModules modules count stop → IsBadProcess (OfFurther modules Is) count stop
unread_modules count modules Is (BadHex n) h = (h.1, subst (λ m. OfFurther m Is (not_hex n)) (sym h.0) refl)
unread_modules count modules Is Memory h = tt
unread_modules count modules Is (Refused s f) h = absurd h
unread_modules count modules Is (StateLine n) h = absurd h
unread_modules count modules Is Output h = absurd h

-- if the first file can be read, and `stop` says why the files after it can't, `stop` also says why
-- the files of the process can't be read
pub after_section : (count : ℕ) (found : Option (List ℕ)) (bytes : List ℕ) (Is : List ℕ → Reply → Type 0) (stop : RunFault)
    → found ≡ Some bytes → IsBadProcess (Is bytes) count stop → IsBadProcess (OfSection 0 found Is) count stop
after_section count found bytes Is stop e h = subst (λ o. IsBadProcess (OfSection 0 o Is) count stop) (sym e) h

pub after_modules : (count : ℕ) (given : Result (List (Module (List ℕ))) ℕ) (modules : List (Module (List ℕ)))
    (Is : List (Module (List ℕ)) → Reply → Type 0) (stop : RunFault)
    → given ≡ Ok modules → IsBadProcess (Is modules) count stop → IsBadProcess (OfFurther given Is) count stop
after_modules count given modules Is stop e h = subst (λ m. IsBadProcess (OfFurther m Is) count stop) (sym e) h

-- ---- a reply under a stronger condition is one under a weaker condition

section_more : (place : ℕ) (found : Option (List ℕ)) (A B : List ℕ → Reply → Type 0) → ((bytes : List ℕ) (r : Reply) → A bytes r → B bytes r)
    → (r : Reply) → OfSection place found A r → OfSection place found B r
section_more place None A B more r h = h
section_more place (Some bytes) A B more r h = more bytes r h

pub state_more : (given : Result (List StateFact) ℕ) (A B : List StateFact → Reply → Type 0)
    → ((facts : List StateFact) (r : Reply) → A facts r → B facts r) → (r : Reply) → OfState given A r → OfState given B r
state_more (Err n) A B more r h = h
state_more (Ok facts) A B more r h = more facts r h

further_more : (given : Result (List (Module (List ℕ))) ℕ) (A B : List (Module (List ℕ)) → Reply → Type 0)
    → ((modules : List (Module (List ℕ))) (r : Reply) → A modules r → B modules r) → (r : Reply) → OfFurther given A r → OfFurther given B r
further_more (Err n) A B more r h = h
further_more (Ok modules) A B more r h = more modules r h

module _ (target : Target) (load : ℕ) (loads : List ℕ) (hex : Bool) (files : List (List ℕ)) where
  process_more : (A B : List StateFact → List (Module (List ℕ)) → Reply → Type 0)
      → ((facts : List StateFact) (modules : List (Module (List ℕ))) (r : Reply) → A facts modules r → B facts modules r)
      → (r : Reply) → OfProcess target load loads hex files A r → OfProcess target load loads hex files B r
  process_more A B more =
      section_more 0 (section_bytes hex (slice_get files 0)) _ _
      (λ section. further_more (further_modules hex files 2 loads) _ _
      (λ others. state_more (state_facts target (slice_get files 1)) _ _ (λ facts. more facts (loaded_at load section ∷ others))))

  module _ (count : ℕ) where
    pub goes_unread : (Is : List StateFact → List (Module (List ℕ)) → Reply → Type 0) (a : Option (List ℕ)) (stop : RunFault)
        → IsBadProcess (IsUnreadProcess target load loads hex files) count stop
        → Goes count (OfProcess target load loads hex files Is) a a (Err stop)
    goes_unread Is a (BadHex n) h =
        (h.0, process_more (λ facts modules r. ⊥) Is (λ facts modules r none. absurd none) (not_hex n) h.1, appends_nothing a)
    goes_unread Is a (StateLine n) h =
        (process_more (λ facts modules r. ⊥) Is (λ facts modules r none. absurd none) (bad_line n) h, appends_nothing a)
    goes_unread Is a Memory h = λ reply is. front_none a a (accepted_text reply) (appends_nothing a)
    goes_unread Is a (Refused s f) h = absurd h
    goes_unread Is a Output h = absurd h

    goes_process : (modules : List (Module (List ℕ))) (facts : List StateFact)
        (Is : List StateFact → List (Module (List ℕ)) → Reply → Type 0) (old new : Option (List ℕ)) (r : Result (Unit {0}) RunFault)
        → GivesProcess target load loads hex files modules facts → Goes count (Is facts modules) old new r
        → Goes count (OfProcess target load loads hex files Is) old new r
    goes_process modules facts Is old new r gives h =
        let state = state_facts target (slice_get files 1) in
        let whole = subst (λ m. Goes count (Is facts m) old new r) gives.whole h in
        let stated = goes_state count state facts (λ given. Is given (loaded_at load gives.section ∷ gives.others)) old new r
        gives.facts_are whole in
        goes_section count 0 (section_bytes hex (slice_get files 0)) gives.section
        (λ section. OfFurther (further_modules hex files 2 loads)
        (λ others. OfState state (λ given. Is given (loaded_at load section ∷ others)))) old new r
        gives.section_is
        (subst (λ o. Goes count (OfFurther o (λ others. OfState state (λ given. Is given (loaded_at load gives.section ∷ others)))) old new r)
        (sym gives.others_are) stated)

-- `Goes` holds for a run in which memory ran out before anything was written
pub goes_lacking : (count : ℕ) (Is : Reply → Type 0) (a : Option (List ℕ)) → Goes count Is a a (Err Memory)
goes_lacking count Is a = λ reply is. front_none a a (accepted_text reply) (appends_nothing a)

-- ---- modules

pub neither : (a b : Option Fault) → option_or a b ≡ None → (a ≡ None) × (b ≡ None)
neither None b h = (refl, h)
neither (Some f) b h = absurd (cc)

abbrev pub AreChecked : List (Module FrameSection) → Type 0
AreChecked sections = All (λ m. rows.IsChecked m.rows) sections

module _ (target : Target) where
  each_accepted : (modules : List (Module (List ℕ))) → modules_refusal target modules ≡ None
      → AllByRecursion (λ (m : Module FrameSection). rows.IsChecked m.rows) (modules_of_sections target modules)
  each_accepted [] none = tt
  each_accepted (m ∷ modules) none =
      let both = neither (frame_refusal target m.rows) (modules_refusal target modules) none in
      (accepted_frame target m.rows (no_fault m.rows _ both.0), each_accepted modules both.1)

  pub accepted : (modules : List (Module (List ℕ))) → modules_refusal target modules ≡ None
      → AreChecked (modules_of_sections target modules)
  accepted modules none =
      All-from_recursion (λ (m : Module FrameSection). rows.IsChecked m.rows) (modules_of_sections target modules) (each_accepted modules none)

  module _ (modules : List (Module (List ℕ))) (Shows : List (Module FrameSection) → List ℕ → Type 0) where
    never : (fault : Fault) → modules_refusal target modules ≡ None → modules_refusal target modules ≡ Some fault → ⊥
    never fault none some = let both : None ≡ Some fault = sym none ∙ some in cc

    pub one_of_modules : (AreChecked (modules_of_sections target modules) → (s t : List ℕ) → Shows (modules_of_sections target modules) s
        → Shows (modules_of_sections target modules) t → s ≡ t) → (r s : Reply)
        → OfModules target modules Shows r → OfModules target modules Shows s → r ≡ s
    one_of_modules one (text a) (text b) h k = ap text (one (accepted modules h.0) a b h.1 k.1)
    one_of_modules one (text a) (refusal q g) h k = absurd (never g h.0 k.1)
    one_of_modules one (refusal p f) (text b) h k = absurd (never f k.0 h.1)
    one_of_modules one (refusal p f) (refusal q g) h k =
        let both : Some f ≡ Some g = sym h.1 ∙ k.1 in
        let same : f ≡ g = cc in
        ap (λ x. refusal x f) (h.0 ∙ sym k.0) ∙ ap (refusal q) same
    one_of_modules one (not_hex n) s h k = absurd h
    one_of_modules one (bad_line n) s h k = absurd h
    one_of_modules one (text a) (not_hex n) h k = absurd k
    one_of_modules one (text a) (bad_line n) h k = absurd k
    one_of_modules one (refusal p f) (not_hex n) h k = absurd k
    one_of_modules one (refusal p f) (bad_line n) h k = absurd k

    pub each_of_modules : (AreChecked (modules_of_sections target modules) → (t : List ℕ) × Shows (modules_of_sections target modules) t)
        → (r : Reply) × OfModules target modules Shows r
    each_of_modules some = by (modules_refusal target modules) refl
      where
        by : (first : Option Fault) → modules_refusal target modules ≡ first → (r : Reply) × OfModules target modules Shows r
        by None e = let shown = some (accepted modules e) in (text shown.0, (e, shown.1))
        by (Some fault) e = (refusal Frame fault, (refl, e))

-- for checked modules and the facts of a state file, `Shows` holds for at most one text
abbrev pub OneShown : (AddressSize → List StateFact → List (Module FrameSection) → List ℕ → Type 0) → Type 0
OneShown Shows = (size : AddressSize) (facts : List StateFact) (sections : List (Module FrameSection)) → AreChecked sections
    → (s t : List ℕ) → Shows size facts sections s → Shows size facts sections t → s ≡ t

module _ (Shows : AddressSize → List StateFact → List (Module FrameSection) → List ℕ → Type 0) (target : Target) (load : ℕ)
    (loads : List ℕ) (hex : Bool) (files : List (List ℕ)) (count : ℕ) (modules : List (Module (List ℕ))) (facts : List StateFact)
    (gives : GivesProcess target load loads hex files modules facts) where
  abbrev Is : List StateFact → List (Module (List ℕ)) → Reply → Type 0
  Is given ms = OfModules target ms (Shows target.address_size given)

  pub goes_faulty : (a : Option (List ℕ)) (stop : RunFault) → IsRefusal Frame (modules_refusal target modules) stop
      → Goes count (OfModulesAndState Shows load loads target hex files) a a (Err stop)
  goes_faulty a stop h =
      goes_process target load loads hex files count modules facts Is a a (Err stop) gives
      (goes_refusal count Frame (modules_refusal target modules) (Is facts modules) a stop (λ fault k. (refl, k)) h)

  -- If the modules have no fault and `Shows` holds for one text only, `Goes` holds for a run that
  -- wrote this text, or failed after a beginning of it.
  pub goes_shown : (sections : List (Module FrameSection)) (old new : Option (List ℕ)) (r : Result (Unit {0}) ReportFault)
      (written : List ℕ) → OneShown Shows → modules_refusal target modules ≡ None → sections ≡ modules_of_sections target modules
      → Shows target.address_size facts sections written → Writes old new r written
      → Goes count (OfModulesAndState Shows load loads target hex files) old new (ended_by r)
  goes_shown sections old new r written one none are shows writes =
      let all = subst (λ (s : List (Module FrameSection)). Shows target.address_size facts s written) are shows in
      goes_process target load loads hex files count modules facts Is old new (ended_by r) gives
      (goes_text count (Is facts modules) written old new r (none, all)
      (λ reply i. one_of_modules target modules (Shows target.address_size facts)
      (one target.address_size facts (modules_of_sections target modules)) reply (text written) i (none, all))
      writes)
