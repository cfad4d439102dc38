-- The bytes of a long file after its needed part (`needed_parts`) don't change any reply.
use Rattle.std.proofs.Common.{◌≡◌, ◌⊎◌, ℕ, zero, suc, ◌^◌, ◌<◌, ◌≤◌, ◌↔◌, Bool, true, false, List, [], ◌∷◌, length, take, inl, inr}
use Rattle.std.proofs.Common.{refl, ap, sym, ◌∙◌, subst, arith, take_all, length-take-le}
use Rattle.std.proofs.lemmas.Bool.{cases_lt}
use Rattle.std.specs.Prelude.{◌||◌, if◌then◌else◌, slice_get, Option, Some, None, Result, Ok, Err}
use Rattle.std.specs.Option.{option_or}
use Rattle.dw_bytes.specs.declared.target.Target.{Target}
use Rattle.dw_bytes.specs.declared.fault.Fault.{Fault}
use Rattle.dw_rows.specs.Section.{FrameSection, section_fault, frame_of}
use Rattle.dw_loclists.specs.Reading.{ListSection, lists_fault}
use Rattle.dw_stack.specs.declared.state.Kind.{Kind}
use Rattle.dw_stack.specs.FirstFault.{expression_fault}
use Rattle.dw_sections.specs.Checked.{check_fault, fault_within, length_fault, too_long}
use Rattle.dw_check.specs.Files.{further_modules, loaded_at, module_before, section_bytes, state_facts}
use Rattle.dw_requests.specs.LongFiles.{is_state, needed_length, needed_parts, part_up_to}
use Rattle.dw_unwind.specs.Modules.{as_linked}
use Rattle.dw_bytes.specs.declared.target.AddressSize.{AddressSize}
use Rattle.dw_unwind.specs.declared.modules.Module.{Module}
use Rattle.dw_check.proofs.Processes.{neither}
use Rattle.dw_check.specs.Report.{IsReport}
use Rattle.dw_state.specs.StateFile.{StateFact}
use Rattle.dw_check.specs.Runs.{Reply, text, refusal, not_hex, bad_line, frame_reply, frame_refusal, modules_refusal, text_unless}
use Rattle.dw_check.specs.Runs.{ShowsCaller, ShowsWalk, OfFurther, OfModules, OfModulesAndState, IsOutcome, IsFound, OfChecked, OfSection, OfState}
use Rattle.dw_check.specs.Runs.{IsReplyTo}
use Rattle.dw_check.specs.Text.{frame_text, lookup_text}
use Rattle.dw_requests.specs.declared.requests.ListLookup.{ListLookup}
use Rattle.dw_requests.specs.declared.requests.Task.{Task}
use Rattle.dw_requests.specs.declared.requests.Task.TheVariants.{Check, Rows, Row, Locs, Eval, Unwind, Backtrace}
use Rattle.dw_sections.specs.declared.section.Section.TheVariants as sections
use Rattle.dw_sections.specs.declared.whole_check.CheckFault.{CheckFault}
use Rattle.dw_sections.proofs.Lengths.{short_length, long_length, long_fault}

-- two files have the same bytes, or both are too long
abbrev Alike : List ℕ → List ℕ → Type 0
Alike xs ys = (xs ≡ ys) ⊎ ((2 ^ 32 ≤ length xs) × (2 ^ 32 ≤ length ys))

alike_part : (xs : List ℕ) → Alike xs (take (2 ^ 32) xs)
alike_part xs = elim (cases_lt (length xs) (2 ^ 32)) [
  | inl short ↦ inl (sym (take_all (2 ^ 32) xs (omega (arith, short))))
  | inr long ↦ inr (long, omega (arith, length-take-le (2 ^ 32) xs long))
]

turned : (xs ys : List ℕ) → Alike xs ys → Alike ys xs
turned xs ys (inl same) = inl (sym same)
turned xs ys (inr long) = inr (long.1, long.0)

-- ---- replies for one section, one expression or two sections

long_frame : (text_for : FrameSection → List ℕ) (target : Target) (xs : List ℕ) → 2 ^ 32 ≤ length xs
    → frame_reply text_for target xs ≡ refusal sections.Frame too_long
unfolding frame_reply
long_frame text_for target xs long =
    ap (λ (f : Option Fault). text_unless f sections.Frame (text_for (frame_of target xs)))
    (long_fault xs (section_fault target xs) long)

frame_alike : (text_for : FrameSection → List ℕ) (target : Target) (xs ys : List ℕ) → Alike xs ys
    → frame_reply text_for target xs ≡ frame_reply text_for target ys
frame_alike text_for target xs ys (inl same) = ap (frame_reply text_for target) same
frame_alike text_for target xs ys (inr long) = long_frame text_for target xs long.0 ∙ sym (long_frame text_for target ys long.1)

outcome_alike : (kind : Kind) (target : Target) (xs ys : List ℕ) (gs : List StateFact) → Alike xs ys → (r : Reply)
    → IsOutcome kind target xs gs r → IsOutcome kind target ys gs r
outcome_alike kind target xs ys gs (inl same) r h = subst (λ (b : List ℕ). IsOutcome kind target b gs r) same h
outcome_alike kind target xs ys gs (inr long) (text w) h = absurd (omega (arith, h.comes.short, long.0))
outcome_alike kind target xs ys gs (inr long) (refusal s f) h = (
  h.0,
  long_fault ys (expression_fault kind target ys) long.1
      ∙ sym (long_fault xs (expression_fault kind target xs) long.0) ∙ h.1,
)
outcome_alike kind target xs ys gs (inr long) (not_hex n) h = absurd h
outcome_alike kind target xs ys gs (inr long) (bad_line n) h = absurd h

found_alike : (lookup : ListLookup) (target : Target) (xs ys : List ℕ) (gs : List StateFact) → Alike xs ys → (r : Reply)
    → IsFound lookup target xs gs r → IsFound lookup target ys gs r
found_alike lookup target xs ys gs (inl same) r h = subst (λ (b : List ℕ). IsFound lookup target b gs r) same h
found_alike lookup target xs ys gs (inr long) (text w) h =
    let both : None ≡ Some too_long = sym h.0 ∙ long_fault xs (lists_fault target xs) long.0 in
    cc
found_alike lookup target xs ys gs (inr long) (refusal s f) h = (
  h.0,
  long_fault ys (lists_fault target ys) long.1
      ∙ sym (long_fault xs (lists_fault target xs) long.0) ∙ h.1,
)
found_alike lookup target xs ys gs (inr long) (not_hex n) h = absurd h
found_alike lookup target xs ys gs (inr long) (bad_line n) h = absurd h

long_first : (target : Target) (frame lists : List ℕ) → 2 ^ 32 ≤ length frame
    → check_fault target frame lists ≡ Some (record { section = sections.Frame; fault = too_long })
unfolding check_fault
long_first target frame lists long =
    ap (λ (f : Option Fault). option_or (fault_within sections.Frame f) (option_or (fault_within sections.Lists (length_fault lists))
    (option_or (fault_within sections.Frame (section_fault target frame)) (fault_within sections.Lists (lists_fault target lists)))))
    (long_length frame long)

long_second : (target : Target) (frame lists : List ℕ) → length frame < 2 ^ 32 → 2 ^ 32 ≤ length lists
    → check_fault target frame lists ≡ Some (record { section = sections.Lists; fault = too_long })
unfolding check_fault
long_second target frame lists short long =
    ap (λ (f : Option Fault). option_or (fault_within sections.Frame f) (option_or (fault_within sections.Lists (length_fault lists))
    (option_or (fault_within sections.Frame (section_fault target frame)) (fault_within sections.Lists (lists_fault target lists)))))
    (short_length frame short)
    ∙ ap (λ (f : Option Fault). option_or (fault_within sections.Lists f)
    (option_or (fault_within sections.Frame (section_fault target frame)) (fault_within sections.Lists (lists_fault target lists))))
    (long_length lists long)

-- two pairs of sections with the same fault have the same reply
faulty : (target : Target) (frame lists others more : List ℕ) (fault : CheckFault) (Shows : FrameSection → ListSection → List ℕ → Type 0)
    → check_fault target frame lists ≡ Some fault → check_fault target others more ≡ Some fault → (r : Reply)
    → OfChecked target frame lists Shows r → OfChecked target others more Shows r
faulty target frame lists others more fault Shows has too (text w) h = let both : None ≡ Some fault = sym h.0 ∙ has in cc
faulty target frame lists others more fault Shows has too (refusal s f) h = too ∙ sym has ∙ h
faulty target frame lists others more fault Shows has too (not_hex n) h = absurd h
faulty target frame lists others more fault Shows has too (bad_line n) h = absurd h

first_alike : (target : Target) (frame others lists : List ℕ) (Shows : FrameSection → ListSection → List ℕ → Type 0) → Alike frame others
    → (r : Reply) → OfChecked target frame lists Shows r → OfChecked target others lists Shows r
first_alike target frame others lists Shows (inl same) r h = subst (λ (b : List ℕ). OfChecked target b lists Shows r) same h
first_alike target frame others lists Shows (inr long) r h =
    faulty target frame lists others lists _ Shows (long_first target frame lists long.0) (long_first target others lists long.1) r h

second_alike : (target : Target) (frame lists others : List ℕ) (Shows : FrameSection → ListSection → List ℕ → Type 0) → Alike lists others
    → (r : Reply) → OfChecked target frame lists Shows r → OfChecked target frame others Shows r
second_alike target frame lists others Shows (inl same) r h = subst (λ (b : List ℕ). OfChecked target frame b Shows r) same h
second_alike target frame lists others Shows (inr long) r h = elim (cases_lt (length frame) (2 ^ 32)) [
  | inl short ↦
      faulty target frame lists frame others _ Shows
      (long_second target frame lists short long.0) (long_second target frame others short long.1) r h
  | inr much ↦ faulty target frame lists frame others _ Shows (long_first target frame lists much) (long_first target frame others much) r h
]

state_alike : (found : Result (List StateFact) ℕ) (Is Others : List StateFact → Reply → Type 0)
    → ((gs : List StateFact) (r : Reply) → Is gs r → Others gs r) → (r : Reply) → OfState found Is r → OfState found Others r
state_alike (Err n) Is Others each r h = h
state_alike (Ok gs) Is Others each r h = each gs r h

-- ---- modules

refusal_alike : (target : Target) (xs ys : List ℕ) → Alike xs ys → frame_refusal target xs ≡ frame_refusal target ys
refusal_alike target xs ys (inl same) = ap (frame_refusal target) same
refusal_alike target xs ys (inr long) =
    long_fault xs (section_fault target xs) long.0 ∙ sym (long_fault ys (section_fault target ys) long.1)

-- a section without a fault isn't too long, so a section that is `Alike` to it has the same bytes
same_section : (target : Target) (xs ys : List ℕ) → frame_refusal target xs ≡ None → Alike xs ys → xs ≡ ys
same_section target xs ys none (inl same) = same
same_section target xs ys none (inr long) =
    let both : None ≡ Some too_long = sym none ∙ long_fault xs (section_fault target xs) long.0 in
    cc

abbrev AreAlike : List (Module (List ℕ)) → List (Module (List ℕ)) → Type 0
AreAlike [] [] = Unit {0}
AreAlike (m ∷ modules) (n ∷ others) = (m.load_address ≡ n.load_address) × Alike m.rows n.rows × AreAlike modules others
AreAlike _ _ = ⊥

same_refusal : (target : Target) (modules others : List (Module (List ℕ))) → AreAlike modules others
    → modules_refusal target modules ≡ modules_refusal target others
same_refusal target [] [] are = refl
same_refusal target [] (n ∷ others) are = absurd are
same_refusal target (m ∷ modules) [] are = absurd are
same_refusal target (m ∷ modules) (n ∷ others) are =
    ap (λ (f : Option Fault). option_or f (modules_refusal target modules)) (refusal_alike target m.rows n.rows are.1)
    ∙ ap (option_or (frame_refusal target n.rows)) (same_refusal target modules others are.2)

same_modules : (target : Target) (modules others : List (Module (List ℕ))) → modules_refusal target modules ≡ None
    → AreAlike modules others → modules ≡ others
same_modules target [] [] none are = refl
same_modules target [] (n ∷ others) none are = absurd are
same_modules target (m ∷ modules) [] none are = absurd are
same_modules target (m ∷ modules) (n ∷ others) none are =
    let both = neither (frame_refusal target m.rows) (modules_refusal target modules) none in
    let rest = same_modules target modules others both.1 are.2 in
    joined_again m.rows n.rows m.load_address n.load_address modules others (same_section target m.rows n.rows both.0 are.1) are.0 rest
  where
    joined_again : (xs ys : List ℕ) (a b : ℕ) (ms ns : List (Module (List ℕ))) → xs ≡ ys → a ≡ b → ms ≡ ns
        → loaded_at a xs ∷ ms ≡ loaded_at b ys ∷ ns
    joined_again xs ys a b ms ns x y z = rw (x, y, z) refl

modules_alike : (target : Target) (modules others : List (Module (List ℕ))) (Shows : List (Module FrameSection) → List ℕ → Type 0)
    → AreAlike modules others → (r : Reply) → OfModules target modules Shows r → OfModules target others Shows r
modules_alike target modules others Shows are (text w) h =
    subst (λ ms. OfModules target ms Shows (text w)) (same_modules target modules others h.0 are) h
modules_alike target modules others Shows are (refusal s f) h = (h.0, sym (same_refusal target modules others are) ∙ h.1)
modules_alike target modules others Shows are (not_hex n) h = absurd h
modules_alike target modules others Shows are (bad_line n) h = absurd h

-- ---- files

-- the bytes of a file; no bytes if there is no file
abbrev bytes_or_none : Option (List ℕ) → List ℕ
bytes_or_none None = []
bytes_or_none (Some file) = file

abbrev bytes_at : List (List ℕ) → ℕ → List ℕ
bytes_at files place = bytes_or_none (slice_get files place)

-- if files aren't hex text, the section in a file is the bytes of the file
plain : (file : Option (List ℕ)) → section_bytes false file ≡ Some (bytes_or_none file)
plain None = refl
plain (Some file) = refl

section_moves : (place : ℕ) (file other : Option (List ℕ)) (A B : List ℕ → Reply → Type 0)
    → ((r : Reply) → A (bytes_or_none file) r → B (bytes_or_none other) r) → (r : Reply)
    → OfSection place (section_bytes false file) A r → OfSection place (section_bytes false other) B r
section_moves place None None A B each r h = each r h
section_moves place None (Some y) A B each r h = each r h
section_moves place (Some x) None A B each r h = each r h
section_moves place (Some x) (Some y) A B each r h = each r h

-- the modules of `--module`, if files aren't hex text
plain_modules : List (List ℕ) → ℕ → List ℕ → List (Module (List ℕ))
plain_modules files place [] = []
plain_modules files place (load ∷ loads) = loaded_at load (bytes_at files place) ∷ plain_modules files (suc place) loads

further_plain : (files : List (List ℕ)) (place : ℕ) (loads : List ℕ)
    → further_modules false files place loads ≡ Ok (plain_modules files place loads)
unfolding plain_modules
further_plain files place [] = refl
further_plain files place (load ∷ loads) =
    ap (λ o. module_before place load o (further_modules false files (suc place) loads)) (plain (slice_get files place))
    ∙ ap (module_before place load (Some (bytes_at files place))) (further_plain files (suc place) loads)

-- the files at each index are alike
abbrev FilesAlike : List (List ℕ) → List (List ℕ) → Type 0
FilesAlike files others = (place : ℕ) → Alike (bytes_at files place) (bytes_at others place)

plain_alike : (files others : List (List ℕ)) → FilesAlike files others → (place : ℕ) (loads : List ℕ)
    → AreAlike (plain_modules files place loads) (plain_modules others place loads)
unfolding plain_modules
plain_alike files others alike place [] = tt
plain_alike files others alike place (load ∷ loads) = (refl, alike place, plain_alike files others alike (suc place) loads)

further_alike : (files others : List (List ℕ)) (loads : List ℕ) (A B : List (Module (List ℕ)) → Reply → Type 0)
    → ((r : Reply) → A (plain_modules files 2 loads) r → B (plain_modules others 2 loads) r) → (r : Reply)
    → OfFurther (further_modules false files 2 loads) A r → OfFurther (further_modules false others 2 loads) B r
further_alike files others loads A B each r h =
    subst (λ o. OfFurther o B r) (sym (further_plain others 2 loads))
    (each r (subst (λ o. OfFurther o A r) (further_plain files 2 loads) h))

-- ---- replies

-- if files are hex text, the needed part of each file is the whole file
whole_hex : (task : Task) (place : ℕ) (files : List (List ℕ)) → needed_parts task true place files ≡ files
unfolding needed_parts
whole_hex task place [] = refl
whole_hex task place (file ∷ files) = ap (λ (more : List (List ℕ)). file ∷ more) (whole_hex task (suc place) files)

-- both lists of files have the same file at index 1, unless the task is `check`
abbrev SameState : Task → List (List ℕ) → List (List ℕ) → Type 0
SameState Check files others = Unit {0}
SameState task files others = slice_get files 1 ≡ slice_get others 1

-- all modules of a process, FRAME's first
abbrev all_modules : ℕ → List ℕ → List (List ℕ) → List (Module (List ℕ))
all_modules load loads files = loaded_at load (bytes_at files 0) ∷ plain_modules files 2 loads

-- the reply for a state file and for modules whose files can be read
abbrev OfGiven : (List StateFact → List (Module FrameSection) → List ℕ → Type 0) → Target → Option (List ℕ) → List (Module (List ℕ))
    → Reply → Type 0
OfGiven Shows target state modules = OfState (state_facts target state) (λ facts. OfModules target modules (Shows facts))

module _ (target : Target) (files others : List (List ℕ)) (alike : FilesAlike files others) where
  process_alike : (Shows : AddressSize → List StateFact → List (Module FrameSection) → List ℕ → Type 0) (load : ℕ) (loads : List ℕ)
      → slice_get files 1 ≡ slice_get others 1 → (r : Reply) → OfModulesAndState Shows load loads target false files r
      → OfModulesAndState Shows load loads target false others r
  process_alike Shows load loads same =
      section_moves 0 (slice_get files 0) (slice_get others 0) _ _
      (further_alike files others loads _ _
      (λ r h. subst (λ o. OfGiven (Shows target.address_size) target o (all_modules load loads others) r) same
      (state_alike (state_facts target (slice_get files 1)) _ _
      (λ facts. modules_alike target (all_modules load loads files) (all_modules load loads others) (Shows target.address_size facts)
      (refl, alike 0, plain_alike files others alike 2 loads)) r h)))

  moves : (task : Task) (load : ℕ) (loads : List ℕ) → SameState task files others → (r : Reply)
      → IsReplyTo task load loads target false files r → IsReplyTo task load loads target false others r
  moves Check load loads same =
      section_moves 0 (slice_get files 0) (slice_get others 0) _ _
      (section_moves 1 (slice_get files 1) (slice_get others 1) _ _
      (λ r h. second_alike target (bytes_at others 0) (bytes_at files 1) (bytes_at others 1) IsReport (alike 1) r
      (first_alike target (bytes_at files 0) (bytes_at others 0) (bytes_at files 1) IsReport (alike 0) r h)))
  moves Rows load loads same =
      section_moves 0 (slice_get files 0) (slice_get others 0) _ _
      (λ r h. h ∙ frame_alike frame_text target (bytes_at files 0) (bytes_at others 0) (alike 0))
  moves (Row address) load loads same =
      section_moves 0 (slice_get files 0) (slice_get others 0) _ _
      (λ r h. h ∙ frame_alike (λ frame. lookup_text frame (as_linked target load address)) target (bytes_at files 0) (bytes_at others 0)
      (alike 0))
  moves (Locs lookup) load loads same =
      section_moves 0 (slice_get files 0) (slice_get others 0) _ _
      (λ r h. subst (λ o. OfState (state_facts target o) (IsFound lookup target (bytes_at others 0)) r) same
      (state_alike (state_facts target (slice_get files 1)) _ (IsFound lookup target (bytes_at others 0))
      (λ facts s k. found_alike lookup target (bytes_at files 0) (bytes_at others 0) facts (alike 0) s k) r h))
  moves (Eval kind) load loads same =
      section_moves 0 (slice_get files 0) (slice_get others 0) _ _
      (λ r h. subst (λ o. OfState (state_facts target o) (IsOutcome kind target (bytes_at others 0)) r) same
      (state_alike (state_facts target (slice_get files 1)) _ (IsOutcome kind target (bytes_at others 0))
      (λ facts s k. outcome_alike kind target (bytes_at files 0) (bytes_at others 0) facts (alike 0) s k) r h))
  moves (Unwind address) load loads same = process_alike (ShowsCaller address) load loads same
  moves (Backtrace address limit) load loads same = process_alike (ShowsWalk address limit) load loads same

-- if files aren't hex text, each file and its needed part are alike
needed_alike : (task : Task) (from : ℕ) (files : List (List ℕ)) (place : ℕ)
    → Alike (bytes_at files place) (bytes_at (needed_parts task false from files) place)
unfolding needed_parts
needed_alike task from [] place = inl refl
needed_alike task from (file ∷ files) zero = by (is_state task from)
  where
    by : (b : Bool) → Alike file (part_up_to (if false || b then None else Some (2 ^ 32)) file)
    by true = inl refl
    by false = alike_part file
needed_alike task from (file ∷ files) (suc place) = needed_alike task (suc from) files place

-- if the file at index 1 is needed in full (`needed_length` is None), its needed part is the whole
-- file
second_whole : (task : Task) → needed_length task false 1 ≡ None → (files : List (List ℕ))
    → slice_get files 1 ≡ slice_get (needed_parts task false 0 files) 1
unfolding needed_parts
second_whole task all [] = refl
second_whole task all (x ∷ []) = refl
second_whole task all (x ∷ y ∷ more) = ap (λ n. Some (part_up_to n y)) (sym all)

whole_state : (task : Task) (files : List (List ℕ)) → SameState task files (needed_parts task false 0 files)
whole_state Check files = tt
whole_state Rows files = second_whole Rows refl files
whole_state (Row address) files = second_whole (Row address) refl files
whole_state (Locs lookup) files = second_whole (Locs lookup) refl files
whole_state (Eval kind) files = second_whole (Eval kind) refl files
whole_state (Unwind address) files = second_whole (Unwind address) refl files
whole_state (Backtrace address limit) files = second_whole (Backtrace address limit) refl files

back : (task : Task) (files others : List (List ℕ)) → SameState task files others → SameState task others files
back Check files others same = tt
back Rows files others same = sym same
back (Row address) files others same = sym same
back (Locs lookup) files others same = sym same
back (Eval kind) files others same = sym same
back (Unwind address) files others same = sym same
back (Backtrace address limit) files others same = sym same

pub parts_decide : (task : Task) (load : ℕ) (loads : List ℕ) (target : Target) (hex : Bool) (files : List (List ℕ)) (reply : Reply)
    → IsReplyTo task load loads target hex files reply ↔ IsReplyTo task load loads target hex (needed_parts task hex 0 files) reply
parts_decide task load loads target true files r = rw (whole_hex task 0 files) (λ h. h, λ h. h)
parts_decide task load loads target false files r =
    let parts = needed_parts task false 0 files in
    let alike : FilesAlike files parts = needed_alike task 0 files in
    let again : FilesAlike parts files = λ place. turned (bytes_at files place) (bytes_at parts place) (alike place) in
    let same = whole_state task files in (
      moves target files parts alike task load loads same r,
      moves target parts files again task load loads (back task files parts same) r,
    )
