-- What a run writes and how it ends, by the request and the contents of its files.
use Rattle.std.specs.Prelude.{◌≡◌, ℕ, ◌<◌, Bool, true, false, List, [], Option, Some, None, Result, Ok, Err}
use Rattle.std.specs.Prelude.{◌∷◌, map, slice_get}
use Rattle.std.specs.Option.{option_or}
use Rattle.std.specs.Io.KnownBytes.{Appends}
use Rattle.dw_bytes.specs.declared.target.Target.{Target}
use Rattle.dw_bytes.specs.declared.target.AddressSize.{AddressSize}
use Rattle.dw_bytes.specs.declared.fault.Fault.{Fault}
use Rattle.dw_rules.specs.Abi.{Abi, abi_of}
use Rattle.dw_rows.specs.Section.{FrameSection, section_fault, frame_of}
use Rattle.dw_loclists.specs.Reading.{ListSection, lists_fault}
use Rattle.dw_stack.specs.declared.state.Kind.{Kind}
use Rattle.dw_stack.specs.FirstFault.{expression_fault}
use Rattle.dw_requests.specs.Requests.{Asked}
use Rattle.dw_sections.specs.Checked.{check_fault, length_fault}
use Rattle.dw_check.specs.Report.{IsReport}
use Rattle.dw_unwind.specs.Caller.{Caller}
use Rattle.dw_check.specs.CallerText.{caller_text}
use Rattle.dw_unwind.specs.Modules.{as_linked, over_sections}
use Rattle.dw_unwind.specs.declared.modules.Module.{Module}
use Rattle.dw_unwind.specs.Walks.{WalkedFrame, Walks, first_place}
use Rattle.dw_check.specs.WalkText.{walk_text}
use Rattle.dw_unwind.specs.declared.frames.Stop.{Stop}
use Rattle.dw_check.specs.Evaluations.{Evaluates}
use Rattle.dw_check.specs.Files.{section_bytes, state_facts, loaded_at, further_modules}
use Rattle.dw_check.specs.Lookups.{ShowsList, list_that_begins_at}
use Rattle.dw_state.specs.StateFile.{StateFact, first_that, content_in, byte_in, kept_in, stack_pointer_in}
use Rattle.dw_check.specs.SinkBytes.{AppendsFront}
use Rattle.dw_check.specs.Text.{refused_line, frame_text, lookup_text}
use Rattle.dw_sections.specs.declared.section.Section.{Section}
use Rattle.dw_sections.specs.declared.section.Section.TheVariants as sections
use Rattle.dw_check.specs.declared.stop.RunFault.{RunFault}
use Rattle.dw_check.specs.declared.stop.RunFault.TheVariants as stops
use Rattle.dw_requests.specs.declared.requests.ListLookup.{ListLookup}
use Rattle.dw_requests.specs.declared.requests.Task.{Task}
use Rattle.dw_requests.specs.declared.requests.Task.TheVariants.{Check, Rows, Row, Locs, Eval, Unwind, Backtrace}
use Rattle.dw_requests.specs.declared.requests.End.{End}
use Rattle.dw_requests.specs.declared.requests.End.TheVariants.{Done, Refused, BadHex, StateLine, Memory, Output}

-- What a run replies: a text; the line of a refusal; `not_hex n`, if the file at index n must be
-- hex text and isn't; or `bad_line n`, if line n of the state file is the first bad one
-- (`first_bad_line` in StateFile.antt). Nothing is written for the last two.
pub data Reply : Type 0 where
  text : List ℕ → Reply
  refusal : Section → Fault → Reply
  not_hex : ℕ → Reply
  bad_line : ℕ → Reply

-- all that is written for a reply
abbrev pub text_of : Reply → List ℕ
text_of (text bytes) = bytes
text_of (refusal section fault) = refused_line section fault
text_of (not_hex n) = []
text_of (bad_line n) = []

-- The text whose beginning may have been written when memory runs out. No part of a refusal is
-- written by then, since its line is sent only when it is complete.
abbrev pub accepted_text : Reply → List ℕ
accepted_text (text bytes) = bytes
accepted_text (refusal section fault) = []
accepted_text (not_hex n) = []
accepted_text (bad_line n) = []

-- The reply is a text or a refusal. Nothing is written for other replies, so they can't stop the
-- sink.
abbrev pub IsWritten : Reply → Type 0
IsWritten (text bytes) = Unit {0}
IsWritten (refusal section fault) = Unit {0}
IsWritten (not_hex n) = ⊥
IsWritten (bad_line n) = ⊥

-- ---- files that can't be read

-- `Is` allows the reply, given the bytes of the section in the file at index `place`. If there are
-- no such bytes, since the file must be hex text and isn't, the reply is `not_hex`.
abbrev pub OfSection : ℕ → Option (List ℕ) → (List ℕ → Reply → Type 0) → Reply → Type 0
OfSection place None Is reply = reply ≡ not_hex place
OfSection place (Some bytes) Is reply = Is bytes reply

-- `Is` allows the reply, given the facts of the state file. If that file has a bad line, the reply
-- is `bad_line` with the number of the first bad line.
abbrev pub OfState : Result (List StateFact) ℕ → (List StateFact → Reply → Type 0) → Reply → Type 0
OfState (Err n) Is reply = reply ≡ bad_line n
OfState (Ok facts) Is reply = Is facts reply

-- ---- frame sections

-- the first fault of a frame section: its length is checked first, then its contents
abbrev pub frame_refusal : Target → List ℕ → Option Fault
frame_refusal target section = option_or (length_fault section) (section_fault target section)

abbrev pub text_unless : Option Fault → Section → List ℕ → Reply
text_unless (Some fault) section bytes = refusal section fault
text_unless None section bytes = text bytes

-- a text for a frame section, or the refusal if the section has a fault
unfoldable pub frame_reply : (FrameSection → List ℕ) → Target → List ℕ → Reply
frame_reply text_for target section = text_unless (frame_refusal target section) sections.Frame (text_for (frame_of target section))

-- ---- expressions

-- the first fault of an expression: its length is checked first, then its operations
abbrev pub expression_refusal : Kind → Target → List ℕ → Option Fault
expression_refusal kind target bytes = option_or (length_fault bytes) (expression_fault kind target bytes)

-- the reply shows the outcome of an expression, given the facts of a state file; or the reply is
-- the refusal of the expression
abbrev pub IsOutcome : Kind → Target → List ℕ → List StateFact → Reply → Type 0
IsOutcome kind target bytes facts (text written) = Evaluates kind target bytes facts written
IsOutcome kind target bytes facts (refusal section fault) = (section ≡ sections.Expression)
    × (expression_refusal kind target bytes ≡ Some fault)
IsOutcome kind target bytes facts _ = ⊥

-- ---- sections of location lists

-- the first fault of a section of location lists: its length is checked first, then its contents
abbrev pub lists_refusal : Target → List ℕ → Option Fault
lists_refusal target section = option_or (length_fault section) (lists_fault target section)

-- the reply shows the result of a look-up in a section, given the facts of a state file; or the
-- reply is the refusal of the section
abbrev pub IsFound : ListLookup → Target → List ℕ → List StateFact → Reply → Type 0
IsFound lookup target section facts (text written) = (lists_refusal target section ≡ None)
    × ShowsList facts (list_that_begins_at (record { target = target; section = section }) lookup.list) lookup.base lookup.address written
IsFound lookup target section facts (refusal refused fault) = (refused ≡ sections.Lists) × (lists_refusal target section ≡ Some fault)
IsFound lookup target section facts _ = ⊥

-- ---- two sections

-- The reply for two sections is a text for which `Shows` holds, or, if they have a fault, the
-- refusal with their first fault.
abbrev pub OfChecked : Target → List ℕ → List ℕ → (FrameSection → ListSection → List ℕ → Type 0) → Reply → Type 0
OfChecked target frame lists Shows (text written) = (check_fault target frame lists ≡ None)
    × Shows (frame_of target frame) (record { target = target; section = lists }) written
OfChecked target frame lists Shows (refusal section fault) =
    check_fault target frame lists ≡ Some (record { section = section; fault = fault })
OfChecked target frame lists Shows _ = ⊥

-- the registers and the memory that a state file gives
abbrev pub registers_given : List StateFact → ℕ → Option ℕ
registers_given facts n = first_that (content_in n) facts

abbrev pub memory_given : List StateFact → ℕ → Option ℕ
memory_given facts a = first_that (byte_in a) facts

-- the ABI that a state file gives
abbrev pub abi_given : List StateFact → Abi
abi_given facts = abi_of (kept_in facts) (first_that stack_pointer_in facts)

-- the text shows the caller of the frame at `address`, or that no FDE of the modules covers
-- `address`, given the facts of a state file
abbrev pub ShowsCaller : ℕ → AddressSize → List StateFact → List (Module FrameSection) → List ℕ → Type 0
ShowsCaller address size facts modules written = (caller : Option Caller)
    × over_sections (abi_given facts) (memory_given facts) modules (registers_given facts) address caller
    × (written ≡ caller_text size caller)

-- the text shows a walk of at most `limit` frames from `address`, given the facts of a state file
abbrev pub ShowsWalk : ℕ → ℕ → AddressSize → List StateFact → List (Module FrameSection) → List ℕ → Type 0
ShowsWalk address limit size facts modules written = (frames : List WalkedFrame) × (stop : Stop)
    × Walks (over_sections (abi_given facts) (memory_given facts) modules) (first_place address (registers_given facts)) limit frames stop
    × (written ≡ walk_text size frames stop)

-- ---- the modules of a process

-- the first fault of the modules' frame sections, in the order of the modules
abbrev pub modules_refusal : Target → List (Module (List ℕ)) → Option Fault
modules_refusal target [] = None
modules_refusal target (m ∷ modules) = option_or (frame_refusal target m.rows) (modules_refusal target modules)

-- the same modules, each with the frame section that its bytes encode
abbrev pub modules_of_sections : Target → List (Module (List ℕ)) → List (Module FrameSection)
modules_of_sections target modules = map (λ m. record { rows = frame_of target m.rows; load_address = m.load_address }) modules

-- The reply for modules is a text for which `Shows` holds, or, if their frame sections have a
-- fault, the refusal with the first fault (`modules_refusal`).
abbrev pub OfModules : Target → List (Module (List ℕ)) → (List (Module FrameSection) → List ℕ → Type 0) → Reply → Type 0
OfModules target modules Shows (text written) =
    (modules_refusal target modules ≡ None) × Shows (modules_of_sections target modules) written
OfModules target modules Shows (refusal refused fault) = (refused ≡ sections.Frame) × (modules_refusal target modules ≡ Some fault)
OfModules target modules Shows _ = ⊥

-- `Is` allows the reply, given the modules of `--module`. If one of their files must be hex text
-- and isn't, the reply is `not_hex` with the index of the first such file.
abbrev pub OfFurther : Result (List (Module (List ℕ))) ℕ → (List (Module (List ℕ)) → Reply → Type 0) → Reply → Type 0
OfFurther (Err n) Is reply = reply ≡ not_hex n
OfFurther (Ok modules) Is reply = Is modules reply

-- The reply for the files of a process, which are checked in this order: FRAME, the files of
-- `--module`, and the state file. So it is `not_hex` for the first file that must be hex text and
-- isn't; otherwise `bad_line`, if the state file has a bad line; and otherwise a reply that `Is`
-- allows for the state file's facts and the modules.
abbrev pub OfProcess : Target → ℕ → List ℕ → Bool → List (List ℕ) → (List StateFact → List (Module (List ℕ)) → Reply → Type 0)
    → Reply → Type 0
OfProcess target load loads hex files Is reply =
    OfSection 0 (section_bytes hex (slice_get files 0))
    (λ section. OfFurther (further_modules hex files 2 loads)
    (λ others. OfState (state_facts target (slice_get files 1)) (λ facts. Is facts (loaded_at load section ∷ others)))) reply

-- the reply if one of the files must be hex text and isn't, or if the state file has a bad line; no
-- reply if all files can be read
abbrev pub IsUnreadProcess : Target → ℕ → List ℕ → Bool → List (List ℕ) → Reply → Type 0
IsUnreadProcess target load loads hex files reply = OfProcess target load loads hex files (λ facts modules r. ⊥) reply

-- Why reading the `count` files of a process failed: one of them must be hex text and isn't, or the
-- state file has a bad line, and `Is` holds for that reply; or memory ran out.
abbrev pub IsBadProcess : (Reply → Type 0) → ℕ → RunFault → Type 0
IsBadProcess Is count (stops.BadHex n) = (n < count) × Is (not_hex n)
IsBadProcess Is count (stops.StateLine n) = Is (bad_line n)
IsBadProcess Is count stops.Memory = Unit {0}
IsBadProcess Is count _ = ⊥

-- ---- replies that two commands have in common

-- `rows` and `row`: the text that `text_for` makes of the frame section in the first file; or the
-- section's refusal; or `not_hex`
abbrev pub OfFrame : (FrameSection → List ℕ) → Target → Bool → List (List ℕ) → Reply → Type 0
OfFrame text_for target hex files reply =
    OfSection 0 (section_bytes hex (slice_get files 0)) (λ section r. r ≡ frame_reply text_for target section) reply

-- `unwind` and `backtrace`: a text for which `Shows` holds, given the state file's facts and the
-- modules (FRAME's module first); or the refusal of a section; or, if a file can't be read,
-- `not_hex` or `bad_line`
abbrev pub OfModulesAndState : (AddressSize → List StateFact → List (Module FrameSection) → List ℕ → Type 0) → ℕ → List ℕ → Target
    → Bool → List (List ℕ) → Reply → Type 0
OfModulesAndState Shows load loads target hex files reply =
    OfProcess target load loads hex files (λ facts modules. OfModules target modules (Shows target.address_size facts)) reply

-- ---- the reply of each command

-- `check`
abbrev pub IsCheckReply : Target → Bool → List (List ℕ) → Reply → Type 0
IsCheckReply target hex files reply =
    OfSection 0 (section_bytes hex (slice_get files 0))
    (λ frame. OfSection 1 (section_bytes hex (slice_get files 1)) (λ lists. OfChecked target frame lists IsReport)) reply

-- `rows`
abbrev pub IsRowsReply : Target → Bool → List (List ℕ) → Reply → Type 0
IsRowsReply target hex files reply = OfFrame frame_text target hex files reply

-- `row`: `load` is the module's load address. The row's line has the addresses of the section, to
-- which `load` isn't added.
abbrev pub IsRowReply : ℕ → ℕ → Target → Bool → List (List ℕ) → Reply → Type 0
IsRowReply load address target hex files reply =
    OfFrame (λ frame. lookup_text frame (as_linked target load address)) target hex files reply

-- `eval`
abbrev pub IsEvalReply : Kind → Target → Bool → List (List ℕ) → Reply → Type 0
IsEvalReply kind target hex files reply =
    OfSection 0 (section_bytes hex (slice_get files 0))
    (λ bytes. OfState (state_facts target (slice_get files 1)) (IsOutcome kind target bytes)) reply

-- `locs`
abbrev pub IsLocsReply : ListLookup → Target → Bool → List (List ℕ) → Reply → Type 0
IsLocsReply lookup target hex files reply =
    OfSection 0 (section_bytes hex (slice_get files 0))
    (λ section. OfState (state_facts target (slice_get files 1)) (IsFound lookup target section)) reply

-- `unwind`
abbrev pub IsUnwindReply : ℕ → ℕ → List ℕ → Target → Bool → List (List ℕ) → Reply → Type 0
IsUnwindReply address load loads target hex files reply = OfModulesAndState (ShowsCaller address) load loads target hex files reply

-- `backtrace`
abbrev pub IsBacktraceReply : ℕ → ℕ → ℕ → List ℕ → Target → Bool → List (List ℕ) → Reply → Type 0
IsBacktraceReply address limit load loads target hex files reply =
    OfModulesAndState (ShowsWalk address limit) load loads target hex files reply

-- the reply to a task, given the load address of FRAME's module and the load addresses of the
-- modules of `--module`
abbrev pub IsReplyTo : Task → ℕ → List ℕ → Target → Bool → List (List ℕ) → Reply → Type 0
IsReplyTo Check load loads target hex files reply = IsCheckReply target hex files reply
IsReplyTo Rows load loads target hex files reply = IsRowsReply target hex files reply
IsReplyTo (Row address) load loads target hex files reply = IsRowReply load address target hex files reply
IsReplyTo (Locs lookup) load loads target hex files reply = IsLocsReply lookup target hex files reply
IsReplyTo (Eval kind) load loads target hex files reply = IsEvalReply kind target hex files reply
IsReplyTo (Unwind address) load loads target hex files reply = IsUnwindReply address load loads target hex files reply
IsReplyTo (Backtrace address limit) load loads target hex files reply = IsBacktraceReply address limit load loads target hex files reply

-- The reply to a request, given the contents of each of its files.
abbrev pub IsReply : Asked → List (List ℕ) → Reply → Type 0
IsReply asked files reply = IsReplyTo asked.task asked.load asked.module_loads asked.target asked.hex files reply

-- ---- how a run ends

-- the index of a file that isn't hex text is below the number of files
abbrev pub IsPlaceIn : ℕ → End → Type 0
IsPlaceIn count (BadHex place) = place < count
IsPlaceIn count other = Unit {0}

-- What a run has written, by its result, before the line of a refusal is written. `Is` holds for
-- the possible replies, and there are `count` files. `Ok`: all of a text is written. `Refused`,
-- `BadHex` or `StateLine`: nothing is written yet. `Memory`: a beginning of the text is written, or
-- nothing if the reply isn't a text. `Output`: a beginning of the reply, a text or a refusal, is
-- written.
abbrev pub Goes : ℕ → (Reply → Type 0) → Option (List ℕ) → Option (List ℕ) → Result (Unit {0}) RunFault → Type 0
Goes count Is old new (Ok _) = (bytes : List ℕ) × Is (text bytes) × Appends old new bytes
Goes count Is old new (Err (stops.Refused section fault)) = Is (refusal section fault) × Appends old new []
Goes count Is old new (Err (stops.BadHex n)) = (n < count) × Is (not_hex n) × Appends old new []
Goes count Is old new (Err (stops.StateLine n)) = Is (bad_line n) × Appends old new []
Goes count Is old new (Err stops.Memory) = (reply : Reply) → Is reply → AppendsFront old new (accepted_text reply)
Goes count Is old new (Err stops.Output) = (reply : Reply) × Is reply × IsWritten reply × AppendsFront old new (text_of reply)

-- What a run has written when it ends. `Is` holds for the possible replies. All of the reply is
-- written, with two exceptions. `Memory`: a beginning of the text is written, or nothing if the
-- reply isn't a text. `Output`: a beginning of the reply, a text or a refusal, is written. The sink
-- has stopped if the end is `Output`, and in no other case.
abbrev pub Ends : (Reply → Type 0) → Option (List ℕ) → Option (List ℕ) → Bool → End → Type 0
Ends Is old new stopped Done = (bytes : List ℕ) × Is (text bytes) × Appends old new bytes × (stopped ≡ false)
Ends Is old new stopped Refused = (section : Section) × (fault : Fault) × Is (refusal section fault)
    × Appends old new (refused_line section fault) × (stopped ≡ false)
Ends Is old new stopped (BadHex n) = Is (not_hex n) × Appends old new [] × (stopped ≡ false)
Ends Is old new stopped (StateLine n) = Is (bad_line n) × Appends old new [] × (stopped ≡ false)
Ends Is old new stopped Memory = ((reply : Reply) → Is reply → AppendsFront old new (accepted_text reply)) × (stopped ≡ false)
Ends Is old new stopped Output = (reply : Reply) × Is reply × IsWritten reply × AppendsFront old new (text_of reply)
    × (stopped ≡ true)
