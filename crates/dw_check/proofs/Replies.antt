-- `Goes` (specs/Runs.antt), which says what a run has written, holds for runs that end with a file
-- that can't be read, with a refusal, or with a text.
use Rattle.std.proofs.Common.{◌≡◌, ℕ, ◌<◌, List, [], ap, sym, refl, subst}
use Rattle.std.specs.Prelude.{Option, Some, Result, Ok, Err}
use Rattle.std.specs.Result.{IsErr, IsErrAnd}
use Rattle.std.specs.Io.KnownBytes.{Appends}
use Rattle.dw_bytes.specs.declared.fault.Fault.{Fault}
use Rattle.dw_state.specs.StateFile.{StateFact}
use Rattle.dw_check.specs.Stops.{ended_by, IsBadSection, IsBadState, RefusesBoth, IsRefusal}
use Rattle.dw_check.specs.SinkBytes.{AppendsFront}
use Rattle.dw_check.specs.WriteResults.{Writes, WritesWhole}
use Rattle.dw_check.specs.Runs.{Reply, text, refusal, not_hex, bad_line, accepted_text, OfSection, OfState, Goes}
use Rattle.dw_sections.specs.declared.section.Section.{Section}
use Rattle.dw_sections.specs.declared.whole_check.CheckFault.{CheckFault}
use Rattle.dw_check.specs.declared.stop.ReportFault.{ReportFault}
use Rattle.dw_check.specs.declared.stop.ReportFault.TheVariants as faults
use Rattle.dw_check.specs.declared.stop.RunFault.{RunFault}
use Rattle.dw_check.specs.declared.stop.RunFault.TheVariants.{Refused, BadHex, StateLine, Memory, Output}
use Rattle.dw_check.proofs.Growth.{appends_nothing}

-- the empty text is a beginning of any text
pub front_none : (old new : Option (List ℕ)) (all : List ℕ) → Appends old new [] → AppendsFront old new all
front_none old new all h = ([], all, refl, h)

-- ---- the bytes of a section

pub goes_section : (count place : ℕ) (found : Option (List ℕ)) (bytes : List ℕ) (Is : List ℕ → Reply → Type 0) (old new : Option (List ℕ))
    (r : Result (Unit {0}) RunFault)
    → found ≡ Some bytes → Goes count (Is bytes) old new r → Goes count (OfSection place found Is) old new r
goes_section count place found bytes Is old new r e h = subst (λ o. Goes count (OfSection place o Is) old new r) (sym e) h

pub goes_bad_section : (count place : ℕ) (found : Option (List ℕ)) (Is : List ℕ → Reply → Type 0) (a : Option (List ℕ)) (stop : RunFault)
    → IsBadSection found place count stop → Goes count (OfSection place found Is) a a (Err stop)
goes_bad_section count place found Is a (BadHex n) h =
    (subst (λ k. k < count) (sym h.0) h.1, subst (λ o. OfSection place o Is (not_hex n)) (sym h.2) (ap not_hex h.0), appends_nothing a)
goes_bad_section count place found Is a Memory h = λ reply is. front_none a a (accepted_text reply) (appends_nothing a)
goes_bad_section count place found Is a (Refused s f) h = absurd h
goes_bad_section count place found Is a (StateLine n) h = absurd h
goes_bad_section count place found Is a Output h = absurd h

-- ---- the state

pub goes_state : (count : ℕ) (given : Result (List StateFact) ℕ) (gs : List StateFact) (Is : List StateFact → Reply → Type 0)
    (old new : Option (List ℕ)) (r : Result (Unit {0}) RunFault)
    → given ≡ Ok gs → Goes count (Is gs) old new r → Goes count (OfState given Is) old new r
goes_state count given gs Is old new r e h = subst (λ g. Goes count (OfState g Is) old new r) (sym e) h

pub goes_bad_state : (count : ℕ) (given : Result (List StateFact) ℕ) (Is : List StateFact → Reply → Type 0) (a : Option (List ℕ))
    (stop : RunFault)
    → IsBadState given stop → Goes count (OfState given Is) a a (Err stop)
goes_bad_state count given Is a (StateLine n) h = (subst (λ g. OfState g Is (bad_line n)) (sym h) refl, appends_nothing a)
goes_bad_state count given Is a Memory h = λ reply is. front_none a a (accepted_text reply) (appends_nothing a)
goes_bad_state count given Is a (Refused s f) h = absurd h
goes_bad_state count given Is a (BadHex n) h = absurd h
goes_bad_state count given Is a Output h = absurd h

-- ---- refusals

pub goes_refusal : (count : ℕ) (section : Section) (first : Option Fault) (Is : Reply → Type 0) (a : Option (List ℕ)) (stop : RunFault)
    → ((f : Fault) → first ≡ Some f → Is (refusal section f)) → IsRefusal section first stop → Goes count Is a a (Err stop)
goes_refusal count section first Is a (Refused s f) is h = (subst (λ x. Is (refusal x f)) (sym h.0) (is f h.1), appends_nothing a)
goes_refusal count section first Is a Memory is h = λ reply i. front_none a a (accepted_text reply) (appends_nothing a)
goes_refusal count section first Is a (BadHex n) is h = absurd h
goes_refusal count section first Is a (StateLine n) is h = absurd h
goes_refusal count section first Is a Output is h = absurd h

-- `Goes` holds for a run that wrote nothing and ended with the first fault of two sections, or
-- because memory ran out
pub goes_first_fault : (count : ℕ) (first : Option CheckFault) (Is : Reply → Type 0) (a : Option (List ℕ)) (stop : RunFault)
    → ((found : CheckFault) → first ≡ Some found → Is (refusal found.section found.fault)) → RefusesBoth first stop
    → Goes count Is a a (Err stop)
goes_first_fault count first Is a (Refused s f) is h = (is (record { section = s; fault = f }) h, appends_nothing a)
goes_first_fault count first Is a Memory is h = λ reply i. front_none a a (accepted_text reply) (appends_nothing a)
goes_first_fault count first Is a (BadHex n) is h = absurd h
goes_first_fault count first Is a (StateLine n) is h = absurd h
goes_first_fault count first Is a Output is h = absurd h

-- ---- texts

-- `Goes` holds for a run that wrote a text, or failed after a beginning of it, if that text is the
-- only possible reply
pub goes_text : (count : ℕ) (Is : Reply → Type 0) (bytes : List ℕ) (old new : Option (List ℕ)) (r : Result (Unit {0}) ReportFault)
    → Is (text bytes) → ((reply : Reply) → Is reply → reply ≡ text bytes) → Writes old new r bytes → Goes count Is old new (ended_by r)
goes_text count Is bytes old new (Ok _) is only h = (bytes, is, h)
goes_text count Is bytes old new (Err faults.Memory) is only h =
    λ reply i. subst (λ x. AppendsFront old new (accepted_text x)) (sym (only reply i)) h
goes_text count Is bytes old new (Err faults.Write) is only h = (text bytes, is, tt, h)

-- `Goes` holds for a run whose text is sent only when it is complete, whether writing succeeded or
-- failed
pub goes_whole : (count : ℕ) (Is : Reply → Type 0) (bytes : List ℕ) (old new : Option (List ℕ)) (r : Result (Unit {0}) ReportFault)
    → Is (text bytes) → WritesWhole old new r bytes → Goes count Is old new (ended_by r)
goes_whole count Is bytes old new (Ok _) is h = (bytes, is, h)
goes_whole count Is bytes old new (Err faults.Memory) is h = λ reply i. front_none old new (accepted_text reply) h
goes_whole count Is bytes old new (Err faults.Write) is h = (text bytes, is, tt, h)

-- if `WritesWhole` holds for a call, so does `Writes`
pub writes_if_whole : (old new : Option (List ℕ)) (r : Result (Unit {0}) ReportFault) (bytes : List ℕ) → WritesWhole old new r bytes
    → Writes old new r bytes
writes_if_whole old new (Ok _) bytes h = h
writes_if_whole old new (Err faults.Memory) bytes h = front_none old new bytes h
writes_if_whole old new (Err faults.Write) bytes h = h

-- what holds for an error still holds for the result after `?` has passed the error on
pub handed_on : (P : Result (Unit {0}) RunFault → Type 0) (r : Result (Unit {0}) RunFault) (e : RunFault)
    → IsErr r × IsErrAnd r (λ x. x ≡ e)
    → P (Err e) → P r
handed_on P (Ok _) e h p = let f = h.0 in cc
handed_on P (Err x) e h p = subst (λ y. P (Err y)) (sym h.1) p
