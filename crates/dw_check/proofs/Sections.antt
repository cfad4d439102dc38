-- What `rows` and `row` write: the reply for a frame section.
use Rattle.std.proofs.Common.{◌≡◌, ◌∙◌, ℕ, Bool, List, ap, sym}
use Rattle.std.specs.Prelude.{Option, Some, None, Result, Err, slice_get}
use Rattle.dw_bytes.specs.declared.target.Target.{Target}
use Rattle.dw_bytes.specs.declared.fault.Fault.{Fault}
use Rattle.dw_rows.specs.Section as rows
use Rattle.dw_rows.specs.Section.{frame_of}
use Rattle.dw_check.specs.Files.{section_bytes}
use Rattle.dw_check.specs.Runs.{Reply, text, refusal, frame_refusal, frame_reply, text_unless, OfFrame, Goes}
use Rattle.dw_check.specs.Stops.{IsRefusal, ended_by}
use Rattle.dw_check.specs.WriteResults.{Writes}
use Rattle.dw_check.specs.declared.stop.ReportFault.{ReportFault}
use Rattle.dw_check.specs.declared.stop.RunFault.{RunFault}
use Rattle.dw_sections.specs.declared.section.Section.TheVariants.{Frame}
use Rattle.dw_check.proofs.Replies.{goes_section, goes_refusal, goes_text}

module _ (text_for : rows.FrameSection → List ℕ) (target : Target) (section : List ℕ) where
  shown : frame_refusal target section ≡ None → text (text_for (frame_of target section)) ≡ frame_reply text_for target section
  unfolding frame_reply
  shown e = sym (ap (λ f. text_unless f Frame (text_for (frame_of target section))) e)

  refused : (fault : Fault) → frame_refusal target section ≡ Some fault → refusal Frame fault ≡ frame_reply text_for target section
  unfolding frame_reply
  refused fault e = sym (ap (λ f. text_unless f Frame (text_for (frame_of target section))) e)

  module _ (count : ℕ) (hex : Bool) (files : List (List ℕ)) where
    abbrev Are : List ℕ → Reply → Type 0
    Are bytes reply = reply ≡ frame_reply text_for target bytes

    pub goes_refused_frame : (a : Option (List ℕ)) (stop : RunFault) → section_bytes hex (slice_get files 0) ≡ Some section
        → IsRefusal Frame (frame_refusal target section) stop → Goes count (OfFrame text_for target hex files) a a (Err stop)
    goes_refused_frame a stop bytes h =
        goes_section count 0 (section_bytes hex (slice_get files 0)) section Are a a (Err stop) bytes
        (goes_refusal count Frame (frame_refusal target section) (Are section) a stop refused h)

    pub goes_frame : (old new : Option (List ℕ)) (r : Result (Unit {0}) ReportFault) → section_bytes hex (slice_get files 0) ≡ Some section
        → frame_refusal target section ≡ None → Writes old new r (text_for (frame_of target section))
        → Goes count (OfFrame text_for target hex files) old new (ended_by r)
    goes_frame old new r bytes whole written =
        goes_section count 0 (section_bytes hex (slice_get files 0)) section Are old new (ended_by r) bytes
        (goes_text count (Are section) (text_for (frame_of target section)) old new r (shown whole) (λ reply i. i ∙ sym (shown whole))
        written)
