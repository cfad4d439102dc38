-- The reply for two sections: there is exactly one. And how a run ends if the check of two sections
-- fails.
use Rattle.std.proofs.Common.{◌≡◌, ◌⊎◌, ℕ, List, ap, ap₂, sym, refl, ◌∙◌, inl, inr}
use Rattle.std.specs.Prelude.{Option, Some, None}
use Rattle.dw_bytes.specs.declared.target.Target.{Target}
use Rattle.dw_bytes.specs.declared.fault.Fault.{Fault}
use Rattle.dw_bytes.specs.Answers.{memory}
use Rattle.dw_rows.specs.Section.{FrameSection, frame_of}
use Rattle.dw_rows.specs.Section as rows
use Rattle.dw_loclists.specs.Reading.{ListSection, IsChecked}
use Rattle.dw_sections.specs.Checked.{check_fault, fault_within}
use Rattle.dw_rows.proofs.sections.CheckedSections.{accepted as accepted_frame}
use Rattle.dw_check.specs.Runs.{Reply, text, refusal, not_hex, bad_line, OfChecked}
use Rattle.dw_check.specs.Stops.{RefusesBoth, IsRefusal}
use Rattle.dw_sections.specs.declared.section.Section.{Section}
use Rattle.dw_check.specs.declared.stop.RunFault.{RunFault}
use Rattle.dw_check.specs.declared.stop.RunFault.TheVariants.{Refused, BadHex, StateLine, Memory, Output}
use Rattle.dw_sections.specs.declared.whole_check.CheckFault.{CheckFault}
use Rattle.dw_sections.proofs.WholeCheck.{each_without_fault}

-- ---- how a run ends if the check fails

lacked : (first : Option CheckFault) (section : Section) (stop : RunFault) → IsRefusal section None stop → RefusesBoth first stop
lacked first section (Refused s f) h = let never : None ≡ Some f = h.1 in cc
lacked first section Memory h = tt
lacked first section (BadHex n) h = absurd h
lacked first section (StateLine n) h = absurd h
lacked first section Output h = absurd h

named : (first : Option CheckFault) (found : CheckFault) (stop : RunFault) → first ≡ Some found
    → IsRefusal found.section (Some found.fault) stop → RefusesBoth first stop
named first found (Refused s f) is h =
    let both : Some found.fault ≡ Some f = h.1 in
    let same : found.fault ≡ f = cc in
    is ∙ ap₂ (λ (t : Section) (g : Fault). fault_within t (Some g)) (sym h.0) same
named first found Memory is h = tt
named first found (BadHex n) is h = absurd h
named first found (StateLine n) is h = absurd h
named first found Output is h = absurd h

-- A check of two sections failed with `found`: their first fault, or that memory ran out. `each`
-- says that `IsRefusal` holds for the section in `found` and `stop`, with the fault in `found` or,
-- if memory ran out, with any fault or None. Then `RefusesBoth` holds for `stop`.
pub stopped : (first : Option CheckFault) (found : CheckFault) (stop : RunFault)
    → ((own : Option Fault) → (found.fault ≡ memory) ⊎ (own ≡ Some found.fault) → IsRefusal found.section own stop)
    → (found.fault ≡ memory) ⊎ (first ≡ Some found) → RefusesBoth first stop
stopped first found stop each (inl lacks) = lacked first found.section stop (each None (inl lacks))
stopped first found stop each (inr is) = named first found stop is (each (Some found.fault) (inr refl))

-- ---- there is at most one reply, and there is one

module _ (target : Target) (frame lists : List ℕ) (Shows : FrameSection → ListSection → List ℕ → Type 0) where
  abbrev Shown : List ℕ → Type 0
  Shown written = Shows (frame_of target frame) (record { target = target; section = lists }) written

  -- neither section has a fault
  abbrev AreChecked : Type 0
  AreChecked = rows.IsChecked (frame_of target frame) × IsChecked (record { target = target; section = lists })

  accepted : check_fault target frame lists ≡ None → AreChecked
  accepted none = let each = each_without_fault target frame lists none in (accepted_frame target frame each.0, each.1)

  never : (fault : CheckFault) → check_fault target frame lists ≡ None → check_fault target frame lists ≡ Some fault → ⊥
  never fault none some = let both : None ≡ Some fault = sym none ∙ some in cc

  pub one_of_checked : (AreChecked → (s t : List ℕ) → Shown s → Shown t → s ≡ t) → (r s : Reply)
      → OfChecked target frame lists Shows r → OfChecked target frame lists Shows s → r ≡ s
  one_of_checked one (text a) (text b) h k = ap text (one (accepted h.0) a b h.1 k.1)
  one_of_checked one (text a) (refusal q g) h k = absurd (never (record { section = q; fault = g }) h.0 k)
  one_of_checked one (refusal p f) (text b) h k = absurd (never (record { section = p; fault = f }) k.0 h)
  one_of_checked one (refusal p f) (refusal q g) h k =
      same (record { section = p; fault = f }) (record { section = q; fault = g }) (sym h ∙ k)
    where
      same : (a b : CheckFault) → Some a ≡ Some b → refusal a.section a.fault ≡ refusal b.section b.fault
      same a b both = let one : a ≡ b = cc in ap (λ (c : CheckFault). refusal c.section c.fault) one
  one_of_checked one (not_hex n) s h k = absurd h
  one_of_checked one (bad_line n) s h k = absurd h
  one_of_checked one (text a) (not_hex n) h k = absurd k
  one_of_checked one (text a) (bad_line n) h k = absurd k
  one_of_checked one (refusal p f) (not_hex n) h k = absurd k
  one_of_checked one (refusal p f) (bad_line n) h k = absurd k

  pub each_of_checked : (AreChecked → (t : List ℕ) × Shown t) → (r : Reply) × OfChecked target frame lists Shows r
  each_of_checked some = by (check_fault target frame lists) refl
    where
      by : (first : Option CheckFault) → check_fault target frame lists ≡ first → (r : Reply) × OfChecked target frame lists Shows r
      by None e = let shown = some (accepted e) in (text shown.0, (e, shown.1))
      by (Some found) e = (refusal found.section found.fault, e)
