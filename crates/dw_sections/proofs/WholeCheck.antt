-- Two sections have no fault exactly if they are well formed.
use Rattle.std.proofs.Common.{◌≡◌, ◌⊎◌, ℕ, ◌^◌, ◌<◌, ◌↔◌, List, length, refl, arith, inl, inr}
use Rattle.std.specs.Prelude.{Option, Some, None, Result, Ok, Err, IfOk, IfErr}
use Rattle.std.specs.Option.{option_or}
use Rattle.std.proofs.lemmas.Bool.Decides.{nat_tests}
use Rattle.dw_bytes.specs.declared.target.Target.{Target}
use Rattle.dw_bytes.specs.declared.fault.Fault.{Fault}
use Rattle.dw_bytes.specs.Answers.{memory}
use Rattle.dw_rows.specs.Section.{section_fault}
use Rattle.dw_rows.specs.WellFormed as frames
use Rattle.dw_loclists.specs.Reading.{lists_fault}
use Rattle.dw_loclists.specs.Lists as tables
use Rattle.dw_sections.specs.Checked.{AreWellFormed, Checks, check_fault, fault_within, length_fault}
use Rattle.dw_sections.specs.declared.section.Section.{Section}
use Rattle.dw_sections.specs.declared.section.Section.TheVariants.{Frame, Lists}
use Rattle.dw_sections.specs.declared.whole_check.CheckFault.{CheckFault}
use Rattle.dw_sections.proofs.Lengths.{short_length}

-- ---- the first fault of two sections

option_or_none : (a b : Option CheckFault) → option_or a b ≡ None → (a ≡ None) × (b ≡ None)
option_or_none None b h = (refl, h)
option_or_none (Some fault) b h = absurd (other fault h)
  where
    other : (fault : CheckFault) → Some fault ≡ None → ⊥
    other fault e = cc

within_none : (section : Section) (first : Option Fault) → fault_within section first ≡ None → first ≡ None
within_none section None h = refl
within_none section (Some fault) h = absurd (other _ h)
  where
    other : (found : CheckFault) → Some found ≡ None → ⊥
    other found e = cc

short : (bytes : List ℕ) → length_fault bytes ≡ None → length bytes < 2 ^ 32
short bytes h = grind (arith, nat_tests, h)

-- if two sections have no fault together, neither section has one by itself
pub each_without_fault : (target : Target) (frame lists : List ℕ) → check_fault target frame lists ≡ None
    → (section_fault target frame ≡ None) × (lists_fault target lists ≡ None)
unfolding check_fault
each_without_fault target frame lists h =
    let a = option_or_none (fault_within Frame (length_fault frame)) _ h in
    let b = option_or_none (fault_within Lists (length_fault lists)) _ a.1 in
    let c = option_or_none (fault_within Frame (section_fault target frame)) _ b.1 in
    (within_none Frame _ c.0, within_none Lists _ c.1)

-- two sections have no fault exactly if they are well formed, assuming that a single section of
-- either kind has no fault exactly if it is well formed
pub without_fault : ((target : Target) (section : List ℕ) → (section_fault target section ≡ None) ↔ frames.IsWellFormed target section)
    → ((target : Target) (section : List ℕ) → (lists_fault target section ≡ None) ↔ tables.IsWellFormed target section)
    → (target : Target) (frame lists : List ℕ) → (check_fault target frame lists ≡ None) ↔ AreWellFormed target frame lists
unfolding check_fault
without_fault of_frames of_lists target frame lists = (to, from)
  where
    to : check_fault target frame lists ≡ None → AreWellFormed target frame lists
    to h =
        let a = option_or_none (fault_within Frame (length_fault frame)) _ h in
        let b = option_or_none (fault_within Lists (length_fault lists)) _ a.1 in
        let c = option_or_none (fault_within Frame (section_fault target frame)) _ b.1 in
        record {
          frame_is_short = short frame (within_none Frame _ a.0);
          lists_are_short = short lists (within_none Lists _ b.0);
          frame_is_right = (of_frames target frame).0 (within_none Frame _ c.0);
          lists_are_right = (of_lists target lists).0 (within_none Lists _ c.1);
        }

    from : AreWellFormed target frame lists → check_fault target frame lists ≡ None
    from right =
        rw (
          short_length frame right.frame_is_short,
          short_length lists right.lists_are_short,
          (of_frames target frame).1 right.frame_is_right,
          (of_lists target lists).1 right.lists_are_right,
        ) refl

-- ---- a check that names the first fault accepts exactly the well-formed sections

pub accepts : {X : Type 0} (first : Option CheckFault) (W : Type 0) (answer : Result X CheckFault) → Checks first answer
    → (first ≡ None) ↔ W → IfOk answer (λ _. W)
accepts first W (Ok x) h exact = exact.0 h
accepts first W (Err found) h exact = tt

pub refuses : {X : Type 0} (first : Option CheckFault) (W : Type 0) (answer : Result X CheckFault) → Checks first answer
    → (first ≡ None) ↔ W → IfErr answer (λ found. (found.fault ≡ memory) ⊎ (W → ⊥))
refuses first W (Ok x) h exact = tt
refuses first W (Err found) (inl lacks) exact = inl lacks
refuses first W (Err found) (inr is) exact = inr (λ right. other (exact.1 right) is)
  where
    other : first ≡ None → first ≡ Some found → ⊥
    other none some = cc
