-- Counting the records of a section, one after another.
use Rattle.std.proofs.Common.{◌≡◌, ℕ, ◌≤◌, ◌<◌, Bool, true, false, cond, List, [], ◌∷◌, ◌++◌, length, map, Some, None, Ok, refl, sym, ap, subst}
use Rattle.std.specs.Prelude.{◌==◌, ◌||◌}
use Rattle.dw_bytes.specs.declared.target.Target.{Target}
use Rattle.dw_bytes.specs.Reading.{section_from}
use Rattle.dw_frame.specs.Bounds.{Ascends}
use Rattle.dw_frame.specs.Records.{Cie, Fde}
use Rattle.dw_frame.specs.Views.{cie_of}
use Rattle.dw_rules.specs.ProgramState.{ProgramState}
use Rattle.dw_rows.specs.Section.{cie_at}
use Rattle.dw_eh_frame.specs.declared.pointer.Bases.{Bases}
use Rattle.dw_eh_frame.specs.Progress.{IsUnderWay, cie_offset, has_cie_at}
use Rattle.dw_eh_frame.specs.Records.{EhCie, EhFde, eh_cie, eh_fde, eh_nothing, eh_record_at}
use Rattle.dw_eh_frame.specs.Views.{LiesAt}
use Rattle.dw_eh_frame.proofs.Steps.{under-way-ascend, under-way-cie, under-way-fde, under-way-nothing}
use Rattle.dw_eh_rows.specs.declared.tally.Tally.{Tally}
use Rattle.dw_eh_rows.specs.Counting.{IsCounted, IsReady, IsTally}

pub counted-ascend : {a : Bool} {bases : Bases} {target : Target} {section : List ℕ} {at : ℕ} {t : Tally} {context : ProgramState}
    → IsCounted a bases target section at t context → Ascends cie_offset (map cie_of t.cies.items)
counted-ascend so_far = under-way-ascend so_far.way

has-found : (cies : List Cie) (n : ℕ) (c : Cie) → cie_at cies n ≡ Some c → has_cie_at cies n ≡ true
has-found [] n c is = absurd cc
has-found (d ∷ cies) n c is = go (d.offset == n) is (has-found cies n c)
  where
    go : (b : Bool) → cond b (Some d) (cie_at cies n) ≡ Some c → (cie_at cies n ≡ Some c → has_cie_at cies n ≡ true)
        → (b || has_cie_at cies n) ≡ true
    go true found later = refl
    go false found later = later found

pub counted-nothing : (a : Bool) (bases : Bases) (target : Target) (section : List ℕ) (at next n : ℕ) (t : Tally) (context : ProgramState)
    → IsCounted a bases target section at t context
    → eh_record_at a bases section (section_from target section at) ≡ Ok (eh_nothing n, section_from target section next)
    → at < next → next ≤ length section → IsCounted a bases target section next t context
counted-nothing a bases target section at next n t context so_far is forward inside = record {
  fdes = so_far.fdes;
  way = under-way-nothing a bases target section at next n (map cie_of t.cies.items) so_far.fdes so_far.way is forward inside;
  tally = so_far.tally;
  ready = so_far.ready;
}

pub counted-cie : (a : Bool) (bases : Bases) (target : Target) (section : List ℕ) (at next : ℕ) (e : EhCie) (old new : Tally)
    (before after : ProgramState) → IsCounted a bases target section at old before
    → eh_record_at a bases section (section_from target section at) ≡ Ok (eh_cie e, section_from target section next)
    → LiesAt target at next (eh_cie e) → next ≤ length section
    → map cie_of new.cies.items ≡ map cie_of old.cies.items ++ e.cie ∷ []
    → ((cies : List Cie) (fdes : List Fde) → IsTally cies fdes old → IsTally (cies ++ e.cie ∷ []) fdes new)
    → new.place ≡ None → IsCounted a bases target section next new after
counted-cie a bases target section at next e old new before after so_far is lies inside added counted place = record {
  fdes = so_far.fdes;
  way = rw added (under-way-cie a bases target section at next e (map cie_of old.cies.items) so_far.fdes so_far.way is lies inside);
  tally = subst (λ (l : List Cie). IsTally l so_far.fdes new) (sym added) (counted (map cie_of old.cies.items) so_far.fdes so_far.tally);
  ready = rw place tt;
}

pub counted-fde : (a : Bool) (bases : Bases) (target : Target) (section : List ℕ) (at next : ℕ) (e : EhFde) (c : Cie) (old new : Tally)
    (before after : ProgramState) → IsCounted a bases target section at old before
    → eh_record_at a bases section (section_from target section at) ≡ Ok (eh_fde e, section_from target section next)
    → LiesAt target at next (eh_fde e) → next ≤ length section
    → cie_at (map cie_of old.cies.items) e.fde.cie_pointer ≡ Some c → new.cies ≡ old.cies
    → ((fdes : List Fde) → IsTally (map cie_of old.cies.items) fdes old → IsTally (map cie_of old.cies.items) (fdes ++ e.fde ∷ []) new)
    → IsReady new after → IsCounted a bases target section next new after
counted-fde a bases target section at next e c old new before after so_far is lies inside found same counted ready = record {
  fdes = so_far.fdes ++ e.fde ∷ [];
  way = subst (λ (l : List Cie). IsUnderWay a bases target section next l (so_far.fdes ++ e.fde ∷ [])) kept
      (under-way-fde a bases target section at next e (map cie_of old.cies.items) so_far.fdes so_far.way is lies inside
      (has-found (map cie_of old.cies.items) e.fde.cie_pointer c found));
  tally = subst (λ (l : List Cie). IsTally l (so_far.fdes ++ e.fde ∷ []) new) kept (counted so_far.fdes so_far.tally);
  ready = ready;
}
  where
    kept : map cie_of old.cies.items ≡ map cie_of new.cies.items
    kept = sym (ap (λ cies. map cie_of cies.items) same)
