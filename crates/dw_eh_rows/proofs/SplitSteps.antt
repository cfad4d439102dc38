-- Splitting the records of a section, one after another.
use Rattle.std.proofs.Common.{◌≡◌, ℕ, ◌≤◌, Bool, List, [], ◌∷◌, ◌++◌, length, Option, Some, None, Result, Ok, Err, refl, sym, ap, subst, ◌∙◌, arith}
use Rattle.std.specs.List.{fold}
use Rattle.std.proofs.lemmas.List.{append-nil}
use Rattle.std.proofs.lemmas.List.Elements.{filter_map-append}
use Rattle.dw_bytes.specs.declared.target.Target.{Target}
use Rattle.dw_bytes.specs.declared.fault.Fault.{Fault}
use Rattle.dw_bytes.specs.Answers.{fault_in, values_in}
use Rattle.dw_frame.specs.Bounds.{ArePlaced, Ascends}
use Rattle.dw_frame.specs.Records.{Cie, Fde, cie_record, fde_record, cie_in_record, fde_in_record, cies_among, fdes_among}
use Rattle.dw_eh_frame.specs.declared.pointer.Bases.{Bases}
use Rattle.dw_eh_frame.specs.Items.{Item, items_from, items_of}
use Rattle.dw_eh_frame.specs.Progress.{cie_offset}
use Rattle.dw_eh_frame.specs.Records.{EhRecord, eh_cie, eh_fde, eh_nothing, in_dwarf, all_in_dwarf}
use Rattle.dw_eh_frame.specs.Views.{LiesAt}
use Rattle.dw_eh_frame.proofs.Placed.{placed-later, placed-more, placed-ascend}
use Rattle.dw_eh_rows.specs.KeptRecords.{Split, fault_after, keep_unless, leave_out, split_one, split_records}
use Rattle.dw_eh_rows.specs.Signals.{signal_frames}
use Rattle.dw_eh_rows.specs.Splitting.{IsSplit, Parts, with_fault, with_item, with_record, with_record_unless}
use Rattle.dw_eh_rows.specs.declared.kept_records.LeftOutRecord.{LeftOutRecord}
use Rattle.dw_eh_rows.proofs.SignalsRead.{frames-append}

-- ---- what one more record adds

dwarf-more : (kept : List EhRecord) (x : EhRecord) → all_in_dwarf (kept ++ x ∷ []) ≡ all_in_dwarf kept ++ all_in_dwarf (x ∷ [])
dwarf-more kept x = filter_map-append in_dwarf kept (x ∷ [])

cies-more : (kept : List EhRecord) (x : EhRecord) (cies : List Cie) → cies ≡ cies_among (all_in_dwarf kept)
    → cies ++ cies_among (all_in_dwarf (x ∷ [])) ≡ cies_among (all_in_dwarf (kept ++ x ∷ []))
cies-more kept x cies are = ap (λ (l : List Cie). l ++ cies_among (all_in_dwarf (x ∷ []))) are
    ∙ (sym (filter_map-append cie_in_record (all_in_dwarf kept) (all_in_dwarf (x ∷ []))) ∙ ap cies_among (sym (dwarf-more kept x)))

fdes-more : (kept : List EhRecord) (x : EhRecord) (fdes : List Fde) → fdes ≡ fdes_among (all_in_dwarf kept)
    → fdes ++ fdes_among (all_in_dwarf (x ∷ [])) ≡ fdes_among (all_in_dwarf (kept ++ x ∷ []))
fdes-more kept x fdes are = ap (λ (l : List Fde). l ++ fdes_among (all_in_dwarf (x ∷ []))) are
    ∙ (sym (filter_map-append fde_in_record (all_in_dwarf kept) (all_in_dwarf (x ∷ []))) ∙ ap fdes_among (sym (dwarf-more kept x)))

placed-one : (target : Target) (at next : ℕ) (kept : List EhRecord) (x : EhRecord) → at ≤ next → ArePlaced target 0 at (all_in_dwarf kept)
    → LiesAt target at next x → ArePlaced target 0 next (all_in_dwarf kept ++ all_in_dwarf (x ∷ []))
placed-one target at next kept (eh_cie e) le placed lies =
    placed-more target 0 at next (all_in_dwarf kept) (cie_record e.cie) placed lies.0 lies.1
placed-one target at next kept (eh_fde e) le placed lies =
    placed-more target 0 at next (all_in_dwarf kept) (fde_record e.fde) placed lies.0 lies.1
placed-one target at next kept (eh_nothing n) le placed lies =
    subst (ArePlaced target 0 next) (sym (append-nil (all_in_dwarf kept))) (placed-later target 0 at next (all_in_dwarf kept) le placed)

-- ---- so far

pub split-first : (a : Bool) (bases : Bases) (target : Target) (section : List ℕ) (p : Parts) → p.cies ≡ [] → p.fdes ≡ [] → p.signals ≡ []
    → p.left_out ≡ [] → IsSplit a bases target section 0 p
unfolding split_records
split-first a bases target section p no_cies no_fdes no_signals none = record {
  inside = omega arith;
  so_far = record { kept = []; left_out = [] };
  split = refl;
  faults = refl;
  cies_are = no_cies;
  fdes_are = no_fdes;
  signals_are = no_signals;
  left_out_are = none;
  placed = omega arith;
}

pub split-ascend : {a : Bool} {bases : Bases} {target : Target} {section : List ℕ} {at : ℕ} {p : Parts}
    → IsSplit a bases target section at p → Ascends cie_offset p.cies
split-ascend {target = target} {at = at} way =
    subst (Ascends cie_offset) (sym way.cies_are) (placed-ascend target 0 at (all_in_dwarf way.so_far.kept) way.placed)

-- ---- one more item

-- the items from an offset on are this one and those from a later offset on
abbrev IsNext : Bool → Bases → Target → List ℕ → ℕ → ℕ → Item → Type 0
IsNext a bases target section at next item = items_from a bases target section at ≡ Ok item ∷ items_from a bases target section next

split-next : (a : Bool) (bases : Bases) (target : Target) (section : List ℕ) (at next : ℕ) (item : Item) (s t : Split)
    → split_records a bases target section ≡ fold split_one s (values_in (items_from a bases target section at))
    → IsNext a bases target section at next item → split_one s item ≡ t
    → split_records a bases target section ≡ fold split_one t (values_in (items_from a bases target section next))
split-next a bases target section at next item s t split is one =
    split
    ∙ (ap (λ (items : List (Result Item Fault)). fold split_one s (values_in items)) is
    ∙ ap (λ (u : Split). fold split_one u (values_in (items_from a bases target section next))) one)

pub split-left : (a : Bool) (bases : Bases) (target : Target) (section : List ℕ) (at next : ℕ) (read : Result EhRecord Fault) (fault : Fault) (p : Parts)
    → (way : IsSplit a bases target section at p) → IsNext a bases target section at next (at, read)
    → split_one way.so_far (at, read) ≡ leave_out way.so_far at fault → at ≤ next → next ≤ length section
    → IsSplit a bases target section next (with_fault p at fault)
split-left a bases target section at next read fault p way is one forward inside = record {
  inside = inside;
  so_far = leave_out way.so_far at fault;
  split = split-next a bases target section at next (at, read) way.so_far (leave_out way.so_far at fault) way.split is one;
  faults = way.faults ∙ ap (λ (items : List (Result Item Fault)). fault_in items) is;
  cies_are = way.cies_are;
  fdes_are = way.fdes_are;
  signals_are = way.signals_are;
  left_out_are = ap (λ (l : List LeftOutRecord). l ++ record { offset = at; fault = fault } ∷ []) way.left_out_are;
  placed = placed-later target 0 at next (all_in_dwarf way.so_far.kept) forward way.placed;
}

pub split-kept : (a : Bool) (bases : Bases) (target : Target) (section : List ℕ) (at next : ℕ) (x : EhRecord) (p : Parts)
    → (way : IsSplit a bases target section at p) → IsNext a bases target section at next (at, Ok x)
    → split_one way.so_far (at, Ok x) ≡ keep_unless way.so_far at x None → at ≤ next → next ≤ length section → LiesAt target at next x
    → IsSplit a bases target section next (with_record p x)
split-kept a bases target section at next x p way is one forward inside lies = record {
  inside = inside;
  so_far = keep_unless way.so_far at x None;
  split = split-next a bases target section at next (at, Ok x) way.so_far (keep_unless way.so_far at x None) way.split is one;
  faults = way.faults ∙ ap (λ (items : List (Result Item Fault)). fault_in items) is;
  cies_are = cies-more way.so_far.kept x p.cies way.cies_are;
  fdes_are = fdes-more way.so_far.kept x p.fdes way.fdes_are;
  signals_are = ap (λ l. l ++ signal_frames (x ∷ [])) way.signals_are ∙ sym (frames-append way.so_far.kept (x ∷ []));
  left_out_are = way.left_out_are;
  placed = subst (ArePlaced target 0 next) (sym (dwarf-more way.so_far.kept x))
      (placed-one target at next way.so_far.kept x forward way.placed lies);
}

pub split-record : (a : Bool) (bases : Bases) (target : Target) (section : List ℕ) (at next : ℕ) (x : EhRecord) (p : Parts)
    → IsSplit a bases target section at p → IsNext a bases target section at next (at, Ok x) → at ≤ next → next ≤ length section
    → LiesAt target at next x → IsSplit a bases target section next (with_item p (at, Ok x))
split-record a bases target section at next x p way is forward inside lies =
    go (fault_after p.cies x) (ap (λ (l : List Cie). fault_after l x) (sym way.cies_are))
  where
    go : (why : Option Fault) → fault_after (cies_among (all_in_dwarf way.so_far.kept)) x ≡ why
        → IsSplit a bases target section next (with_record_unless p at x why)
    go None same = split-kept a bases target section at next x p way is (ap (keep_unless way.so_far at x) same) forward inside lies
    go (Some fault) same =
        split-left a bases target section at next (Ok x) fault p way is (ap (keep_unless way.so_far at x) same) forward inside

-- ---- the end

pub split-end : (a : Bool) (bases : Bases) (target : Target) (section : List ℕ) (at : ℕ) (p : Parts)
    → (way : IsSplit a bases target section at p) → items_from a bases target section at ≡ []
    → split_records a bases target section ≡ way.so_far
split-end a bases target section at p way end =
    way.split ∙ ap (λ (items : List (Result Item Fault)). fold split_one way.so_far (values_in items)) end

pub split-faultless : (a : Bool) (bases : Bases) (target : Target) (section : List ℕ) (at : ℕ) (p : Parts)
    → IsSplit a bases target section at p → items_from a bases target section at ≡ [] → fault_in (items_of a bases target section) ≡ None
split-faultless a bases target section at p way end = way.faults ∙ ap (λ (items : List (Result Item Fault)). fault_in items) end

pub split-fault : (a : Bool) (bases : Bases) (target : Target) (section : List ℕ) (at : ℕ) (p : Parts) (fault : Fault)
    → IsSplit a bases target section at p → items_from a bases target section at ≡ Err fault ∷ []
    → fault_in (items_of a bases target section) ≡ Some fault
split-fault a bases target section at p fault way is = way.faults ∙ ap (λ (items : List (Result Item Fault)). fault_in items) is
