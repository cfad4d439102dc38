-- Reading one record of a section after another.
use Rattle.std.proofs.Common.{◌≡◌, ℕ, ◌<◌, ◌≤◌, Bool, true, false, cond, List, [], ◌∷◌, ◌++◌, length, map, Some, None, Result, Ok, Err, refl, sym, ap, subst, ◌∙◌, arith, append_assoc, inl, inr}
use Rattle.std.specs.Prelude.{◌==◌, ◌||◌}
use Rattle.std.specs.List.{list_any}
use Rattle.std.specs.Option.{option_or}
use Rattle.std.proofs.lemmas.List.{append-nil, map-append}
use Rattle.std.proofs.lemmas.List.Elements.{filter_map-append}
use Rattle.std.proofs.lemmas.List.Folds.{list_any-append}
use Rattle.dw_bytes.specs.declared.target.Target.{Target}
use Rattle.dw_bytes.specs.declared.fault.Fault.{Fault}
use Rattle.dw_bytes.specs.Answers.{values_in}
use Rattle.dw_bytes.specs.Reading.{section_from}
use Rattle.dw_frame.specs.Bounds.{ArePlaced, Ascends}
use Rattle.dw_frame.specs.Records.{Cie, Fde, Record, cie_record, fde_record, cie_in_record, fde_in_record, cies_among, fdes_among}
use Rattle.dw_eh_frame.specs.declared.pointer.Bases.{Bases}
use Rattle.dw_eh_frame.specs.Progress.{IsNotTaken, IsUnderWay, StopsReading, cie_offset, has_cie_at}
use Rattle.dw_eh_frame.specs.Records.{EhCie, EhFde, EhRecord, eh_cie, eh_fde, eh_nothing, in_dwarf, all_in_dwarf, eh_record_at, eh_records_from, eh_records_of, begins_at, lost, reading_fault_after, eh_reading_fault}
use Rattle.dw_eh_frame.specs.Views.{LiesAt}
use Rattle.dw_eh_frame.proofs.ExactRecords.{at-end, at-fault, next-is}
use Rattle.dw_eh_frame.proofs.Placed.{placed-later, placed-more, placed-few, placed-ascend}

-- ---- what one more record adds

with-cie : (records : List EhRecord) (e : EhCie) → all_in_dwarf (records ++ eh_cie e ∷ []) ≡ all_in_dwarf records ++ cie_record e.cie ∷ []
with-cie records e = filter_map-append in_dwarf records (eh_cie e ∷ [])

with-fde : (records : List EhRecord) (e : EhFde) → all_in_dwarf (records ++ eh_fde e ∷ []) ≡ all_in_dwarf records ++ fde_record e.fde ∷ []
with-fde records e = filter_map-append in_dwarf records (eh_fde e ∷ [])

with-nothing : (records : List EhRecord) (n : ℕ) → all_in_dwarf (records ++ eh_nothing n ∷ []) ≡ all_in_dwarf records
with-nothing records n = filter_map-append in_dwarf records (eh_nothing n ∷ []) ∙ append-nil (all_in_dwarf records)

cies-cie : (records : List Record) (c : Cie) → cies_among (records ++ cie_record c ∷ []) ≡ cies_among records ++ c ∷ []
cies-cie records c = filter_map-append cie_in_record records (cie_record c ∷ [])

cies-fde : (records : List Record) (f : Fde) → cies_among (records ++ fde_record f ∷ []) ≡ cies_among records
cies-fde records f = filter_map-append cie_in_record records (fde_record f ∷ []) ∙ append-nil (cies_among records)

fdes-cie : (records : List Record) (c : Cie) → fdes_among (records ++ cie_record c ∷ []) ≡ fdes_among records
fdes-cie records c = filter_map-append fde_in_record records (cie_record c ∷ []) ∙ append-nil (fdes_among records)

fdes-fde : (records : List Record) (f : Fde) → fdes_among (records ++ fde_record f ∷ []) ≡ fdes_among records ++ f ∷ []
fdes-fde records f = filter_map-append fde_in_record records (fde_record f ∷ [])

-- there are at most as many FDEs as records
pub fdes-fewer : (records : List Record) → length (fdes_among records) ≤ length records
fdes-fewer [] = omega arith
fdes-fewer (cie_record c ∷ records) = omega (arith, fdes-fewer records)
fdes-fewer (fde_record f ∷ records) = omega (arith, fdes-fewer records)

-- ---- what was read so far

pub under-way-first : (a : Bool) (bases : Bases) (target : Target) (section : List ℕ) (cies : List Cie) (fdes : List Fde)
    → cies ≡ [] → fdes ≡ [] → IsUnderWay a bases target section 0 cies fdes
unfolding eh_reading_fault
under-way-first a bases target section cies fdes no_cies no_fdes = record {
  inside = omega arith;
  records = [];
  read = refl;
  first = refl;
  cies_are = no_cies;
  fdes_are = no_fdes;
  placed = omega arith;
  known = λ n. ap (λ (l : List Cie). has_cie_at l n) (sym no_cies);
}

pub under-way-ascend : {a : Bool} {bases : Bases} {target : Target} {section : List ℕ} {at : ℕ} {cies : List Cie} {fdes : List Fde}
    → IsUnderWay a bases target section at cies fdes → Ascends cie_offset cies
under-way-ascend {target = target} {at = at} way =
    subst (Ascends cie_offset) (sym way.cies_are) (placed-ascend target 0 at (all_in_dwarf way.records) way.placed)

pub under-way-few : {a : Bool} {bases : Bases} {target : Target} {section : List ℕ} {at : ℕ} {cies : List Cie} {fdes : List Fde}
    → IsUnderWay a bases target section at cies fdes → length fdes ≤ length section
under-way-few {target = target} {at = at} way = omega (
  arith,
  ap length way.fdes_are,
  fdes-fewer (all_in_dwarf way.records),
  placed-few target 0 at (all_in_dwarf way.records) way.placed,
  way.inside,
)

-- ---- one more record

read-more : (a : Bool) (bases : Bases) (target : Target) (section : List ℕ) (at next : ℕ) (records : List EhRecord) (x : EhRecord)
    → eh_records_of a bases target section ≡ map Ok records ++ eh_records_from a bases target section at
    → eh_record_at a bases section (section_from target section at) ≡ Ok (x, section_from target section next)
    → eh_records_of a bases target section ≡ map Ok (records ++ x ∷ []) ++ eh_records_from a bases target section next
read-more a bases target section at next records x read is =
    read
    ∙ (ap (λ (items : List (Result EhRecord Fault)). map Ok records ++ items) (next-is a bases target section at next x is)
    ∙ (sym (append_assoc (map Ok records) (Ok x ∷ []) (eh_records_from a bases target section next))
    ∙ ap (λ (items : List (Result EhRecord Fault)). items ++ eh_records_from a bases target section next)
    (sym (map-append Ok records (x ∷ [])))))

or-false : (b : Bool) → (b || false) ≡ b
or-false true = refl
or-false false = refl

-- a record that is no CIE
known-still : (n : ℕ) (records : List EhRecord) (x : EhRecord) (b : Bool) → begins_at n x ≡ false → list_any (begins_at n) records ≡ b
    → list_any (begins_at n) (records ++ x ∷ []) ≡ b
known-still n records x b other is = list_any-append (begins_at n) records (x ∷ [])
    ∙ (ap (λ c. list_any (begins_at n) records || (c || false)) other ∙ (or-false (list_any (begins_at n) records) ∙ is))

pub under-way-nothing : (a : Bool) (bases : Bases) (target : Target) (section : List ℕ) (at next n : ℕ) (cies : List Cie) (fdes : List Fde)
    → IsUnderWay a bases target section at cies fdes
    → eh_record_at a bases section (section_from target section at) ≡ Ok (eh_nothing n, section_from target section next)
    → at < next → next ≤ length section → IsUnderWay a bases target section next cies fdes
under-way-nothing a bases target section at next n cies fdes way is forward inside =
    let same = with-nothing way.records n in
    record {
      inside = inside;
      records = way.records ++ eh_nothing n ∷ [];
      read = read-more a bases target section at next way.records (eh_nothing n) way.read is;
      first = way.first ∙ ap (reading_fault_after way.records) (next-is a bases target section at next (eh_nothing n) is);
      cies_are = way.cies_are ∙ ap cies_among (sym same);
      fdes_are = way.fdes_are ∙ ap fdes_among (sym same);
      placed = subst (ArePlaced target 0 next) (sym same)
          (placed-later target 0 at next (all_in_dwarf way.records) (omega (arith, forward)) way.placed);
      known = λ m. known-still m way.records (eh_nothing n) (has_cie_at cies m) refl (way.known m);
    }

pub under-way-cie : (a : Bool) (bases : Bases) (target : Target) (section : List ℕ) (at next : ℕ) (e : EhCie) (cies : List Cie) (fdes : List Fde)
    → IsUnderWay a bases target section at cies fdes
    → eh_record_at a bases section (section_from target section at) ≡ Ok (eh_cie e, section_from target section next)
    → LiesAt target at next (eh_cie e) → next ≤ length section
    → IsUnderWay a bases target section next (cies ++ e.cie ∷ []) fdes
under-way-cie a bases target section at next e cies fdes way is lies inside =
    let one = with-cie way.records e in
    record {
      inside = inside;
      records = way.records ++ eh_cie e ∷ [];
      read = read-more a bases target section at next way.records (eh_cie e) way.read is;
      first = way.first ∙ ap (reading_fault_after way.records) (next-is a bases target section at next (eh_cie e) is);
      cies_are = ap (λ (l : List Cie). l ++ e.cie ∷ []) way.cies_are
          ∙ (sym (cies-cie (all_in_dwarf way.records) e.cie) ∙ ap cies_among (sym one));
      fdes_are = way.fdes_are ∙ (sym (fdes-cie (all_in_dwarf way.records) e.cie) ∙ ap fdes_among (sym one));
      placed = subst (ArePlaced target 0 next) (sym one)
          (placed-more target 0 at next (all_in_dwarf way.records) (cie_record e.cie) way.placed lies.0 lies.1);
      known = λ n. list_any-append (begins_at n) way.records (eh_cie e ∷ [])
          ∙ (ap (λ b. b || ((e.cie.offset == n) || false)) (way.known n)
          ∙ sym (list_any-append (λ (c : Cie). c.offset == n) cies (e.cie ∷ [])));
    }

-- the CIE of an FDE is one of the records before it
still-first : (a : Bool) (bases : Bases) (target : Target) (section : List ℕ) (at next : ℕ) (records : List EhRecord) (e : EhFde) (b : Bool)
    → eh_record_at a bases section (section_from target section at) ≡ Ok (eh_fde e, section_from target section next)
    → list_any (begins_at e.fde.cie_pointer) records ≡ b
    → reading_fault_after records (eh_records_from a bases target section at) ≡ option_or (cond b None (Some (lost e)))
    (reading_fault_after (records ++ eh_fde e ∷ []) (eh_records_from a bases target section next))
still-first a bases target section at next records e b is found =
    ap (reading_fault_after records) (next-is a bases target section at next (eh_fde e) is)
    ∙ ap (λ c. option_or (cond c None (Some (lost e))) (reading_fault_after (records ++ eh_fde e ∷ []) (eh_records_from a bases target section next)))
    found

pub under-way-fde : (a : Bool) (bases : Bases) (target : Target) (section : List ℕ) (at next : ℕ) (e : EhFde) (cies : List Cie)
    (fdes : List Fde) → IsUnderWay a bases target section at cies fdes
    → eh_record_at a bases section (section_from target section at) ≡ Ok (eh_fde e, section_from target section next)
    → LiesAt target at next (eh_fde e) → next ≤ length section → has_cie_at cies e.fde.cie_pointer ≡ true
    → IsUnderWay a bases target section next cies (fdes ++ e.fde ∷ [])
under-way-fde a bases target section at next e cies fdes way is lies inside has =
    let one = with-fde way.records e in
    record {
      inside = inside;
      records = way.records ++ eh_fde e ∷ [];
      read = read-more a bases target section at next way.records (eh_fde e) way.read is;
      first = way.first ∙ still-first a bases target section at next way.records e true is (way.known e.fde.cie_pointer ∙ has);
      cies_are = way.cies_are ∙ (sym (cies-fde (all_in_dwarf way.records) e.fde) ∙ ap cies_among (sym one));
      fdes_are = ap (λ (l : List Fde). l ++ e.fde ∷ []) way.fdes_are
          ∙ (sym (fdes-fde (all_in_dwarf way.records) e.fde) ∙ ap fdes_among (sym one));
      placed = subst (ArePlaced target 0 next) (sym one)
          (placed-more target 0 at next (all_in_dwarf way.records) (fde_record e.fde) way.placed lies.0 lies.1);
      known = λ n. known-still n way.records (eh_fde e) (has_cie_at cies n) refl (way.known n);
    }

-- ---- the end

values-of : (records : List EhRecord) → values_in (map Ok records) ≡ records
values-of [] = refl
values-of (x ∷ records) = ap (λ (l : List EhRecord). x ∷ l) (values-of records)

under-way-records : (a : Bool) (bases : Bases) (target : Target) (section : List ℕ) (at : ℕ) (cies : List Cie) (fdes : List Fde)
    → (way : IsUnderWay a bases target section at cies fdes) → length section ≤ at
    → all_in_dwarf (values_in (eh_records_of a bases target section)) ≡ all_in_dwarf way.records
under-way-records a bases target section at cies fdes way end =
    ap (λ (items : List (Result EhRecord Fault)). all_in_dwarf (values_in items))
    (way.read ∙ (ap (λ (items : List (Result EhRecord Fault)). map Ok way.records ++ items) (at-end a bases target section at end)
    ∙ append-nil (map Ok way.records))) ∙ ap all_in_dwarf (values-of way.records)

pub under-way-cies : (a : Bool) (bases : Bases) (target : Target) (section : List ℕ) (at : ℕ) (cies : List Cie) (fdes : List Fde)
    → IsUnderWay a bases target section at cies fdes → length section ≤ at
    → cies ≡ cies_among (all_in_dwarf (values_in (eh_records_of a bases target section)))
under-way-cies a bases target section at cies fdes way end =
    way.cies_are ∙ ap cies_among (sym (under-way-records a bases target section at cies fdes way end))

pub under-way-fdes : (a : Bool) (bases : Bases) (target : Target) (section : List ℕ) (at : ℕ) (cies : List Cie) (fdes : List Fde)
    → IsUnderWay a bases target section at cies fdes → length section ≤ at
    → fdes ≡ fdes_among (all_in_dwarf (values_in (eh_records_of a bases target section)))
under-way-fdes a bases target section at cies fdes way end =
    way.fdes_are ∙ ap fdes_among (sym (under-way-records a bases target section at cies fdes way end))

pub under-way-placed : (a : Bool) (bases : Bases) (target : Target) (section : List ℕ) (at : ℕ) (cies : List Cie) (fdes : List Fde)
    → IsUnderWay a bases target section at cies fdes → length section ≤ at
    → ArePlaced target 0 (length section) (all_in_dwarf (values_in (eh_records_of a bases target section)))
under-way-placed a bases target section at cies fdes way end =
    subst (ArePlaced target 0 (length section)) (sym (under-way-records a bases target section at cies fdes way end))
    (placed-later target 0 at (length section) (all_in_dwarf way.records) way.inside way.placed)

pub under-way-faultless : (a : Bool) (bases : Bases) (target : Target) (section : List ℕ) (at : ℕ) (cies : List Cie) (fdes : List Fde)
    → IsUnderWay a bases target section at cies fdes → length section ≤ at → eh_reading_fault a bases target section ≡ None
under-way-faultless a bases target section at cies fdes way end =
    way.first ∙ ap (reading_fault_after way.records) (at-end a bases target section at end)

-- ---- faults

pub under-way-fault : (a : Bool) (bases : Bases) (target : Target) (section : List ℕ) (at : ℕ) (cies : List Cie) (fdes : List Fde)
    (fault : Fault) → IsUnderWay a bases target section at cies fdes → at < length section
    → eh_record_at a bases section (section_from target section at) ≡ Err fault → StopsReading a bases target section fault
under-way-fault a bases target section at cies fdes fault way some is =
    inr (way.first ∙ ap (reading_fault_after way.records) (at-fault a bases target section at fault some is))

pub under-way-lost : (a : Bool) (bases : Bases) (target : Target) (section : List ℕ) (at next : ℕ) (e : EhFde) (cies : List Cie) (fdes : List Fde)
    (fault : Fault) → IsUnderWay a bases target section at cies fdes
    → eh_record_at a bases section (section_from target section at) ≡ Ok (eh_fde e, section_from target section next)
    → IsNotTaken cies e.fde fault → StopsReading a bases target section fault
under-way-lost a bases target section at next e cies fdes fault way is (inl h) = inl h
under-way-lost a bases target section at next e cies fdes fault way is (inr (none, h)) =
    inr (way.first
    ∙ (still-first a bases target section at next way.records e false is (way.known e.fde.cie_pointer ∙ none) ∙ ap Some (sym h)))
