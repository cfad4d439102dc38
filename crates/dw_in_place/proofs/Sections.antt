-- What look-ups in place give in a section without fault.
use Rattle.std.proofs.Common.{◌≡◌, ℕ, zero, suc, ◌<◌, Bool, true, false, cond, List, [], ◌∷◌, ◌++◌, length, Option, Some, None, Result, Ok, Contains, refl, sym, ap, subst, ◌∙◌, arith}
use Rattle.std.proofs.lemmas.Bool.{lt-ltb}
use Rattle.std.proofs.lemmas.List.{length-append}
use Rattle.dw_bytes.specs.declared.target.Target.{Target}
use Rattle.dw_bytes.specs.declared.fault.Fault.{Fault}
use Rattle.dw_frame.specs.Records.{Cie, Fde, Record, cie_record, fde_record, cies_among}
use Rattle.dw_rules.proofs.Search.{ascending-same}
use Rattle.dw_rows.specs.AddressIndex.{fde_offset}
use Rattle.dw_rows.specs.Section.{Covers, IsChecked, cie_at, covers, row_of}
use Rattle.dw_rows.proofs.Faults.{found-at}
use Rattle.dw_rows.proofs.rows.Lookups.{row-none}
use Rattle.dw_rows.proofs.sections.CheckedSections.{checked-parts, checked-cies-ascend, checked-fdes-ascend, checked-fdes-sound}
use Rattle.dw_rows.proofs.sections.Parts.{good-past}
use Rattle.dw_eh_frame.specs.declared.pointer.Bases.{Bases}
use Rattle.dw_eh_frame.specs.Copies.{eh_frame_records}
use Rattle.dw_eh_frame.specs.Records.{EhCie, EhFde, EhRecord, eh_cie, eh_fde, eh_nothing, all_in_dwarf}
use Rattle.dw_eh_rows.specs.Section.{eh_frame_of}
use Rattle.dw_eh_rows.specs.Signals.{eh_fdes}
use Rattle.dw_eh_rows.proofs.Among.{later, eh-record, fde-record}
use Rattle.dw_eh_rows.proofs.WholeSections.{IsFaultless as IsFaultlessSection, read-of}
use Rattle.dw_in_place.specs.InPlace.{alone, lying, unless_fault, fde_at, fde_in_place_fault, row_of_fde}
use Rattle.dw_in_place.specs.LookUps.{GivesRow, LeadsToAll, record_offset, fde_by_entry}
use Rattle.dw_in_place.specs.SearchTables.{Table, Finds}
use Rattle.dw_in_place.proofs.AtOffset.{fde-at-is, covering-is, covers-so, covers-then}
use Rattle.dw_in_place.proofs.Entries.{found-entry, one-entry}
use Rattle.dw_in_place.proofs.Following.{fde-still}
use Rattle.dw_in_place.proofs.OneFde.{IsFaultless, no-fault, alone-checked}
use Rattle.dw_in_place.proofs.ReadInOrder.{ReadsFde, reads-fde}
use Rattle.dw_in_place.proofs.SameRow.{row-in-place}

abbrev fine : {A : Type 0} → A → Result A Fault
fine a = Ok a

-- ---- the laws of other crates that are used here, for one section without fault

pub record SectionFacts (is_aarch64 : Bool) (bases : Bases) (target : Target) (section : List ℕ) : Type 0 where
  pub read : IsFaultlessSection is_aarch64 bases target section
  pub accepted : IsChecked (eh_frame_of is_aarch64 bases target section)
  pub cies_kept : (c : Cie) → Contains (all_in_dwarf (read-of is_aarch64 bases target section)) (cie_record c)
      → Contains (eh_frame_records is_aarch64 bases target section) (cie_record c)
  pub only : (x : Record) → Contains (eh_frame_records is_aarch64 bases target section) x
      → Contains (all_in_dwarf (read-of is_aarch64 bases target section)) x

-- ---- records among others

abbrev cie-of : Cie → Record → Cie
cie-of d (cie_record c) = c
cie-of d (fde_record f) = d

cie-among : (records : List Record) (c : Cie) → Contains records (cie_record c) → Contains (cies_among records) c
cie-among [] c (k, less, is) = absurd (omega arith)
cie-among (fde_record f ∷ records) c (zero, less, is) = absurd cc
cie-among (fde_record f ∷ records) c (suc k, less, is) = cie-among records c (k, omega arith, is)
cie-among (cie_record d ∷ records) c (zero, less, is) = (zero, omega arith, ap (cie-of d) is)
cie-among (cie_record d ∷ records) c (suc k, less, is) = later d c (cies_among records) (cie-among records c (k, omega arith, is))

cie-in-dwarf : (records : List EhRecord) (c : EhCie) → Contains records (eh_cie c) → Contains (all_in_dwarf records) (cie_record c.cie)
cie-in-dwarf [] c (k, less, is) = absurd (omega arith)
cie-in-dwarf (eh_nothing n ∷ records) c (zero, less, is) = absurd cc
cie-in-dwarf (eh_nothing n ∷ records) c (suc k, less, is) = cie-in-dwarf records c (k, omega arith, is)
cie-in-dwarf (eh_fde e ∷ records) c (zero, less, is) = absurd cc
cie-in-dwarf (eh_fde e ∷ records) c (suc k, less, is) =
    later (fde_record e.fde) (cie_record c.cie) (all_in_dwarf records) (cie-in-dwarf records c (k, omega arith, is))
cie-in-dwarf (eh_cie d ∷ records) c (zero, less, is) =
    let same : d ≡ c = cc in (zero, omega arith, ap (λ (x : EhCie). cie_record x.cie) same)
cie-in-dwarf (eh_cie d ∷ records) c (suc k, less, is) =
    later (cie_record d.cie) (cie_record c.cie) (all_in_dwarf records) (cie-in-dwarf records c (k, omega arith, is))

-- an FDE of the records, as `.eh_frame` has it
record FromEh (records : List EhRecord) (f : Fde) : Type 0 where
  fde : EhFde
  among : Contains (eh_fdes records) fde
  is : fde.fde ≡ f

in-eh : (records : List EhRecord) (f : Fde) → Contains (all_in_dwarf records) (fde_record f) → FromEh records f
in-eh [] f (k, less, is) = absurd (omega arith)
in-eh (eh_nothing n ∷ records) f among = let more = in-eh records f among in
    record { fde = more.fde; among = more.among; is = more.is }
in-eh (eh_cie c ∷ records) f (zero, less, is) = absurd cc
in-eh (eh_cie c ∷ records) f (suc k, less, is) = let more = in-eh records f (k, omega arith, is) in
    record { fde = more.fde; among = more.among; is = more.is }
in-eh (eh_fde e ∷ records) f (zero, less, is) = let same : e.fde ≡ f = cc in
    record { fde = e; among = (zero, omega arith, refl); is = same }
in-eh (eh_fde e ∷ records) f (suc k, less, is) = let more = in-eh records f (k, omega arith, is) in
    record { fde = more.fde; among = later e more.fde (eh_fdes records) more.among; is = more.is }

-- ---- an FDE of a section without fault

-- Where it is read, its CIE among the section's, and that it has no fault in place.
pub record IsGoodFde (is_aarch64 : Bool) (bases : Bases) (target : Target) (section : List ℕ) (e : EhFde) : Type 0 where
  pub reads : ReadsFde is_aarch64 bases target section (read-of is_aarch64 bases target section) e
  pub pointed : cie_at (eh_frame_of is_aarch64 bases target section).cies e.fde.cie_pointer ≡ Some e.cie.cie
  pub none : fde_in_place_fault e ≡ None
  pub alone_checked : IsChecked (alone target section e)

pub good-fde : (is_aarch64 : Bool) (bases : Bases) (target : Target) (section : List ℕ) → SectionFacts is_aarch64 bases target section
    → (e : EhFde) → Contains (eh_fdes (read-of is_aarch64 bases target section)) e
    → Contains (eh_frame_of is_aarch64 bases target section).fdes e.fde → IsGoodFde is_aarch64 bases target section e
good-fde is_aarch64 bases target section facts e among kept =
    let records = read-of is_aarch64 bases target section in
    let s = eh_frame_of is_aarch64 bases target section in
    let reads = reads-fde is_aarch64 bases target section records facts.read.encoded e (eh-record records e among) in
    let c_in = cie-among (eh_frame_records is_aarch64 bases target section) e.cie.cie
    (facts.cies_kept e.cie.cie (cie-in-dwarf records e.cie reads.among)) in
    let pointed = found-at s.cies (checked-cies-ascend s facts.accepted) e.cie.cie e.fde.cie_pointer c_in (sym reads.pointer) in
    let none = good-past s.cies s.fdes (checked-parts s facts.accepted) e.fde kept e.cie.cie pointed in
    let before = reads.sound.program.ends in
    let good : IsFaultless e = record { before = before; cie = none.0; fde = none.1 } in
    record {
      reads = reads;
      pointed = pointed;
      none = no-fault e good;
      alone_checked = alone-checked target section e e.fde.offset reads.sound (checked-fdes-sound s facts.accepted e.fde kept) reads.pointer good;
    }

pub found-in-place : (is_aarch64 : Bool) (bases : Bases) (target : Target) (section : List ℕ) → SectionFacts is_aarch64 bases target section
    → (e : EhFde) → Contains (eh_fdes (read-of is_aarch64 bases target section)) e
    → Contains (eh_frame_of is_aarch64 bases target section).fdes e.fde → (a : ℕ) → Covers e.fde a
    → fde_at is_aarch64 bases target section e.fde.offset a ≡ Ok (Some e)
found-in-place is_aarch64 bases target section facts e among kept a here =
    let good = good-fde is_aarch64 bases target section facts e among kept in
    fde-at-is is_aarch64 bases target section e.fde.offset a (eh_fde e) good.reads.after good.reads.read ∙ covering-is a e here good.none

pub same-row-in-place : (is_aarch64 : Bool) (bases : Bases) (target : Target) (section : List ℕ) → SectionFacts is_aarch64 bases target section
    → (e : EhFde) → Contains (eh_fdes (read-of is_aarch64 bases target section)) e
    → Contains (eh_frame_of is_aarch64 bases target section).fdes e.fde → (a : ℕ) → Covers e.fde a
    → row_of_fde target section e a ≡ row_of (eh_frame_of is_aarch64 bases target section) a
same-row-in-place is_aarch64 bases target section facts e among kept a here =
    let good = good-fde is_aarch64 bases target section facts e among kept in
    row-in-place (eh_frame_of is_aarch64 bases target section) facts.accepted target section e good.alone_checked good.pointed kept a here

-- ---- look-ups by a table

-- what a look-up gives: the row that the section has

-- an address that no FDE covers has no row
no-row : (is_aarch64 : Bool) (bases : Bases) (target : Target) (section : List ℕ) (a : ℕ)
    → ((f : Fde) → Contains (eh_frame_of is_aarch64 bases target section).fdes f → ¬ Covers f a)
    → None ≡ row_of (eh_frame_of is_aarch64 bases target section) a
no-row is_aarch64 bases target section a none = sym (row-none (eh_frame_of is_aarch64 bases target section) a none)

-- if the FDE covers an address, it covers some
some-address : (f : Fde) (a : ℕ) → Covers f a → 0 < f.address_range
some-address f a here = let low = here.0 in let high = here.1 in omega arith

pub gives-row : (is_aarch64 : Bool) (bases : Bases) (target : Target) (section more : List ℕ) (t : Table)
    → SectionFacts is_aarch64 bases target section
    → LeadsToAll t bases.section (eh_frame_of is_aarch64 bases target section).fdes → (a : ℕ) (entry : Option ℕ) → Finds t a entry
    → GivesRow (lying is_aarch64 bases target (section ++ more)) t a entry (row_of (eh_frame_of is_aarch64 bases target section) a)
gives-row is_aarch64 bases target section more t facts leads a None finds = record {
  found = None;
  is = refl;
  row_is = no-row is_aarch64 bases target section a (λ f f_in here.
      let led = leads.each f f_in (some-address f a here) in
      let found = found-entry t a led.entry None leads.in_order (led.each a here) finds in
      cc);
}
gives-row is_aarch64 bases target section more t facts leads a (Some k) finds =
    let s = eh_frame_of is_aarch64 bases target section in
    let whole = section ++ more in
    let (f, f_in, named) = leads.only k finds.within in
    let from = in-eh (read-of is_aarch64 bases target section) f (facts.only (fde_record f)
    (fde-record (eh_frame_records is_aarch64 bases target section) f f_in)) in
    let e = from.fde in
    let kept : Contains s.fdes e.fde = subst (λ (g : Fde). Contains s.fdes g) (sym from.is) f_in in
    let at : record_offset t bases.section k ≡ e.fde.offset = named ∙ ap (λ (g : Fde). g.offset) (sym from.is) in
    let sound = checked-fdes-sound s facts.accepted e.fde kept in
    let inside : record_offset t bases.section k < length whole =
    omega (arith, at, sound.program.begins, sound.program.ends, length-append section more) in
    let reads : fde_by_entry (lying is_aarch64 bases target whole) t a (Some k) ≡ fde_at is_aarch64 bases target whole e.fde.offset a =
    ap (λ b. cond b (fde_at is_aarch64 bases target whole (record_offset t bases.section k) a) (fine None))
    (lt-ltb (record_offset t bases.section k) (length whole) inside)
    ∙ ap (λ n. fde_at is_aarch64 bases target whole n a) at in
    go e kept from.among at reads (covers a e.fde) refl
  where
    go : (e : EhFde) → Contains (eh_frame_of is_aarch64 bases target section).fdes e.fde
        → Contains (eh_fdes (read-of is_aarch64 bases target section)) e → record_offset t bases.section k ≡ e.fde.offset
        → fde_by_entry (lying is_aarch64 bases target (section ++ more)) t a (Some k)
        ≡ fde_at is_aarch64 bases target (section ++ more) e.fde.offset a
        → (b : Bool) → covers a e.fde ≡ b
        → GivesRow (lying is_aarch64 bases target (section ++ more)) t a (Some k) (row_of (eh_frame_of is_aarch64 bases target section) a)
    go e kept among at reads true inside =
        let here = covers-then a e.fde inside in
        record {
          found = Some e;
          is = reads ∙ fde-still is_aarch64 bases target section more e.fde.offset a (Some e)
              (found-in-place is_aarch64 bases target section facts e among kept a here);
          row_is = same-row-in-place is_aarch64 bases target section facts e among kept a here;
        }
    go e kept among at reads false outside =
        let good = good-fde is_aarch64 bases target section facts e among kept in
        record {
          found = None;
          is = reads ∙ fde-still is_aarch64 bases target section more e.fde.offset a None
              (fde-at-is is_aarch64 bases target section e.fde.offset a (eh_fde e) good.reads.after good.reads.read
              ∙ ap (λ b. cond b (unless_fault (fde_in_place_fault e) e) (fine None)) outside);
          row_is = no-row is_aarch64 bases target section a (λ g g_in here.
              let led = leads.each g g_in (some-address g a here) in
              let one : led.entry ≡ k = one-entry t a led.entry k leads.in_order (led.each a here) finds in
              let offsets : g.offset ≡ e.fde.offset = sym led.named ∙ (ap (record_offset t bases.section) one ∙ at) in
              let same = ascending-same fde_offset (eh_frame_of is_aarch64 bases target section).fdes
              (checked-fdes-ascend (eh_frame_of is_aarch64 bases target section) facts.accepted) g e.fde g_in kept offsets in
              let covered = covers-so a e.fde (subst (λ (f : Fde). Covers f a) same here) in
              let clash : true ≡ false = sym covered ∙ outside in
              cc);
        }
