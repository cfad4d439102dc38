-- A section has no fault if and only if it is well formed.
use Rattle.std.proofs.Common.{◌≡◌, ℕ, ◌↔◌, List, [], ◌∷◌, map, Some, None, Ok, refl, ap, ◌∙◌, subst, arith}
use Rattle.dw_bytes.specs.declared.target.Target.{Target}
use Rattle.dw_bytes.specs.Answers.{values_in, fault_in}
use Rattle.dw_frame.specs.Records.{Cie, Fde, Record, cies_among, fdes_among}
use Rattle.dw_frame.specs.Sections.{records_of}
use Rattle.dw_frame.proofs.EachRecord.{sections-are-records}
use Rattle.dw_rules.specs.ProgramFault.{cie_fault, fde_fault}
use Rattle.dw_rows.specs.GoodPrograms.{IsGoodCieProgram, IsGoodFdeProgram}
use Rattle.dw_rows.specs.Section.{cie_at, pointer_fault, program_fault, fault_by_cie, parts_fault, section_fault, frame_of, CoversOnce}
use Rattle.dw_rows.specs.WellFormed.{AreGood, IsWellFormed}
use Rattle.dw_rows.specs.AddressIndex.{cie_offset, fde_offset, AreApart}
use Rattle.dw_frame.specs.Bounds.{ArePlaced, Ascends}
use Rattle.dw_rows.proofs.Faults.{option_or-none, found-at, at-found, none-each}
use Rattle.dw_rows.proofs.sections.Clashes.{each-none, none-overlap}
use Rattle.dw_rows.proofs.sections.Parts.{PartsPass, parts-pass, pass-parts, pointed-in, good-past, covers-once-in}
use Rattle.dw_rows.proofs.programs.Programs.{good-from-cie, cie-from-good, good-from-fde, fde-from-good}
use Rattle.dw_rows.proofs.sections.SectionOrder.{are-records, cies-ascend, fdes-ascend, placed-cies-ascend, placed-fdes-ascend}

-- the laws about programs that are used here
record ProgramLaws : Type 0 where
  cie : (c : Cie) → (cie_fault c ≡ None) ↔ IsGoodCieProgram c
  fde : (c : Cie) (f : Fde) → cie_fault c ≡ None → (fde_fault c f ≡ None) ↔ IsGoodFdeProgram c f

good-records : ProgramLaws → (records : List Record) → Ascends cie_offset (cies_among records)
    → Ascends fde_offset (fdes_among records) → parts_fault (cies_among records) (fdes_among records) ≡ None → AreGood records
good-records laws records up rising none =
    let cies = cies_among records in
    let fdes = fdes_among records in
    let parts = parts-pass cies fdes none in
    record {
      pointers = λ f among. let pointed = pointed-in cies fdes none f among in
          let found = at-found cies f.cie_pointer pointed.0 pointed.1 in (pointed.0, found.0, found.1);
      cie_programs = λ c among. (laws.cie c).0 (none-each cie_fault cies parts.cie_programs c among);
      fde_programs = λ f c f_in c_in same. let good = good-past cies fdes none f f_in c (found-at cies up c f.cie_pointer c_in same) in
          (laws.fde c f good.0).0 good.1;
      once = covers-once-in cies fdes rising none;
    }

well-formed : ProgramLaws → (target : Target) (section : List ℕ) → section_fault target section ≡ None → IsWellFormed target section
unfolding section_fault
well-formed laws target section none =
    let split = option_or-none (fault_in (records_of target section))
    (parts_fault (frame_of target section).cies (frame_of target section).fdes) none in
    let records = values_in (records_of target section) in
    record {
      records = records;
      encoded = are-records target section split.0;
      good = good-records laws records (cies-ascend target section split.0) (fdes-ascend target section split.0) split.1;
    }

all-read-fault : (records : List Record) → fault_in (map Ok records) ≡ None
all-read-fault [] = refl
all-read-fault (r ∷ records) = all-read-fault records

all-read-values : (records : List Record) → values_in (map Ok records) ≡ records
all-read-values [] = refl
all-read-values (r ∷ records) = ap (λ l. r ∷ l) (all-read-values records)

apart-from-once : (fdes : List Fde) → CoversOnce fdes → AreApart fdes
apart-from-once fdes once g g_in f f_in lt (a, cf, cg) = let same : f.offset ≡ g.offset = ap fde_offset (once a f g f_in g_in cf cg) in
    absurd (omega arith)

no-pointer-fault : (cies : List Cie) (f : Fde) (c : Cie) → cie_at cies f.cie_pointer ≡ Some c → pointer_fault cies f ≡ None
no-pointer-fault cies f c is = rw is refl

passes : ProgramLaws → (records : List Record) → Ascends cie_offset (cies_among records) → AreGood records
    → PartsPass (cies_among records) (fdes_among records)
passes laws records up g =
    let cies = cies_among records in
    let fdes = fdes_among records in
    record {
      pointers = each-none (pointer_fault cies) fdes (λ f among. let c = g.pointers f among in
          no-pointer-fault cies f c.0 (found-at cies up c.0 f.cie_pointer c.1 c.2));
      cie_programs = each-none cie_fault cies (λ c among. (laws.cie c).1 (g.cie_programs c among));
      fde_programs = each-none (program_fault cies) fdes (λ f among.
          let c = g.pointers f among in
          let is = found-at cies up c.0 f.cie_pointer c.1 c.2 in
          let good = (laws.cie c.0).1 (g.cie_programs c.0 c.1) in
          ap (λ o. fault_by_cie o f) is ∙ (laws.fde c.0 f good).1 (g.fde_programs f c.0 among c.1 c.2));
      overlap = none-overlap fdes (apart-from-once fdes g.once);
    }

no-fault : ProgramLaws → (target : Target) (section : List ℕ) → IsWellFormed target section → section_fault target section ≡ None
unfolding section_fault
no-fault laws target section w =
    let read : records_of target section ≡ map Ok w.records = (sections-are-records target section w.records).1 w.encoded in
    let none : fault_in (records_of target section) ≡ None = ap fault_in read ∙ all-read-fault w.records in
    let values : values_in (records_of target section) ≡ w.records = ap values_in read ∙ all-read-values w.records in
    let up : Ascends cie_offset (cies_among w.records) =
    subst (λ l. Ascends cie_offset (cies_among l)) values (cies-ascend target section none) in
    let parts : parts_fault (cies_among w.records) (fdes_among w.records) ≡ None =
    pass-parts (cies_among w.records) (fdes_among w.records) (passes laws w.records up w.good) in
    let frame : parts_fault (frame_of target section).cies (frame_of target section).fdes ≡ None =
    ap (λ l. parts_fault (cies_among l) (fdes_among l)) values ∙ parts in
    rw none frame

faultless-iff : ProgramLaws → (target : Target) (section : List ℕ) → (section_fault target section ≡ None) ↔ IsWellFormed target section
faultless-iff laws target section = (well-formed laws target section, no-fault laws target section)

program-laws : ProgramLaws
program-laws = record {
  cie = λ cie. ((λ h. good-from-cie cie h), (λ g. cie-from-good cie g));
  fde = λ cie fde none. ((λ h. good-from-fde cie fde (good-from-cie cie none) h), (λ g. fde-from-good cie fde g));
}

pub faultless-well-formed : (target : Target) (section : List ℕ) → (section_fault target section ≡ None) ↔ IsWellFormed target section
faultless-well-formed = faultless-iff program-laws

-- the CIEs and FDEs of records that lie one after another have no fault if and only if they are good
pub faultless-good : (target : Target) (at end : ℕ) (records : List Record) → ArePlaced target at end records
    → (parts_fault (cies_among records) (fdes_among records) ≡ None) ↔ AreGood records
faultless-good target at end records placed =
    let up = placed-cies-ascend target at end records placed in (
      good-records program-laws records up (placed-fdes-ascend target at end records placed),
      (λ g. pass-parts (cies_among records) (fdes_among records) (passes program-laws records up g)),
    )
