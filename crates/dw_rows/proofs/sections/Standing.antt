-- A program's fault is at an offset inside the program or at its end. A section's fault is at an
-- offset inside the section or at its end.
use Rattle.std.proofs.Common.{◌≡◌, ℕ, zero, suc, ◌+◌, ◌≤◌, List, [], ◌∷◌, length, Option, Some, None, Result, Ok, Err, Contains, refl}
use Rattle.std.proofs.Common.{sym, ap, subst, arith, inl, inr, ◌⊎◌, if◌then◌else◌, Bool, true, false}
use Rattle.std.specs.Prelude.{IfErr}
use Rattle.std.specs.Option.{option_or}
use Rattle.dw_bytes.specs.declared.target.Target.{Target}
use Rattle.dw_bytes.specs.declared.fault.Fault.{Fault}
use Rattle.dw_bytes.specs.declared.fault.FaultKind.{FaultKind}
use Rattle.dw_frame.specs.Dialects.{ProgramPosition}
use Rattle.dw_bytes.specs.Answers.{memory, Answers, values_in, fault_in}
use Rattle.dw_frame.specs.Instructions.{Instruction}
use Rattle.dw_frame.specs.Records.{Cie, Fde}
use Rattle.dw_frame.specs.Codes.{instructions_of}
use Rattle.dw_frame.specs.Sections.{records_of}
use Rattle.dw_frame.specs.Bounds.{StandsIn, IsSoundCie, IsSoundFde}
use Rattle.dw_frame.proofs.InstructionBounds.{items-stand}
use Rattle.dw_frame.proofs.RecordBounds.{entries-sound}
use Rattle.dw_rules.specs.Effects.{Effect, effect_of}
use Rattle.dw_rules.specs.Expressions.{expression_in, expressions_in}
use Rattle.dw_rules.specs.InForce.{fde_start}
use Rattle.dw_rules.specs.ProgramFault.{fault_of_kind, item_fault, fault_from, cie_refusal_at, refusal_at, refusal_at_end, end_of}
use Rattle.dw_rules.specs.ProgramFault.{cie_fault, fde_fault}
use Rattle.dw_stack.specs.Located.{moved_by, located_fault, LocatedExpression}
use Rattle.dw_rows.specs.Section.{first_fault, cie_at, pointer_fault, program_fault, fault_by_cie, overlap_fault, programs_fault}
use Rattle.dw_rows.specs.Section.{AreReadIn, parts_fault, section_fault, frame_of}
use Rattle.dw_stack.specs.FirstFault.{expression_fault}
use Rattle.dw_stack.proofs.FaultsInside.{fault-inside}
use Rattle.dw_rows.proofs.expressions.ExpressionOrder.{program-inside}
use Rattle.dw_rows.proofs.sections.SectionOrder.{fdes-sound, cies-sound, placed-cies-sound, placed-fdes-sound}

-- ---- the first of two faults is one of them

one-of : (a b : Option Fault) (fault : Fault) → option_or a b ≡ Some fault → (a ≡ Some fault) ⊎ (b ≡ Some fault)
one-of None b fault e = inr e
one-of (Some x) b fault e = inl e

first-of : {X : Type 0} (t : X → Option Fault) (xs : List X) (fault : Fault) → first_fault t xs ≡ Some fault
    → (x : X) × Contains xs x × (t x ≡ Some fault)
first-of t [] fault e = let no : None ≡ Some fault = e in cc
first-of t (x ∷ xs) fault e = elim (one-of (t x) (first_fault t xs) fault e) [
  | inl here ↦ (x, (zero, omega arith, refl), here)
  | inr later ↦ let rest = first-of t xs fault later in (rest.0, (suc rest.1.0, omega (arith, rest.1.1), rest.1.2), rest.2)
]

-- ---- programs

stands-at : (at : ℕ) (kind : Option FaultKind) (fault : Fault) → fault_of_kind at kind ≡ Some fault → fault.at ≡ at
stands-at at None fault e = let no : None ≡ Some fault = e in cc
stands-at at (Some kind) fault e = let same : record { kind = kind; at = at } ≡ fault = cc in sym (ap (λ (f : Fault). f.at) same)

-- the expression's bytes are inside the program
record LiesBetween (r : ProgramPosition) (e : LocatedExpression) : Type 0 where
  begins : r.position ≤ e.offset
  ends : e.offset + length e.bytes ≤ r.position + length r.rest

moved-at : (e : LocatedExpression) (f : Option Fault) (fault : Fault)
    → ((g : Fault) → f ≡ Some g → g.at ≤ length e.bytes) → moved_by e.offset f ≡ Some fault
    → (e.offset ≤ fault.at) × (fault.at ≤ e.offset + length e.bytes)
moved-at e None fault bound is = let no : None ≡ Some fault = is in cc
moved-at e (Some g) fault bound is =
    let same : record { kind = g.kind; at = e.offset + g.at } ≡ fault = cc in
    let at : e.offset + g.at ≡ fault.at = ap (λ (f : Fault). f.at) same in
    let low = bound g refl in
    (omega (arith, at, low), omega (arith, at, low))

first-stands : (r : ProgramPosition) (item : ℕ × Instruction) (items : List (ℕ × Instruction))
    → ((e : LocatedExpression) → Contains (expressions_in (item ∷ items)) e → LiesBetween r e) → (fault : Fault)
    → (o : Option LocatedExpression) → expression_in item.1 ≡ o → located_fault o ≡ Some fault → StandsIn r (Err fault)
first-stands r item items inside fault None is checked = let no : None ≡ Some fault = checked in cc
first-stands r item items inside fault (Some e) is checked =
    let lies = inside e (rw is (zero, omega arith, refl)) in
    let at = moved-at e (expression_fault e.kind e.target e.bytes) fault (fault-inside e.kind e.target e.bytes) checked in
    (omega (arith, lies.begins, at.0), omega (arith, lies.ends, at.1))

later-among : (item : ℕ × Instruction) (items : List (ℕ × Instruction)) (x : LocatedExpression) (o : Option LocatedExpression)
    → expression_in item.1 ≡ o → Contains (expressions_in items) x → Contains (expressions_in (item ∷ items)) x
later-among item items x None is among = rw is among
later-among item items x (Some e) is (k, lt, same) = rw is (suc k, omega arith, same)

-- the bytes of each expression of a program are inside the program
program-lies : (r : ProgramPosition) (e : LocatedExpression) → Contains (expressions_in (values_in (instructions_of r))) e → LiesBetween r e
program-lies r e among = let h = program-inside r e among in record { begins = omega (arith, h.past); ends = h.ends }

from-stands : (r : ProgramPosition) (refusal : List Effect → Effect → Option FaultKind) (ending : List Effect → Option Fault) (cie : Cie)
    (before : List Effect) (items : List (Result (ℕ × Instruction) Fault))
    → ((all : List Effect) (fault : Fault) → ending all ≡ Some fault → StandsIn r (Err fault))
    → ((item : Result (ℕ × Instruction) Fault) → Contains items item → StandsIn r item)
    → ((e : LocatedExpression) → Contains (expressions_in (values_in items)) e → LiesBetween r e)
    → (fault : Fault) → fault_from refusal ending cie before items ≡ Some fault → StandsIn r (Err fault)
from-stands r refusal ending cie before [] at_end each inside fault e = at_end before fault e
from-stands r refusal ending cie before (Err f ∷ items) at_end each inside fault e =
    let same : f ≡ fault = cc in
    subst (λ g. StandsIn r (Err g)) same (each (Err f) (zero, omega arith, refl))
from-stands r refusal ending cie before (Ok item ∷ items) at_end each inside fault e =
    elim (one-of (item_fault refusal cie before item) (fault_from refusal ending cie (effect_of cie item.1 ∷ before) items) fault e) [
      | inl here ↦ elim (one-of (located_fault (expression_in item.1))
          (fault_of_kind item.0 (refusal before (effect_of cie item.1))) fault here) [
            | inl checked ↦ first-stands r item (values_in items) inside fault (expression_in item.1) refl checked
            | inr refused ↦
                let at : fault.at ≡ item.0 = stands-at item.0 (refusal before (effect_of cie item.1)) fault refused in
                let in_it = each (Ok item) (zero, omega arith, refl) in
                (omega (arith, at, in_it.0), omega (arith, at, in_it.1))
          ]
      | inr later ↦ from-stands r refusal ending cie (effect_of cie item.1 ∷ before) items at_end
          (λ i h. each i (suc h.0, omega (arith, h.1), h.2))
          (λ x among. inside x (later-among item (values_in items) x (expression_in item.1) refl among)) fault later
    ]

pub cie-stands : (c : Cie) (fault : Fault) → cie_fault c ≡ Some fault → StandsIn c.program (Err fault)
unfolding cie_fault
cie-stands c fault e =
    from-stands c.program (cie_refusal_at c) (λ _. None) c [] (instructions_of c.program)
    (λ all f no. let nothing : Option Fault = None in let clash : nothing ≡ Some f = no in cc)
    (items-stand c.program) (program-lies c.program) fault e

pub fde-stands : (c : Cie) (f : Fde) (fault : Fault) → fde_fault c f ≡ Some fault → StandsIn f.program (Err fault)
unfolding fde_fault
fde-stands c f fault e =
    from-stands f.program (refusal_at (fde_start c f)) (λ all. fault_of_kind (end_of f.program) (refusal_at_end (fde_start c f) all)) c []
    (instructions_of f.program)
    (λ all g is. let at : g.at ≡ end_of f.program = stands-at (end_of f.program) (refusal_at_end (fde_start c f) all) g is in
    (omega (arith, at), omega (arith, at)))
    (items-stand f.program) (program-lies f.program) fault e

-- a fault that the check of a CIE's program returns either is `memory`, or is at an offset in the
-- program or at the program's end
pub cie-checked : {X : Type 0} (c : Cie) (r : Result X Fault) → Answers (cie_fault c) r
    → IfErr r (λ fault. (fault ≡ memory) ⊎ StandsIn c.program (Err fault))
cie-checked c (Ok x) h = tt
cie-checked c (Err fault) (inl lack) = inl lack
cie-checked c (Err fault) (inr is) = inr (cie-stands c fault is)

-- a fault that the check of an FDE's program returns either is `memory`, or is at an offset in the
-- CIE's or the FDE's program or at the end of one of these programs
pub fde-checked : {X : Type 0} (c : Cie) (f : Fde) (r : Result X Fault) → Answers (option_or (cie_fault c) (fde_fault c f)) r
    → IfErr r (λ fault. (fault ≡ memory) ⊎ StandsIn c.program (Err fault) ⊎ StandsIn f.program (Err fault))
fde-checked c f (Ok x) h = tt
fde-checked c f (Err fault) (inl lack) = inl lack
fde-checked c f (Err fault) (inr is) = inr (elim (one-of (cie_fault c) (fde_fault c f) fault is) [
  | inl first ↦ inl
      (cie-stands c fault first)
  | inr second ↦ inr (fde-stands c f fault second)
])

-- ---- sections

refused-among : {X : Type 0} (items : List (Result X Fault)) (fault : Fault) → fault_in items ≡ Some fault → Contains items (Err fault)
refused-among [] fault e = let no : None ≡ Some fault = e in cc
refused-among (Err f ∷ items) fault e = let same : f ≡ fault = cc in (zero, omega arith, ap Err same)
refused-among (Ok x ∷ items) fault e = let rest = refused-among items fault e in (suc rest.0, omega (arith, rest.1), rest.2)

-- if the outcome of a test is either no fault or `given`, a fault is at the offset of `given`
tested-at : (b : Bool) (given fault : Fault) → (if b then None else Some given) ≡ Some fault → fault.at ≡ given.at
tested-at true given fault e = let no : None ≡ Some fault = e in cc
tested-at false given fault e = let same : given ≡ fault = cc in sym (ap (λ (f : Fault). f.at) same)

tested-not : (b : Bool) (given fault : Fault) → (if b then Some given else None) ≡ Some fault → fault.at ≡ given.at
tested-not false given fault e = let no : None ≡ Some fault = e in cc
tested-not true given fault e = let same : given ≡ fault = cc in sym (ap (λ (f : Fault). f.at) same)

past-some : (o : Option Cie) (f : Fde) (fault : Fault) → fault_by_cie o f ≡ Some fault → StandsIn f.program (Err fault)
past-some None f fault e = let no : None ≡ Some fault = e in cc
past-some (Some c) f fault e = fde-stands c f fault e

-- a fault of CIEs and FDEs that lie in a section of this size is in it or at its end
parts-stand : (target : Target) (size : ℕ) (cies : List Cie) (fdes : List Fde)
    → ((c : Cie) → Contains cies c → IsSoundCie target size c) → ((f : Fde) → Contains fdes f → IsSoundFde target size f)
    → (fault : Fault) → parts_fault cies fdes ≡ Some fault → fault.at ≤ size
unfolding parts_fault
parts-stand target size cies fdes sound_cie sound_fde fault checked =
    elim (one-of (programs_fault cies fdes) (first_fault (overlap_fault fdes) fdes) fault checked) [
      | inr shared ↦
          let w = first-of (overlap_fault fdes) fdes fault shared in
          let sound = sound_fde w.0 w.1 in
          let at : fault.at ≡ (w.0).offset = tested-not _ _ fault w.2 in
          omega (arith, at, sound.program.begins, sound.program.ends)
      | inl programs ↦ elim (one-of (first_fault (pointer_fault cies) fdes)
          (option_or (first_fault cie_fault cies) (first_fault (program_fault cies) fdes)) fault programs) [
            | inl pointer ↦
                let w = first-of (pointer_fault cies) fdes fault pointer in
                let sound = sound_fde w.0 w.1 in
                let at : fault.at ≡ (w.0).cie_pointer_offset = tested-at _ _ fault w.2 in
                omega (arith, at, sound.pointer_before, sound.program.ends)
            | inr later ↦ elim (one-of (first_fault cie_fault cies) (first_fault (program_fault cies) fdes) fault later) [
              | inl first ↦
                  let w = first-of cie_fault cies fault first in
                  let sound = sound_cie w.0 w.1 in
                  let at = cie-stands w.0 fault w.2 in
                  omega (arith, at.1, sound.program.ends)
              | inr second ↦
                  let w = first-of (program_fault cies) fdes fault second in
                  let sound = sound_fde w.0 w.1 in
                  let at = past-some (cie_at cies (w.0).cie_pointer) w.0 fault w.2 in
                  omega (arith, at.1, sound.program.ends)
            ]
          ]
    ]

pub read-stand : (target : Target) (size : ℕ) (cies : List Cie) (fdes : List Fde) (fault : Fault) → AreReadIn target size cies fdes
    → parts_fault cies fdes ≡ Some fault → fault.at ≤ size
read-stand target size cies fdes fault read = parts-stand target size cies fdes
    (λ c among. placed-cies-sound target 0 size read.records read.placed c (subst (λ (l : List Cie). Contains l c) read.cies_are among))
    (λ f among. placed-fdes-sound target 0 size read.records read.placed f (subst (λ (l : List Fde). Contains l f) read.fdes_are among))
    fault

pub parts-answered : {X : Type 0} (target : Target) (size : ℕ) (cies : List Cie) (fdes : List Fde) (r : Result X Fault)
    → AreReadIn target size cies fdes → Answers (parts_fault cies fdes) r → IfErr r (λ fault. fault.at ≤ size)
parts-answered target size cies fdes (Ok x) read h = tt
parts-answered target size cies fdes (Err fault) read h = elim h [
  | inl lack ↦ let at : fault.at ≡ 0 = ap (λ (f : Fault). f.at) lack in
      omega arith
  | inr checked ↦ read-stand target size cies fdes fault read checked
]

pub section-stands : (target : Target) (section : List ℕ) (fault : Fault) → section_fault target section ≡ Some fault
    → fault.at ≤ length section
unfolding section_fault
section-stands target section fault e =
    let s = frame_of target section in
    elim (one-of (fault_in (records_of target section)) (parts_fault s.cies s.fdes) fault e) [
      | inl read ↦ entries-sound target section (Err fault) (refused-among (records_of target section) fault read)
      | inr checked ↦ parts-stand target (length section) s.cies s.fdes (cies-sound target section) (fdes-sound target section) fault checked
    ]

pub section-answered : {X : Type 0} (target : Target) (section : List ℕ) (r : Result X Fault) → Answers (section_fault target section) r
    → IfErr r (λ fault. fault.at ≤ length section)
section-answered target section (Ok x) h = tt
section-answered target section (Err fault) h =
    elim h [
      | inl lack ↦ let at : fault.at ≡ 0 = ap (λ (f : Fault). f.at) lack in
          omega arith
      | inr checked ↦ section-stands target section fault checked
    ]
