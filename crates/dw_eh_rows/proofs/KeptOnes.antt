-- The records that are kept: their programs have no fault, and an FDE's CIE is kept with it.
use Rattle.std.proofs.Common.{◌≡◌, ℕ, zero, suc, Bool, true, false, cond, List, [], ◌∷◌, ◌++◌, length, Contains, Option, Some, None, is_none, is_some, Result, Ok, Err, refl, sym, ap, subst, ◌∙◌, arith, inl, inr}
use Rattle.std.specs.Prelude.{◌⊎◌, ◌==◌, find}
use Rattle.std.specs.List.{fold}
use Rattle.std.specs.Option.{option_or}
use Rattle.std.proofs.lemmas.Bool.Decides.{nat_tests}
use Rattle.std.proofs.lemmas.List.Elements.{Contains-push_cases, filter_map-append}
use Rattle.std.proofs.lemmas.List.Folds.{find-append}
use Rattle.dw_bytes.specs.declared.target.Target.{Target}
use Rattle.dw_bytes.specs.declared.fault.Fault.{Fault}
use Rattle.dw_bytes.specs.declared.fault.FaultKind.TheVariants.{NoSuchCie, Overlap}
use Rattle.dw_bytes.specs.Answers.{fault_in, values_in}
use Rattle.dw_frame.specs.Records.{Cie, Fde, Record, cie_in_record, cies_among, fdes_among}
use Rattle.dw_rules.specs.ProgramFault.{cie_fault, fde_fault}
use Rattle.dw_rows.specs.Section.{cie_at, fault_by_cie, first_fault, overlap_fault, parts_fault, pointer_fault, program_fault}
use Rattle.dw_eh_frame.specs.declared.pointer.Bases.{Bases}
use Rattle.dw_eh_frame.specs.Copies.{distinct, is_copy, without_copies}
use Rattle.dw_eh_frame.specs.Items.{Item, items_of}
use Rattle.dw_eh_frame.specs.Records.{EhCie, EhFde, EhRecord, eh_cie, eh_fde, eh_nothing, in_dwarf, all_in_dwarf, eh_cie_at}
use Rattle.dw_eh_frame.specs.Views.{HasCieAtItsPlace}
use Rattle.dw_eh_rows.specs.KeptRecords.{Split, all_records, fault_after, keep_unless, kept_frame_of, kept_of, split_fault, split_one, split_records, whole_fault}
use Rattle.dw_eh_rows.specs.Section.{eh_section_fault}
use Rattle.dw_eh_rows.proofs.Among.{later}

abbrev cies-of : List EhRecord → List Cie
cies-of kept = cies_among (all_in_dwarf kept)

-- ---- what holds of the records that are kept

-- the CIE to which an FDE points is kept, and the FDE's program has no fault with it
pub record HasGoodCie (kept : List EhRecord) (e : EhFde) : Type 0 where
  pub cie : Cie
  pub at : cie_at (cies-of kept) e.fde.cie_pointer ≡ Some cie
  pub good : fde_fault cie e.fde ≡ None

pub record AreGoodOnes (is_aarch64 : Bool) (target : Target) (section : List ℕ) (kept : List EhRecord) : Type 0 where
  pub cies : (c : EhCie) → Contains kept (eh_cie c) → cie_fault c.cie ≡ None
  pub fdes : (e : EhFde) → Contains kept (eh_fde e) → HasGoodCie kept e
  pub places : (x : EhRecord) → Contains kept x → HasCieAtItsPlace is_aarch64 target section x

both-none : (a b : Option Fault) → option_or a b ≡ None → (a ≡ None) × (b ≡ None)
both-none None b is = (refl, is)
both-none (Some fault) b is = absurd cc

-- the CIE is still found once more records are kept
found-still : (kept : List EhRecord) (x : EhRecord) (n : ℕ) (cie : Cie) → cie_at (cies-of kept) n ≡ Some cie
    → cie_at (cies-of (kept ++ x ∷ [])) n ≡ Some cie
found-still kept x n cie is =
    ap (λ (l : List Record). cie_at (cies_among l) n) (filter_map-append in_dwarf kept (x ∷ []))
    ∙ (ap (λ (l : List Cie). cie_at l n) (filter_map-append cie_in_record (all_in_dwarf kept) (all_in_dwarf (x ∷ [])))
    ∙ (find-append (λ (c : Cie). c.offset == n) (cies-of kept) (cies-of (x ∷ []))
    ∙ ap (λ (o : Option Cie). option_or o (find (λ (c : Cie). c.offset == n) (cies-of (x ∷ [])))) is))

has-still : (kept : List EhRecord) (x : EhRecord) (e : EhFde) → HasGoodCie kept e → HasGoodCie (kept ++ x ∷ []) e
has-still kept x e has = record { cie = has.cie; at = found-still kept x e.fde.cie_pointer has.cie has.at; good = has.good }

-- an FDE without fault after the records that are kept
has-now : (kept : List EhRecord) (e : EhFde) → fault_after (cies-of kept) (eh_fde e) ≡ None → HasGoodCie kept e
has-now kept e none = go (cie_at (cies-of kept) e.fde.cie_pointer) refl none
  where
    go : (o : Option Cie) → cie_at (cies-of kept) e.fde.cie_pointer ≡ o
        → option_or (cond (is_some o) None (Some (record { kind = NoSuchCie; at = e.fde.cie_pointer_offset }))) (fault_by_cie o e.fde) ≡ None
        → HasGoodCie kept e
    go (Some cie) at is = record { cie = cie; at = at; good = is }
    go None at is = absurd cc

good-more : (is_aarch64 : Bool) (target : Target) (section : List ℕ) (kept : List EhRecord) (x : EhRecord)
    → AreGoodOnes is_aarch64 target section kept → HasCieAtItsPlace is_aarch64 target section x → fault_after (cies-of kept) x ≡ None
    → AreGoodOnes is_aarch64 target section (kept ++ x ∷ [])
good-more is_aarch64 target section kept x good place none = record {
  cies = λ c among. elim (Contains-push_cases kept x (eh_cie c) among) [
    | inl old ↦ good.cies c old
    | inr same ↦ subst (λ (z : EhRecord). fault_after (cies-of kept) z ≡ None) same none
  ];
  fdes = λ e among. has-still kept x e (elim (Contains-push_cases kept x (eh_fde e) among) [
    | inl old ↦ good.fdes e old
    | inr same ↦ has-now kept e (subst (λ (z : EhRecord). fault_after (cies-of kept) z ≡ None) same none)
  ]);
  places = λ y among. elim (Contains-push_cases kept x y among) [
    | inl old ↦ good.places y old
    | inr same ↦ subst (HasCieAtItsPlace is_aarch64 target section) same place
  ];
}

good-one : (is_aarch64 : Bool) (target : Target) (section : List ℕ) (s : Split) (item : Item)
    → AreGoodOnes is_aarch64 target section s.kept → ((at : ℕ) (x : EhRecord) → item ≡ (at, Ok x) → HasCieAtItsPlace is_aarch64 target section x)
    → AreGoodOnes is_aarch64 target section (split_one s item).kept
good-one is_aarch64 target section s (at, Err fault) good places = good
good-one is_aarch64 target section s (at, Ok x) good places = go (fault_after (cies-of s.kept) x) refl (places at x refl)
  where
    go : (why : Option Fault) → fault_after (cies-of s.kept) x ≡ why → HasCieAtItsPlace is_aarch64 target section x
        → AreGoodOnes is_aarch64 target section (keep_unless s at x why).kept
    go None is place = good-more is_aarch64 target section s.kept x good place is
    go (Some fault) is place = good

good-all : (is_aarch64 : Bool) (target : Target) (section : List ℕ) (s : Split) (items : List Item)
    → AreGoodOnes is_aarch64 target section s.kept
    → ((at : ℕ) (x : EhRecord) → Contains items (at, Ok x) → HasCieAtItsPlace is_aarch64 target section x)
    → AreGoodOnes is_aarch64 target section (fold split_one s items).kept
good-all is_aarch64 target section s [] good places = good
good-all is_aarch64 target section s (item ∷ items) good places =
    good-all is_aarch64 target section (split_one s item) items
    (good-one is_aarch64 target section s item good (λ at x same. places at x (zero, omega arith, same)))
    (λ at x (k, less, same). places at x (suc k, omega arith, same))

none-good : (is_aarch64 : Bool) (target : Target) (section : List ℕ) → AreGoodOnes is_aarch64 target section []
none-good is_aarch64 target section = record {
  cies = λ c (k, less, is). absurd (omega arith);
  fdes = λ e (k, less, is). absurd (omega arith);
  places = λ x (k, less, is). absurd (omega arith);
}

pub kept-good : (is_aarch64 : Bool) (bases : Bases) (target : Target) (section : List ℕ)
    → ((at : ℕ) (x : EhRecord) → Contains (values_in (items_of is_aarch64 bases target section)) (at, Ok x)
    → HasCieAtItsPlace is_aarch64 target section x)
    → AreGoodOnes is_aarch64 target section (split_records is_aarch64 bases target section).kept
unfolding split_records
kept-good is_aarch64 bases target section places =
    good-all is_aarch64 target section (record { kept = []; left_out = [] }) (values_in (items_of is_aarch64 bases target section))
    (none-good is_aarch64 target section) places

-- ---- the CIE of an FDE

-- the CIE that is found at an offset, as it was read
record ReadAt (kept : List EhRecord) (n : ℕ) (b : Cie) : Type 0 where
  cie : EhCie
  among : Contains kept (eh_cie cie)
  at : cie.cie.offset ≡ n
  same : cie.cie ≡ b

read-later : (x : EhRecord) (kept : List EhRecord) (n : ℕ) (b : Cie) → ReadAt kept n b → ReadAt (x ∷ kept) n b
read-later x kept n b r = record { cie = r.cie; among = later x (eh_cie r.cie) kept r.among; at = r.at; same = r.same }

read-at : (kept : List EhRecord) (n : ℕ) (b : Cie) → cie_at (cies-of kept) n ≡ Some b → ReadAt kept n b
read-at [] n b is = absurd cc
read-at (eh_fde e ∷ kept) n b is = read-later (eh_fde e) kept n b (read-at kept n b is)
read-at (eh_nothing m ∷ kept) n b is = read-later (eh_nothing m) kept n b (read-at kept n b is)
read-at (eh_cie c ∷ kept) n b is = go (c.cie.offset == n) refl is (read-at kept n b)
  where
    go : (t : Bool) → (c.cie.offset == n) ≡ t → cond t (Some c.cie) (cie_at (cies-of kept) n) ≡ Some b
        → (cie_at (cies-of kept) n ≡ Some b → ReadAt kept n b) → ReadAt (eh_cie c ∷ kept) n b
    go true here is others = record { cie = c; among = (zero, omega arith, refl); at = grind (arith, nat_tests); same = cc }
    go false here is others = read-later (eh_cie c) kept n b (others is)

same-cie : (c d : EhCie) → ◌≡◌ {A = Result EhCie Fault} (Ok c) (Ok d) → c ≡ d
same-cie c d is = cc

-- it is the CIE that was read with the FDE
own-is : (is_aarch64 : Bool) (target : Target) (section : List ℕ) (kept : List EhRecord) (e : EhFde)
    → AreGoodOnes is_aarch64 target section kept → (among : Contains kept (eh_fde e)) → (has : HasGoodCie kept e) → has.cie ≡ e.cie.cie
own-is is_aarch64 target section kept e good among has =
    let r = read-at kept e.fde.cie_pointer has.cie has.at in
    let there = good.places (eh_cie r.cie) r.among in
    let mine = good.places (eh_fde e) among in
    let same : r.cie ≡ e.cie = same-cie r.cie e.cie
    (sym (ap (λ n. eh_cie_at is_aarch64 target section n) (sym r.at) ∙ there) ∙ mine) in
    sym r.same ∙ ap (λ (c : EhCie). c.cie) same

pub own-cie : (is_aarch64 : Bool) (target : Target) (section : List ℕ) (kept : List EhRecord) (e : EhFde)
    → AreGoodOnes is_aarch64 target section kept → Contains kept (eh_fde e)
    → cie_at (cies-of kept) e.fde.cie_pointer ≡ Some e.cie.cie
own-cie is_aarch64 target section kept e good among =
    let has = good.fdes e among in
    has.at ∙ ap (λ (c : Cie). Some c) (own-is is_aarch64 target section kept e good among has)

pub own-programs : (is_aarch64 : Bool) (target : Target) (section : List ℕ) (kept : List EhRecord) (e : EhFde)
    → AreGoodOnes is_aarch64 target section kept → Contains kept (eh_fde e)
    → (cie_fault e.cie.cie ≡ None) × (fde_fault e.cie.cie e.fde ≡ None)
own-programs is_aarch64 target section kept e good among =
    let has = good.fdes e among in
    let own = own-is is_aarch64 target section kept e good among has in
    let r = read-at kept e.fde.cie_pointer has.cie has.at in (
      subst (λ (b : Cie). cie_fault b ≡ None) (r.same ∙ own) (good.cies r.cie r.among),
      subst (λ (b : Cie). fde_fault b e.fde ≡ None) own has.good,
    )

-- ---- no fault but an overlap

pub no-first : {X : Type 0} (test : X → Option Fault) (xs : List X) → ((x : X) → Contains xs x → test x ≡ None) → first_fault test xs ≡ None
no-first test [] none = refl
no-first test (x ∷ xs) none =
    ap (λ (o : Option Fault). option_or o (first_fault test xs)) (none x (zero, omega arith, refl))
    ∙ no-first test xs (λ y (k, less, same). none y (suc k, omega arith, same))

-- the FDE of `.eh_frame` that an FDE is
eh-of : (kept : List EhRecord) (f : Fde) → Contains (fdes_among (all_in_dwarf kept)) f → (e : EhFde) × Contains kept (eh_fde e) × (e.fde ≡ f)
eh-of [] f (k, less, is) = absurd (omega arith)
eh-of (eh_cie c ∷ kept) f among = let (e, e_in, same) = eh-of kept f among in (e, later (eh_cie c) (eh_fde e) kept e_in, same)
eh-of (eh_nothing n ∷ kept) f among = let (e, e_in, same) = eh-of kept f among in (e, later (eh_nothing n) (eh_fde e) kept e_in, same)
eh-of (eh_fde g ∷ kept) f (zero, less, is) = (g, (zero, omega arith, refl), is)
eh-of (eh_fde g ∷ kept) f (suc k, less, is) =
    let (e, e_in, same) = eh-of kept f (k, omega arith, is) in (e, later (eh_fde g) (eh_fde e) kept e_in, same)

cie-of : (kept : List EhRecord) (c : Cie) → Contains (cies_among (all_in_dwarf kept)) c → (d : EhCie) × Contains kept (eh_cie d) × (d.cie ≡ c)
cie-of [] c (k, less, is) = absurd (omega arith)
cie-of (eh_fde g ∷ kept) c among = let (d, d_in, same) = cie-of kept c among in (d, later (eh_fde g) (eh_cie d) kept d_in, same)
cie-of (eh_nothing n ∷ kept) c among = let (d, d_in, same) = cie-of kept c among in (d, later (eh_nothing n) (eh_cie d) kept d_in, same)
cie-of (eh_cie b ∷ kept) c (zero, less, is) = (b, (zero, omega arith, refl), is)
cie-of (eh_cie b ∷ kept) c (suc k, less, is) =
    let (d, d_in, same) = cie-of kept c (k, omega arith, is) in (d, later (eh_cie b) (eh_cie d) kept d_in, same)

-- what is left without copies was there
was-there : (before fdes : List Fde) (f : Fde) → Contains (without_copies before fdes) f → Contains fdes f
was-there before [] f (k, less, is) = absurd (omega arith)
was-there before (g ∷ fdes) f among = go (is_copy before g) (was-there before fdes f) (was-there (before ++ g ∷ []) fdes f) among
  where
    go : (b : Bool) → (Contains (without_copies before fdes) f → Contains fdes f)
        → (Contains (without_copies (before ++ g ∷ []) fdes) f → Contains fdes f)
        → Contains (cond b (without_copies before fdes) (g ∷ without_copies (before ++ g ∷ []) fdes)) f → Contains (g ∷ fdes) f
    go true left kept among = later g f fdes (left among)
    go false left kept (zero, less, is) = (zero, omega arith, is)
    go false left kept (suc k, less, is) = later g f fdes (kept (k, omega arith, is))

-- the laws about copies that are used here
pub record CopyLaws : Type 0 where
  pub cies : (records : List Record) → cies_among (distinct records) ≡ cies_among records
  pub fdes : (records : List Record) → fdes_among (distinct records) ≡ without_copies [] (fdes_among records)

overlaps-only : (cies : List Cie) (fdes : List Fde) (fault : Fault) → first_fault (pointer_fault cies) fdes ≡ None
    → first_fault cie_fault cies ≡ None → first_fault (program_fault cies) fdes ≡ None → parts_fault cies fdes ≡ Some fault → fault.kind ≡ Overlap
unfolding parts_fault
overlaps-only cies fdes fault pointers programs of_fdes is =
    go fdes (sym (ap (λ (o : Option Fault). option_or (option_or o (option_or (first_fault cie_fault cies) (first_fault (program_fault cies) fdes)))
    (first_fault (overlap_fault fdes) fdes)) pointers
    ∙ (ap (λ (o : Option Fault). option_or (option_or o (first_fault (program_fault cies) fdes)) (first_fault (overlap_fault fdes) fdes)) programs
    ∙ ap (λ (o : Option Fault). option_or o (first_fault (overlap_fault fdes) fdes)) of_fdes)) ∙ is)
  where
    one : (g : Fde) (b : Bool) (rest : Option Fault)
        → option_or (cond b (Some (record { kind = Overlap; at = g.offset })) None) rest ≡ Some fault → (rest ≡ Some fault → fault.kind ≡ Overlap)
        → fault.kind ≡ Overlap
    one g true rest is others = let same : record { kind = Overlap; at = g.offset } ≡ fault = cc in sym (ap (λ (f : Fault). f.kind) same)
    one g false rest is others = others is

    go : (xs : List Fde) → first_fault (overlap_fault fdes) xs ≡ Some fault → fault.kind ≡ Overlap
    go [] is = absurd cc
    go (g ∷ xs) is = one g _ (first_fault (overlap_fault fdes) xs) is (go xs)

kept-parts : CopyLaws → (is_aarch64 : Bool) (target : Target) (section : List ℕ) (kept : List EhRecord) (fault : Fault)
    → AreGoodOnes is_aarch64 target section kept
    → parts_fault (cies_among (distinct (all_in_dwarf kept))) (fdes_among (distinct (all_in_dwarf kept))) ≡ Some fault → fault.kind ≡ Overlap
kept-parts laws is_aarch64 target section kept fault good is =
    let records = all_in_dwarf kept in
    let cies = cies_among records in
    let fdes = without_copies [] (fdes_among records) in
    let eh = λ (f : Fde) (among : Contains fdes f). eh-of kept f (was-there [] (fdes_among records) f among) in
    let found = λ (f : Fde) (among : Contains fdes f).
    let (e, e_in, same) = eh f among in
    subst (λ (g : Fde). cie_at cies g.cie_pointer ≡ Some (good.fdes e e_in).cie) same (good.fdes e e_in).at in
    overlaps-only cies fdes fault
    (no-first (pointer_fault cies) fdes (λ f among. ap (λ (o : Option Cie). cond (is_some o) None
    (Some (record { kind = NoSuchCie; at = f.cie_pointer_offset }))) (found f among)))
    (no-first cie_fault cies (λ c among. let (d, d_in, same) = cie-of kept c among in
    subst (λ (b : Cie). cie_fault b ≡ None) same (good.cies d d_in)))
    (no-first (program_fault cies) fdes (λ f among.
    let (e, e_in, same) = eh f among in
    ap (λ (o : Option Cie). fault_by_cie o f) (found f among)
    ∙ subst (λ (g : Fde). fde_fault (good.fdes e e_in).cie g ≡ None) same (good.fdes e e_in).good))
    (subst (λ (l : List Cie). parts_fault l fdes ≡ Some fault) (laws.cies records)
    (subst (λ (l : List Fde). parts_fault (cies_among (distinct records)) l ≡ Some fault) (laws.fdes records) is))

or-some : (a b : Option Fault) (fault : Fault) → option_or a b ≡ Some fault → (a ≡ Some fault) ⊎ (b ≡ Some fault)
or-some None b fault is = inr is
or-some (Some other) b fault is = inl is

-- in a section that isn't accepted
refused-whole : CopyLaws → (is_aarch64 : Bool) (bases : Bases) (target : Target) (section : List ℕ) (fault : Fault)
    → AreGoodOnes is_aarch64 target section (split_records is_aarch64 bases target section).kept
    → is_none (eh_section_fault is_aarch64 bases target section) ≡ false → split_fault is_aarch64 bases target section ≡ Some fault
    → (fault_in (items_of is_aarch64 bases target section) ≡ Some fault) ⊎ (fault.kind ≡ Overlap)
refused-whole laws is_aarch64 bases target section fault good refused is =
    let sorted = split_records is_aarch64 bases target section in
    let same : kept_of is_aarch64 bases target section ≡ sorted =
    ap (λ b. cond b (all_records is_aarch64 bases target section) sorted) refused in
    elim (or-some (fault_in (items_of is_aarch64 bases target section))
    (parts_fault (kept_frame_of is_aarch64 bases target section).cies (kept_frame_of is_aarch64 bases target section).fdes) fault is) [
      | inl length ↦ inl length
      | inr parts ↦ inr (kept-parts laws is_aarch64 target section sorted.kept fault good
          (subst (λ (s : Split). parts_fault (cies_among (distinct (all_in_dwarf s.kept))) (fdes_among (distinct (all_in_dwarf s.kept))) ≡ Some fault)
          same parts))
    ]

pub whole-faults : CopyLaws → (is_aarch64 : Bool) (bases : Bases) (target : Target) (section : List ℕ) (fault : Fault)
    → AreGoodOnes is_aarch64 target section (split_records is_aarch64 bases target section).kept
    → whole_fault is_aarch64 bases target section ≡ Some fault
    → (fault_in (items_of is_aarch64 bases target section) ≡ Some fault) ⊎ (fault.kind ≡ Overlap)
unfolding whole_fault
whole-faults laws is_aarch64 bases target section fault good is = go (is_none (eh_section_fault is_aarch64 bases target section)) refl is
  where
    go : (b : Bool) → is_none (eh_section_fault is_aarch64 bases target section) ≡ b
        → cond b None (split_fault is_aarch64 bases target section) ≡ Some fault
        → (fault_in (items_of is_aarch64 bases target section) ≡ Some fault) ⊎ (fault.kind ≡ Overlap)
    go true none is = absurd cc
    go false refused is = refused-whole laws is_aarch64 bases target section fault good refused is
