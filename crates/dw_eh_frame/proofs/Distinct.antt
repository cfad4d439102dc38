-- Records without exact copies of FDEs.
use Rattle.std.proofs.Common.{◌≡◌, ℕ, ◌<◌, Bool, true, false, cond, List, [], ◌∷◌, ◌++◌, Contains, refl, ap, arith, inl, inr}
use Rattle.std.specs.Prelude.{◌⊎◌}
use Rattle.std.proofs.lemmas.List.Elements.{Contains-push_cases}
use Rattle.dw_bytes.specs.declared.target.Target.{Target}
use Rattle.dw_frame.specs.Bounds.{ArePlaced}
use Rattle.dw_frame.specs.Records.{Cie, Fde, Record, cie_record, fde_record, cies_among, fdes_among}
use Rattle.dw_eh_frame.specs.Copies.{AreDistinct, distinct, distinct_after, is_copy, without_copies}
use Rattle.dw_eh_frame.proofs.CopiesKept.{copied, later}
use Rattle.dw_eh_frame.proofs.Placed.{placed-from, sound-forward}

-- ---- the CIEs and the FDEs that are kept

pub distinct-cies : (before : List Fde) (records : List Record) → cies_among (distinct_after before records) ≡ cies_among records
distinct-cies before [] = refl
distinct-cies before (cie_record c ∷ records) = ap (λ (l : List Cie). c ∷ l) (distinct-cies before records)
distinct-cies before (fde_record f ∷ records) =
    go (is_copy before f) (distinct-cies before records) (distinct-cies (before ++ f ∷ []) records)
  where
    go : (b : Bool) → cies_among (distinct_after before records) ≡ cies_among records
        → cies_among (distinct_after (before ++ f ∷ []) records) ≡ cies_among records
        → cies_among (cond b (distinct_after before records) (fde_record f ∷ distinct_after (before ++ f ∷ []) records)) ≡ cies_among records
    go true left kept = left
    go false left kept = kept

pub distinct-fdes : (before : List Fde) (records : List Record)
    → fdes_among (distinct_after before records) ≡ without_copies before (fdes_among records)
distinct-fdes before [] = refl
distinct-fdes before (cie_record c ∷ records) = distinct-fdes before records
distinct-fdes before (fde_record f ∷ records) =
    go (is_copy before f) (distinct-fdes before records) (distinct-fdes (before ++ f ∷ []) records)
  where
    go : (b : Bool) → fdes_among (distinct_after before records) ≡ without_copies before (fdes_among records)
        → fdes_among (distinct_after (before ++ f ∷ []) records) ≡ without_copies (before ++ f ∷ []) (fdes_among records)
        → fdes_among (cond b (distinct_after before records) (fde_record f ∷ distinct_after (before ++ f ∷ []) records))
        ≡ cond b (without_copies before (fdes_among records)) (f ∷ without_copies (before ++ f ∷ []) (fdes_among records))
    go true left kept = left
    go false left kept = ap (λ (l : List Fde). f ∷ l) kept

-- ---- where they lie

pub distinct-placed : (target : Target) (at end : ℕ) (before : List Fde) (records : List Record) → ArePlaced target at end records
    → ArePlaced target at end (distinct_after before records)
distinct-placed target at end before [] are = are
distinct-placed target at end before (cie_record c ∷ records) (next, begins, sound, others) =
    (next, begins, sound, distinct-placed target next end before records others)
distinct-placed target at end before (fde_record f ∷ records) (next, begins, sound, others) =
    go (is_copy before f) (distinct-placed target next end before records others)
    (distinct-placed target next end (before ++ f ∷ []) records others)
  where
    go : (b : Bool) → ArePlaced target next end (distinct_after before records)
        → ArePlaced target next end (distinct_after (before ++ f ∷ []) records)
        → ArePlaced target at end (cond b (distinct_after before records) (fde_record f ∷ distinct_after (before ++ f ∷ []) records))
    go true left kept =
        placed-from target at next end (distinct_after before records)
        (omega (arith, begins, sound-forward target next (fde_record f) sound)) left
    go false left kept = (next, begins, sound, kept)

-- ---- where there are no copies

-- each of the FDEs that were kept begins before the offset `at`
abbrev AreBefore : ℕ → List Fde → Type 0
AreBefore at before = (g : Fde) → Contains before g → g.offset < at

-- The FDEs `before` and those among the records cover different addresses.
abbrev AreApart : List Fde → List Record → Type 0
AreApart before records = (g f : Fde) → Contains before g ⊎ Contains records (fde_record g) → Contains records (fde_record f)
    → 0 < f.address_range → g.address_range ≡ f.address_range → g.initial_location ≡ f.initial_location → g ≡ f

all-kept : (target : Target) (at end : ℕ) (before : List Fde) (records : List Record) → AreBefore at before → ArePlaced target at end records
    → AreApart before records → distinct_after before records ≡ records
all-kept target at end before [] earlier are apart = refl
all-kept target at end before (cie_record c ∷ records) earlier (next, begins, sound, others) apart =
    ap (λ (l : List Record). cie_record c ∷ l) (all-kept target next end before records
    (λ g among. omega (arith, earlier g among, begins, sound-forward target next (cie_record c) sound)) others rest)
  where
    rest : AreApart before records
    rest g f (inl old) among = apart g f (inl old) (later (cie_record c) (fde_record f) records among)
    rest g f (inr new) among =
        apart g f (inr (later (cie_record c) (fde_record g) records new)) (later (cie_record c) (fde_record f) records among)
all-kept target at end before (fde_record e ∷ records) earlier (next, begins, sound, others) apart =
    go (is_copy before e) refl (all-kept target next end (before ++ e ∷ []) records onward others rest)
  where
    forward : e.offset < next
    forward = sound-forward target next (fde_record e) sound

    onward : AreBefore next (before ++ e ∷ [])
    onward g among = elim (Contains-push_cases before e g among) [
      | inl old ↦ omega (arith, earlier g old, begins, forward)
      | inr new ↦ omega (arith, ap (λ (h : Fde). h.offset) new, forward)
    ]

    rest : AreApart (before ++ e ∷ []) records
    rest g f (inl known) among = elim (Contains-push_cases before e g known) [
      | inl old ↦ apart g f (inl old) (later (fde_record e) (fde_record f) records among)
      | inr new ↦ apart g f (inr (0, omega arith, ap fde_record new)) (later (fde_record e) (fde_record f) records among)
    ]
    rest g f (inr found) among =
        apart g f (inr (later (fde_record e) (fde_record g) records found)) (later (fde_record e) (fde_record f) records among)

    go : (b : Bool) → is_copy before e ≡ b → distinct_after (before ++ e ∷ []) records ≡ records
        → cond b (distinct_after before records) (fde_record e ∷ distinct_after (before ++ e ∷ []) records) ≡ fde_record e ∷ records
    go true copy same =
        let one = copied before e copy in
        let is = apart one.0 e (inl one.1) (0, omega arith, refl) one.3 one.2.address_range one.2.initial_location in
        absurd (omega (arith, earlier one.0 one.1, ap (λ (h : Fde). h.offset) is, begins))
    go false other same = ap (λ (l : List Record). fde_record e ∷ l) same

pub distinct-all : (target : Target) (at end : ℕ) (records : List Record) → ArePlaced target at end records → AreDistinct records
    → distinct records ≡ records
distinct-all target at end records are apart = all-kept target at end [] records (λ g (k, less, is). absurd (omega arith)) are both
  where
    both : AreApart [] records
    both g f (inl (k, less, is)) among = absurd (omega arith)
    both g f (inr found) among = apart g f found among
