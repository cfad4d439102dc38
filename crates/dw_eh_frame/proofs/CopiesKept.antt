-- What is kept of records where exact copies are left out.
use Rattle.std.proofs.Common.{◌≡◌, ◌<◌, ℕ, zero, suc, Bool, true, false, cond, List, [], ◌∷◌, ◌++◌, Option, Some, None, Contains, refl, ap, subst, arith, inl, inr}
use Rattle.std.specs.Prelude.{◌⊎◌, ◌==◌, ◌&&◌, nat_lt, find}
use Rattle.std.specs.Str.{bytes_eq}
use Rattle.std.proofs.lemmas.Bool.Decides.{nat_tests}
use Rattle.std.proofs.lemmas.List.Elements.{Contains-push_cases}
use Rattle.std.proofs.lemmas.Slice.Eq.{bytes_eq-Decides}
use Rattle.dw_frame.specs.Records.{Cie, Fde, Record, cie_record, fde_record}
use Rattle.dw_eh_frame.specs.Copies.{SaysTheSame, covers_from, distinct_after, is_copy, repeats, repeats_one}

pub later : (x y : Record) (xs : List Record) → Contains xs y → Contains (x ∷ xs) y
later x y xs (k, less, is) = (suc k, omega arith, is)

-- ---- a copy says what an FDE before it says

both-true : (p q : Bool) → (p && q) ≡ true → (p ≡ true) × (q ≡ true)
both-true true q h = (refl, h)
both-true false q h = absurd cc

number-of : (n m : ℕ) → (n == m) ≡ true → n ≡ m
number-of n m is = grind (arith, nat_tests)

bytes-of : (xs ys : List ℕ) → bytes_eq xs ys ≡ true → xs ≡ ys
bytes-of xs ys is = grind (arith, bytes_eq-Decides xs ys)

find-some : (p : Fde → Bool) (xs : List Fde) (g : Fde) → find p xs ≡ Some g → Contains xs g × (p g ≡ true)
find-some p [] g is = absurd cc
find-some p (x ∷ xs) g is = go (p x) refl (λ h. find-some p xs g h) is
  where
    go : (b : Bool) → p x ≡ b → (find p xs ≡ Some g → Contains xs g × (p g ≡ true)) → cond b (Some x) (find p xs) ≡ Some g
        → Contains (x ∷ xs) g × (p g ≡ true)
    go true test others h = let same : x ≡ g = cc in ((zero, omega arith, same), subst (λ (y : Fde). p y ≡ true) same test)
    go false test others h = let found = others h in ((suc found.0.0, omega (arith, found.0.1), found.0.2), found.1)

repeated : (g f : Fde) → covers_from f.initial_location g ≡ true → repeats g f ≡ true → SaysTheSame g f
repeated g f covers same =
    let place = both-true (nat_lt 0 g.address_range) (g.initial_location == f.initial_location) covers in
    let parts = both-true ((g.address_range == f.address_range) && (g.cie_pointer == f.cie_pointer)) (bytes_eq g.program.rest f.program.rest) same in
    let numbers = both-true (g.address_range == f.address_range) (g.cie_pointer == f.cie_pointer) parts.0 in
    record {
      initial_location = number-of g.initial_location f.initial_location place.1;
      address_range = number-of g.address_range f.address_range numbers.0;
      cie_pointer = number-of g.cie_pointer f.cie_pointer numbers.1;
      bytes = bytes-of g.program.rest f.program.rest parts.1;
    }

some-range : (f : Fde) → nat_lt 0 f.address_range ≡ true → 0 < f.address_range
some-range f is = grind (arith, nat_tests)

pub copied : (before : List Fde) (f : Fde) → is_copy before f ≡ true
    → (g : Fde) × Contains before g × SaysTheSame g f × (0 < f.address_range)
copied before f copy =
    let parts = both-true (nat_lt 0 f.address_range) (repeats_one (find (covers_from f.initial_location) before) f) copy in
    go (find (covers_from f.initial_location) before) refl (some-range f parts.0) parts.1
  where
    go : (o : Option Fde) → find (covers_from f.initial_location) before ≡ o → 0 < f.address_range → repeats_one o f ≡ true
        → (g : Fde) × Contains before g × SaysTheSame g f × (0 < f.address_range)
    go None is some h = absurd cc
    go (Some g) is some h =
        let found = find-some (covers_from f.initial_location) before g is in
        (g, found.0, repeated g f found.1 h, some)

-- ---- all records

abbrev IsSaid : List Fde → List Record → Fde → Type 0
IsSaid before records f = (g : Fde) × (Contains before g ⊎ Contains (distinct_after before records) (fde_record g)) × SaysTheSame g f

itself : (f : Fde) → SaysTheSame f f
itself f = record { initial_location = refl; address_range = refl; cie_pointer = refl; bytes = refl }

fde-is : (e f : Fde) → fde_record e ≡ fde_record f → e ≡ f
fde-is e f same = cc

said : (before : List Fde) (records : List Record) (f : Fde) → Contains records (fde_record f) → IsSaid before records f
said before [] f (k, less, is) = absurd (omega arith)
said before (cie_record c ∷ records) f (zero, less, is) = absurd cc
said before (cie_record c ∷ records) f (suc k, less, is) = shift (said before records f (k, omega arith, is))
  where
    shift : IsSaid before records f → IsSaid before (cie_record c ∷ records) f
    shift (g, inl known, same) = (g, inl known, same)
    shift (g, inr found, same) = (g, inr (later (cie_record c) (fde_record g) (distinct_after before records) found), same)
said before (fde_record e ∷ records) f among =
    go (is_copy before e) refl (λ h. said before records f h) (λ h. said (before ++ e ∷ []) records f h) among
  where
    go : (b : Bool) → is_copy before e ≡ b → (Contains records (fde_record f) → IsSaid before records f)
        → (Contains records (fde_record f) → IsSaid (before ++ e ∷ []) records f) → Contains (fde_record e ∷ records) (fde_record f)
        → (g : Fde) × (Contains before g ⊎ Contains (cond b (distinct_after before records) (fde_record e ∷ distinct_after (before ++ e ∷ []) records)) (fde_record g))
        × SaysTheSame g f
    go true copy left kept (zero, less, is) =
        let one = copied before e copy in
        (one.0, inl one.1, subst (SaysTheSame one.0) (fde-is e f is) one.2)
    go true copy left kept (suc k, less, is) = left (k, omega arith, is)
    go false copy left kept (zero, less, is) = (f, inr (zero, omega arith, is), itself f)
    go false copy left kept (suc k, less, is) = shift (kept (k, omega arith, is))
      where
        shift : IsSaid (before ++ e ∷ []) records f
            → (g : Fde) × (Contains before g ⊎ Contains (fde_record e ∷ distinct_after (before ++ e ∷ []) records) (fde_record g)) × SaysTheSame g f
        shift (g, inr found, same) = (g, inr (later (fde_record e) (fde_record g) (distinct_after (before ++ e ∷ []) records) found), same)
        shift (g, inl known, same) = elim (Contains-push_cases before e g known) [
          | inl old ↦ (g, inl old, same)
          | inr new ↦ (g, inr (zero, omega arith, ap fde_record new), same)
        ]

-- an FDE that says the same is kept
pub fde-kept : (records : List Record) (f : Fde) → Contains records (fde_record f)
    → (g : Fde) × Contains (distinct_after [] records) (fde_record g) × SaysTheSame g f
fde-kept records f among = go (said [] records f among)
  where
    go : IsSaid [] records f → (g : Fde) × Contains (distinct_after [] records) (fde_record g) × SaysTheSame g f
    go (g, inl (k, less, is), same) = absurd (omega arith)
    go (g, inr found, same) = (g, found, same)

-- no CIE is left out
cie-after : (before : List Fde) (records : List Record) (c : Cie) → Contains records (cie_record c)
    → Contains (distinct_after before records) (cie_record c)
cie-after before [] c among = among
cie-after before (cie_record d ∷ records) c (zero, less, is) = (zero, omega arith, is)
cie-after before (cie_record d ∷ records) c (suc k, less, is) =
    later (cie_record d) (cie_record c) (distinct_after before records) (cie-after before records c (k, omega arith, is))
cie-after before (fde_record e ∷ records) c (zero, less, is) = absurd cc
cie-after before (fde_record e ∷ records) c (suc k, less, is) =
    go (is_copy before e) (cie-after before records c (k, omega arith, is)) (cie-after (before ++ e ∷ []) records c (k, omega arith, is))
  where
    go : (b : Bool) → Contains (distinct_after before records) (cie_record c) → Contains (distinct_after (before ++ e ∷ []) records) (cie_record c)
        → Contains (cond b (distinct_after before records) (fde_record e ∷ distinct_after (before ++ e ∷ []) records)) (cie_record c)
    go true left kept = left
    go false left kept = later (fde_record e) (cie_record c) (distinct_after (before ++ e ∷ []) records) kept

pub cie-kept : (records : List Record) (c : Cie) → Contains records (cie_record c) → Contains (distinct_after [] records) (cie_record c)
cie-kept records c among = cie-after [] records c among

-- no record is added
within : (before : List Fde) (records : List Record) (x : Record) → Contains (distinct_after before records) x → Contains records x
within before [] x among = among
within before (cie_record c ∷ records) x (zero, less, is) = (zero, omega arith, is)
within before (cie_record c ∷ records) x (suc k, less, is) = later (cie_record c) x records (within before records x (k, omega arith, is))
within before (fde_record e ∷ records) x among =
    go (is_copy before e) (λ h. within before records x h) (λ h. within (before ++ e ∷ []) records x h) among
  where
    go : (b : Bool) → (Contains (distinct_after before records) x → Contains records x)
        → (Contains (distinct_after (before ++ e ∷ []) records) x → Contains records x)
        → Contains (cond b (distinct_after before records) (fde_record e ∷ distinct_after (before ++ e ∷ []) records)) x
        → Contains (fde_record e ∷ records) x
    go true left kept among = later (fde_record e) x records (left among)
    go false left kept (zero, less, is) = (zero, omega arith, is)
    go false left kept (suc k, less, is) = later (fde_record e) x records (kept (k, omega arith, is))

pub none-added : (records : List Record) (x : Record) → Contains (distinct_after [] records) x → Contains records x
none-added records x among = within [] records x among
