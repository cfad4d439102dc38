-- Counting: an address that is covered once, and CIEs and FDEs without fault, one after another.
use Rattle.std.proofs.Common.{◌≡◌, ℕ, zero, suc, ◌+◌, ◌<◌, ◌≤◌, ◌⊎◌, inl, inr, Bool, true, false, List, [], ◌∷◌, ◌++◌, length, Contains, Option, Some, None, refl, sym, ap, ◌∙◌, arith}
use Rattle.std.specs.Prelude.{◌==◌, ◌&&◌, nat_lt, find}
use Rattle.std.specs.List.{flat_map, list_any}
use Rattle.std.specs.Option.{option_or}
use Rattle.std.proofs.lemmas.Bool.Decides.{nat_tests}
use Rattle.std.proofs.lemmas.List.{length-append}
use Rattle.std.proofs.lemmas.List.Folds.{find-append}
use Rattle.std.proofs.lemmas.List.Sums.{sum_by-cons}
use Rattle.dw_frame.specs.Records.{Cie, Fde}
use Rattle.dw_rules.specs.Expressions.{cie_expressions, fde_expressions, expressions_of}
use Rattle.dw_rules.specs.ProgramFault.{cie_fault}
use Rattle.dw_rows.specs.Section.{Covers, cie_at, covers, first_fault, overlap_fault, parts_fault, placed_rows, pointer_fault, program_fault, rows_by_cie, shares}
use Rattle.dw_rows.specs.UnwindRows.{rows_of}
use Rattle.dw_eh_rows.specs.Counting.{HasGoodCie, one_if, times_among}
use Rattle.dw_eh_rows.proofs.KeptOnes.{no-first}

-- ---- an address that is covered once

one-of : (f : Fde) (a : ℕ) → Covers f a → one_if (covers a f) ≡ 1
one-of f a here = go (covers a f) refl
  where
    go : (b : Bool) → covers a f ≡ b → one_if b ≡ 1
    go true is = refl
    go false is = absurd (grind (arith, nat_tests, here.0, here.1, is))

some-times : (fdes : List Fde) (f : Fde) (a : ℕ) → Contains fdes f → Covers f a → 1 ≤ times_among a fdes
some-times [] f a (k, less, is) here = absurd (omega (arith, less))
some-times (g ∷ fdes) f a (zero, less, is) here =
    let one = one-of f a here in
    let same = ap (λ (h : Fde). one_if (covers a h)) is in
    omega (arith, sum_by-cons (λ (h : Fde). one_if (covers a h)) g fdes, one, same)
some-times (g ∷ fdes) f a (suc k, less, is) here =
    omega (arith, sum_by-cons (λ (h : Fde). one_if (covers a h)) g fdes, some-times fdes f a (k, omega (arith, less), is) here)

one-only : (fdes : List Fde) (a : ℕ) (f g : Fde) → times_among a fdes ≤ 1 → Contains fdes f → Contains fdes g → Covers f a → Covers g a → f ≡ g
one-only [] a f g once (k, less, is) g_in f_here g_here = absurd (omega (arith, less))
one-only (x ∷ fdes) a f g once (zero, less, is) (zero, less_too, same) f_here g_here = sym is ∙ same
one-only (x ∷ fdes) a f g once (zero, less, is) (suc k, less_too, same) f_here g_here =
    absurd (omega (
      arith,
      once,
      sum_by-cons (λ (h : Fde). one_if (covers a h)) x fdes,
      ap (λ (h : Fde). one_if (covers a h)) is,
      one-of f a f_here,
      some-times fdes g a (k, omega (arith, less_too), same) g_here,
    ))
one-only (x ∷ fdes) a f g once (suc k, less, is) (zero, less_too, same) f_here g_here =
    absurd (omega (
      arith,
      once,
      sum_by-cons (λ (h : Fde). one_if (covers a h)) x fdes,
      ap (λ (h : Fde). one_if (covers a h)) same,
      one-of g a g_here,
      some-times fdes f a (k, omega (arith, less), is) f_here,
    ))
one-only (x ∷ fdes) a f g once (suc k, less, is) (suc j, less_too, same) f_here g_here =
    one-only fdes a f g (omega (arith, once, sum_by-cons (λ (h : Fde). one_if (covers a h)) x fdes))
    (k, omega (arith, less), is) (j, omega (arith, less_too), same) f_here g_here

-- ---- no overlap

none-any : {X : Type 0} (test : X → Bool) (xs : List X) → ((x : X) → Contains xs x → test x ≡ false) → list_any test xs ≡ false
none-any test [] none = refl
none-any test (x ∷ xs) none =
    rw (none x (zero, omega arith, refl)) (none-any test xs (λ y (k, less, is). none y (suc k, omega (arith, less), is)))

-- two FDEs that are one can't be at two offsets
at-one-place : (fdes : List Fde) → ((a : ℕ) → times_among a fdes ≤ 1) → (f g : Fde) → Contains fdes f → Contains fdes g
    → (nat_lt f.offset g.offset && shares f g) ≡ false
at-one-place fdes once f g f_in g_in = go (nat_lt f.offset g.offset && shares f g) refl
  where
    ordered : (nat_lt f.offset g.offset && shares f g) ≡ true → f.offset < g.offset
    ordered is = grind (arith, nat_tests, is)

    low : (nat_lt f.offset g.offset && shares f g) ≡ true → (0 < f.address_range) × (0 < g.address_range)
    low is = grind (arith, nat_tests, is)

    crossed : (nat_lt f.offset g.offset && shares f g) ≡ true → (f.initial_location < g.initial_location + g.address_range)
        × (g.initial_location < f.initial_location + f.address_range)
    crossed is = grind (arith, nat_tests, is)

    meet : (nat_lt f.offset g.offset && shares f g) ≡ true → (f.initial_location ≤ g.initial_location) ⊎ (g.initial_location ≤ f.initial_location) → ⊥
    meet is (inl le) =
        let c = crossed is in
        let l = low is in
        let same = one-only fdes g.initial_location f g (once g.initial_location) f_in g_in
        (le, c.1) (omega arith, omega (arith, l.1)) in
        omega (arith, ordered is, ap (λ (h : Fde). h.offset) same)
    meet is (inr le) =
        let c = crossed is in
        let l = low is in
        let same = one-only fdes f.initial_location f g (once f.initial_location) f_in g_in
        (omega arith, omega (arith, l.0)) (le, c.0) in
        omega (arith, ordered is, ap (λ (h : Fde). h.offset) same)

    either : (m n : ℕ) → (m ≤ n) ⊎ (n ≤ m)
    either m n = grind (arith)

    go : (b : Bool) → (nat_lt f.offset g.offset && shares f g) ≡ b → b ≡ false
    go false is = refl
    go true is = absurd (meet is (either f.initial_location g.initial_location))

no-overlap : (fdes : List Fde) → ((a : ℕ) → times_among a fdes ≤ 1) → first_fault (overlap_fault fdes) fdes ≡ None
no-overlap fdes once = no-first (overlap_fault fdes) fdes (λ g g_in.
    rw (none-any (λ (f : Fde). nat_lt f.offset g.offset && shares f g) fdes (λ f f_in. at-one-place fdes once f g f_in g_in)) refl)

-- ---- no fault at all

no-pointer : (cies : List Cie) (f : Fde) → HasGoodCie cies f → pointer_fault cies f ≡ None
no-pointer cies f has = rw has.at refl

no-program : (cies : List Cie) (f : Fde) → HasGoodCie cies f → program_fault cies f ≡ None
no-program cies f has = rw has.at has.good

pub no-parts : (cies : List Cie) (fdes : List Fde) → ((c : Cie) → Contains cies c → cie_fault c ≡ None)
    → ((f : Fde) → Contains fdes f → HasGoodCie cies f) → ((a : ℕ) → times_among a fdes ≤ 1) → parts_fault cies fdes ≡ None
unfolding parts_fault
no-parts cies fdes cie_programs fde_programs once =
    rw (
      no-first (pointer_fault cies) fdes (λ f f_in. no-pointer cies f (fde_programs f f_in)),
      no-first cie_fault cies cie_programs,
      no-first (program_fault cies) fdes (λ f f_in. no-program cies f (fde_programs f f_in)),
    ) (no-overlap fdes once)

-- ---- one more CIE

pub found-still : (cies : List Cie) (x : Cie) (n : ℕ) (c : Cie) → cie_at cies n ≡ Some c → cie_at (cies ++ x ∷ []) n ≡ Some c
found-still cies x n c is =
    find-append (λ (d : Cie). d.offset == n) cies (x ∷ [])
    ∙ ap (λ (o : Option Cie). option_or o (find (λ (d : Cie). d.offset == n) (x ∷ []))) is

pub has-still : (cies : List Cie) (x : Cie) (f : Fde) → HasGoodCie cies f → HasGoodCie (cies ++ x ∷ []) f
has-still cies x f has = record { cie = has.cie; at = found-still cies x f.cie_pointer has.cie has.at; good = has.good }

rows-still : (cies : List Cie) (x : Cie) (f : Fde) → HasGoodCie cies f → placed_rows (cies ++ x ∷ []) f ≡ placed_rows cies f
rows-still cies x f has = ap (λ (o : Option Cie). rows_by_cie o f) (found-still cies x f.cie_pointer has.cie has.at ∙ sym has.at)

pub all-rows-still : (cies : List Cie) (x : Cie) (fdes : List Fde) → ((f : Fde) → Contains fdes f → HasGoodCie cies f)
    → length (flat_map (placed_rows (cies ++ x ∷ [])) fdes) ≡ length (flat_map (placed_rows cies) fdes)
all-rows-still cies x [] has = refl
all-rows-still cies x (f ∷ fdes) has =
    let one = ap length (rows-still cies x f (has f (zero, omega arith, refl))) in
    let others = all-rows-still cies x fdes (λ g (k, less, is). has g (suc k, omega (arith, less), is)) in
    length-append (placed_rows (cies ++ x ∷ []) f) (flat_map (placed_rows (cies ++ x ∷ [])) fdes)
    ∙ (ap (λ n. n + length (flat_map (placed_rows (cies ++ x ∷ [])) fdes)) one
    ∙ (ap (λ n. length (placed_rows cies f) + n) others
    ∙ sym (length-append (placed_rows cies f) (flat_map (placed_rows cies) fdes))))

pub cie-expressions-more : (cies : List Cie) (x : Cie)
    → length (cie_expressions (cies ++ x ∷ [])) ≡ length (cie_expressions cies) + length (expressions_of x.program)
cie-expressions-more [] x = length-append (expressions_of x.program) [] ∙ omega arith
cie-expressions-more (c ∷ cies) x =
    length-append (expressions_of c.program) (cie_expressions (cies ++ x ∷ []))
    ∙ omega (arith, cie-expressions-more cies x, length-append (expressions_of c.program) (cie_expressions cies))

-- ---- one more FDE

pub fde-expressions-more : (fdes : List Fde) (x : Fde)
    → length (fde_expressions (fdes ++ x ∷ [])) ≡ length (fde_expressions fdes) + length (expressions_of x.program)
fde-expressions-more [] x = length-append (expressions_of x.program) [] ∙ omega arith
fde-expressions-more (f ∷ fdes) x =
    length-append (expressions_of f.program) (fde_expressions (fdes ++ x ∷ []))
    ∙ omega (arith, fde-expressions-more fdes x, length-append (expressions_of f.program) (fde_expressions fdes))

pub rows-more : (cies : List Cie) (fdes : List Fde) (x : Fde) (c : Cie) → cie_at cies x.cie_pointer ≡ Some c
    → length (flat_map (placed_rows cies) (fdes ++ x ∷ [])) ≡ length (flat_map (placed_rows cies) fdes) + length (rows_of c x)
rows-more cies [] x c is =
    length-append (placed_rows cies x) [] ∙ omega (arith, ap (λ (o : Option Cie). length (rows_by_cie o x)) is)
rows-more cies (f ∷ fdes) x c is =
    length-append (placed_rows cies f) (flat_map (placed_rows cies) (fdes ++ x ∷ []))
    ∙ omega (arith, rows-more cies fdes x c is, length-append (placed_rows cies f) (flat_map (placed_rows cies) fdes))
