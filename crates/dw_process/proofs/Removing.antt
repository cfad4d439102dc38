-- Lemmas about removing a module: removing it by its index gives the list that `without` gives.
use Rattle.std.proofs.Common.{◌≡◌, ◌+◌, ◌==◌, ℕ, suc, List, Bool, true, false, [], ◌∷◌, length, Some, None, refl, sym, ap, ◌∙◌, arith, subst}
use Rattle.std.specs.Prelude.{cond, nat_lt, not, ◌||◌}
use Rattle.std.specs.List.{position, prefix_len, remove, list_any}
use Rattle.std.proofs.lemmas.Bool.Decides.{nat_tests}
use Rattle.dw_process.specs.declared.loaded_module.LoadedModule.{LoadedModule}
use Rattle.dw_process.specs.Processes.{without}

-- the number of modules before the first one that is loaded at `id`
abbrev before : ℕ → List LoadedModule → ℕ
before id modules = prefix_len (λ m. not (m.id == id)) modules

abbrev has_one : ℕ → List LoadedModule → Bool
has_one id modules = list_any (λ m. m.id == id) modules

removes_by_place : (id : ℕ) (modules : List LoadedModule) → remove modules (before id modules) ≡ without id modules
removes_by_place id [] = refl
removes_by_place id (m ∷ modules) = by_test (m.id == id) (removes_by_place id modules)
  where
    one_more : (n : ℕ) → remove (m ∷ modules) (1 + n) ≡ m ∷ remove modules n
    one_more n = let e : 1 + n ≡ suc n = omega arith in rw e refl

    by_test : (b : Bool) → remove modules (before id modules) ≡ without id modules
        → remove (m ∷ modules) (cond (not b) (1 + before id modules) 0) ≡ cond b modules (m ∷ without id modules)
    by_test true rest = refl
    by_test false rest = one_more (before id modules) ∙ ap (λ l. m ∷ l) rest

is_inside : (id : ℕ) (modules : List LoadedModule) → nat_lt (before id modules) (length modules) ≡ has_one id modules
is_inside id [] = refl
is_inside id (m ∷ modules) = by_test (m.id == id) (is_inside id modules)
  where
    by_test : (b : Bool) → nat_lt (before id modules) (length modules) ≡ has_one id modules
        → nat_lt (cond (not b) (1 + before id modules) 0) (length (m ∷ modules)) ≡ (b || has_one id modules)
    by_test true rest = grind (arith, nat_tests)
    by_test false rest = next (before id modules) (length modules) ∙ rest
      where
        next : (k n : ℕ) → nat_lt (1 + k) (suc n) ≡ nat_lt k n
        next k n = grind (arith, nat_tests)

keeps_all : (id : ℕ) (modules : List LoadedModule) → has_one id modules ≡ false → modules ≡ without id modules
keeps_all id [] none = refl
keeps_all id (m ∷ modules) none = by_test (m.id == id) none (keeps_all id modules)
  where
    by_test : (b : Bool) → (b || has_one id modules) ≡ false → (has_one id modules ≡ false → modules ≡ without id modules)
        → m ∷ modules ≡ cond b modules (m ∷ without id modules)
    by_test true is rest = cc
    by_test false is rest = ap (λ l. m ∷ l) (rest is)

of_some : (b : Bool) (n i : ℕ) → cond b (Some n) None ≡ Some i → (b ≡ true) × (n ≡ i)
of_some true n i is = (refl, cc)
of_some false n i is = cc

of_none : (b : Bool) (n : ℕ) → cond b (Some n) None ≡ None → b ≡ false
of_none true n is = cc
of_none false n is = refl

place_of_some : (id i : ℕ) (modules : List LoadedModule) → position (λ m. m.id == id) modules ≡ Some i
    → (nat_lt (before id modules) (length modules) ≡ true) × (before id modules ≡ i)
place_of_some id i modules is = of_some (nat_lt (before id modules) (length modules)) (before id modules) i is

pub removes : (id i : ℕ) (modules : List LoadedModule) → position (λ m. m.id == id) modules ≡ Some i
    → remove modules i ≡ without id modules
removes id i modules is =
    subst (λ n. remove modules n ≡ without id modules) (place_of_some id i modules is).1 (removes_by_place id modules)

pub has : (id i : ℕ) (modules : List LoadedModule) → position (λ m. m.id == id) modules ≡ Some i
    → list_any (λ m. m.id == id) modules ≡ true
has id i modules is = sym (is_inside id modules) ∙ (place_of_some id i modules is).0

pub has_not : (id : ℕ) (modules : List LoadedModule) → position (λ m. m.id == id) modules ≡ None
    → list_any (λ m. m.id == id) modules ≡ false
has_not id modules is =
    sym (is_inside id modules) ∙ of_none (nat_lt (before id modules) (length modules)) (before id modules) is

pub keeps : (id : ℕ) (modules : List LoadedModule) → position (λ m. m.id == id) modules ≡ None
    → modules ≡ without id modules
keeps id modules is = keeps_all id modules (has_not id modules is)
