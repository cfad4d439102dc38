-- What the search for the CIE at an offset (`cie_among`) finds.
use Rattle.std.proofs.Common.{◌≡◌, ℕ, suc, Bool, true, false, cond, eqb, List, [], ◌∷◌, Option, Some, None, Result, Ok, Err, refl, subst}
use Rattle.std.proofs.Common.{arith, inl, inr}
use Rattle.std.specs.Prelude.{Contains, ◌⊎◌}
use Rattle.std.specs.List.{AllByRecursion}
use Rattle.std.proofs.lemmas.Bool.{eqb-true, eqb-false}
use Rattle.std.proofs.lemmas.List.Elements.{All-from_recursion}
use Rattle.dw_bytes.specs.declared.fault.Fault.{Fault}
use Rattle.dw_frame.specs.Records.{Cie, Record, cie_record, fde_record}
use Rattle.dw_frame.specs.Sections.{cie_among}

here : {X : Type 0} (x : X) (xs : List X) → Contains (x ∷ xs) x
here x xs = (0, omega arith, refl)

there : {X : Type 0} (x y : X) (xs : List X) → Contains xs x → Contains (y ∷ xs) x
there x y xs (k, lt, is) = (suc k, omega arith, is)

abbrev Found : Type 0
Found = Result (Option Cie) Fault

abbrev chosen : Cie → Found
chosen c = Ok (Some c)

abbrev absent : Found
absent = Ok None

abbrev bad : Fault → Found
bad fault = Err fault

same-cie : (c d : Cie) → chosen c ≡ chosen d → c ≡ d
same-cie c d e = cc

same-fault : (f g : Fault) → bad f ≡ bad g → f ≡ g
same-fault f g e = cc

which : (b : Bool) (x y z : Found) → cond b x y ≡ z → ((b ≡ true) × (x ≡ z)) ⊎ ((b ≡ false) × (y ≡ z))
which true x y z e = inl (refl, e)
which false x y z e = inr (refl, e)

pub cie-found : (offset : ℕ) (entries : List (Result Record Fault)) (c : Cie) → cie_among offset entries ≡ Ok (Some c)
    → Contains entries (Ok (cie_record c)) × (c.offset ≡ offset)
cie-found offset [] c e = absurd cc
cie-found offset (Ok (cie_record d) ∷ entries) c e = elim (which (eqb d.offset offset) (chosen d) (cie_among offset entries) (chosen c) e) [
  | inl w ↦ subst (λ (x : Cie). Contains (Ok (cie_record d) ∷ entries) (Ok (cie_record x)) × (x.offset ≡ offset)) (same-cie d c w.1)
      (here (Ok (cie_record d)) entries, eqb-true d.offset offset w.0)
  | inr w ↦ let h = cie-found offset entries c w.1 in (there (Ok (cie_record c)) (Ok (cie_record d)) entries h.0, h.1)
]
cie-found offset (Ok (fde_record f) ∷ entries) c e = let h = cie-found offset entries c e in
    (there (Ok (cie_record c)) (Ok (fde_record f)) entries h.0, h.1)
cie-found offset (Err fault ∷ entries) c e = absurd cc

pub cie-fault : (offset : ℕ) (entries : List (Result Record Fault)) (fault : Fault) → cie_among offset entries ≡ Err fault
    → Contains entries (Err fault)
cie-fault offset [] fault e = absurd cc
cie-fault offset (Ok (cie_record d) ∷ entries) fault e =
    elim (which (eqb d.offset offset) (chosen d) (cie_among offset entries) (bad fault) e) [
      | inl w ↦ absurd (let never : chosen d ≡ bad fault = w.1 in cc)
      | inr w ↦ there (Err fault) (Ok (cie_record d)) entries (cie-fault offset entries fault w.1)
    ]
cie-fault offset (Ok (fde_record f) ∷ entries) fault e = there (Err fault) (Ok (fde_record f)) entries (cie-fault offset entries fault e)
cie-fault offset (Err other ∷ entries) fault e = subst (λ (f : Fault). Contains (Err other ∷ entries) (Err f)) (same-fault other fault e)
    (here (Err other) entries)

-- an item that isn't a CIE at the offset
abbrev IsNot : ℕ → Result Record Fault → Type 0
IsNot offset (Ok (cie_record c)) = ¬ (c.offset ≡ offset)
IsNot offset (Ok (fde_record f)) = Unit {0}
IsNot offset (Err fault) = Unit {0}

nowhere : (offset : ℕ) (entries : List (Result Record Fault)) → cie_among offset entries ≡ Ok None → AllByRecursion (IsNot offset) entries
nowhere offset [] e = tt
nowhere offset (Ok (cie_record d) ∷ entries) e = elim (which (eqb d.offset offset) (chosen d) (cie_among offset entries) absent e) [
  | inl w ↦ absurd (let never : chosen d ≡ absent = w.1 in cc)
  | inr w ↦ (eqb-false d.offset offset w.0, nowhere offset entries w.1)
]
nowhere offset (Ok (fde_record f) ∷ entries) e = (tt, nowhere offset entries e)
nowhere offset (Err fault ∷ entries) e = absurd cc

pub cie-none : (offset : ℕ) (entries : List (Result Record Fault)) (c : Cie) → cie_among offset entries ≡ Ok None
    → Contains entries (Ok (cie_record c)) → ¬ (c.offset ≡ offset)
cie-none offset entries c e (k, lt, is) =
    subst (IsNot offset) is (All-from_recursion (IsNot offset) entries (nowhere offset entries e) k (Ok (cie_record c)) lt)
