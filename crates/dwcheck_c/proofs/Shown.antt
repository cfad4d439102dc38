-- The expressions of sections, each converted to C's struct.
use Rattle.std.proofs.Common.{◌≡◌, ◌⊎◌, ℕ, suc, ◌+◌, ◌<◌, ◌≤◌, ◌∙◌, inl, inr, append_assoc, length-append, List, [], ◌∷◌, ◌++◌, length, take, add-one, get_or, refl, sym, ap, subst, arith}
use Rattle.std.specs.Prelude.{slice_set}
use Rattle.std.proofs.Math.Seq.{take-suc}
use Rattle.std.proofs.lemmas.List.{length-map, length-take-le, map-append}
use Rattle.dw_stack.specs.Located.{LocatedExpression, all_located, located_of}
use Rattle.dw_stack.specs.declared.checked.CheckedExpression.{CheckedExpression}
use Rattle.dw_c_types.specs.Slots.{put_into}
use Rattle.dw_c_types.proofs.Putting.{puts-length, puts_next, puts_no_more}
use Rattle.dwcheck_c.specs.declared.reports.CExpression.{CExpression}
use Rattle.dwcheck_c.specs.Reports.{AreShown, ShowsExpression}

-- one more expression
pub shown-next : (within : ℕ) (xs : List LocatedExpression) (outs : List CExpression) (x : LocatedExpression) (out : CExpression)
    → AreShown within xs outs → ShowsExpression within x out → AreShown within (xs ++ x ∷ []) (outs ++ out ∷ [])
shown-next within [] [] x out are is = (is, tt)
shown-next within [] (o ∷ outs) x out are is = absurd are
shown-next within (y ∷ xs) [] x out are is = absurd are
shown-next within (y ∷ xs) (o ∷ outs) x out are is = (are.0, shown-next within xs outs x out are.1 is)

pub shown-length : (within : ℕ) (xs : List LocatedExpression) (outs : List CExpression) → AreShown within xs outs → length outs ≡ length xs
shown-length within [] [] are = refl
shown-length within [] (o ∷ outs) are = absurd are
shown-length within (y ∷ xs) [] are = absurd are
shown-length within (y ∷ xs) (o ∷ outs) are = ap suc (shown-length within xs outs are.1)

-- the same for the first expressions of a list
pub shown-at : (within : ℕ) (xs : List (ℕ × CheckedExpression)) (i : ℕ) (x : ℕ × CheckedExpression) (outs : List CExpression) (out : CExpression)
    → i < length xs → x ≡ get_or xs i x → AreShown within (all_located (take i xs)) outs → ShowsExpression within (located_of x) out
    → AreShown within (all_located (take (i + 1) xs)) (outs ++ out ∷ [])
shown-at within xs i x outs out room at are is =
    let next : take (i + 1) xs ≡ take i xs ++ x ∷ [] =
    ap (λ (n : ℕ). take n xs) (add-one i) ∙ take-suc xs i x room
    ∙ ap (λ (y : ℕ × CheckedExpression). take i xs ++ y ∷ []) (sym at) in
    let all : all_located (take (i + 1) xs) ≡ all_located (take i xs) ++ located_of x ∷ [] =
    ap all_located next ∙ map-append located_of (take i xs) (x ∷ []) in
    subst (λ (l : List LocatedExpression). AreShown within l (outs ++ out ∷ [])) (sym all)
    (shown-next within (all_located (take i xs)) outs (located_of x) out are is)

pub shown-count : (within : ℕ) (xs : List (ℕ × CheckedExpression)) (i : ℕ) (outs : List CExpression) → i ≤ length xs
    → AreShown within (all_located (take i xs)) outs → length outs ≡ i
shown-count within xs i outs few are =
    shown-length within (all_located (take i xs)) outs are ∙ length-map (take i xs) located_of ∙ length-take-le i xs few

-- ---- written to slots

joined : (before outs : List CExpression) (out : CExpression) → (before ++ outs) ++ out ∷ [] ≡ before ++ (outs ++ out ∷ [])
joined before outs out = append_assoc before outs (out ∷ [])

-- an expression that fits
pub put-next : (before outs old slots : List CExpression) (count : ℕ) (out : CExpression) → slots ≡ put_into (before ++ outs) old
    → ((count ≡ length (before ++ outs)) ⊎ ((length slots ≤ count) × (length slots ≤ length (before ++ outs)))) → count < length slots
    → (slice_set slots count out ≡ put_into (before ++ (outs ++ out ∷ [])) old) × (count + 1 ≡ length (before ++ (outs ++ out ∷ [])))
put-next before outs old slots count out is (inl at) room = (
  ap (λ (l : List CExpression). slice_set l count out) is ∙ ap (λ (n : ℕ). slice_set (put_into (before ++ outs) old) n out) at
      ∙ puts_next (before ++ outs) old out ∙ ap (λ (l : List CExpression). put_into l old) (joined before outs out),
  ap (λ (n : ℕ). n + 1) at ∙ sym (length-append (before ++ outs) (out ∷ [])) ∙ ap length (joined before outs out),
)
put-next before outs old slots count out is (inr past) room = absurd (omega (arith, past.0, room))

-- an expression that doesn't
pub put-none : (before outs old slots : List CExpression) (count : ℕ) (out : CExpression) → slots ≡ put_into (before ++ outs) old
    → ((count ≡ length (before ++ outs)) ⊎ ((length slots ≤ count) × (length slots ≤ length (before ++ outs)))) → length slots ≤ count
    → (slots ≡ put_into (before ++ (outs ++ out ∷ [])) old) × (length slots ≤ length (before ++ (outs ++ out ∷ [])))
put-none before outs old slots count out is at full =
    let long : length slots ≡ length old = ap length is ∙ puts-length (before ++ outs) old in
    let few : length old ≤ length (before ++ outs) = within at in
    let more : length (before ++ outs) + 1 ≡ length (before ++ (outs ++ out ∷ [])) =
    sym (length-append (before ++ outs) (out ∷ [])) ∙ ap length (joined before outs out) in (
      is ∙ sym (puts_no_more (before ++ outs) (out ∷ []) old few) ∙ ap (λ (l : List CExpression). put_into l old) (joined before outs out),
      omega (arith, long, few, more),
    )
  where
    within : ((count ≡ length (before ++ outs)) ⊎ ((length slots ≤ count) × (length slots ≤ length (before ++ outs))))
        → length old ≤ length (before ++ outs)
    within (inl here) = omega (arith, here, full, ap length is, puts-length (before ++ outs) old)
    within (inr past) = omega (arith, past.1, ap length is, puts-length (before ++ outs) old)
