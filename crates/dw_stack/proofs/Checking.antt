-- The checks of one operation, in order, and what their results mean.
use Rattle.std.proofs.Common.{◌≡◌, ◌∙◌, ℕ, ℤ, pos, negsuc, ◌+◌, ◌<◌, ◌≤◌, ◌||◌, Bool, true, false, not, cond, ltb, List, [], ◌∷◌, length}
use Rattle.std.proofs.Common.{Option, Some, None, refl, sym, ap, subst, inl, inr, arith}
use Rattle.std.specs.Prelude.{find, is_some, slice_index_or}
use Rattle.std.proofs.lemmas.Bool.{le-leb, leb-true, lt-ltb, ltb-true}
use Rattle.std.proofs.lemmas.Option.{same_Some}
use Rattle.dw_bytes.specs.declared.fault.FaultKind.{FaultKind}
use Rattle.dw_bytes.specs.declared.fault.FaultKind.TheVariants as fault
use Rattle.dw_stack.specs.declared.effect.StackEffect.{StackEffect}
use Rattle.dw_stack.specs.declared.operation_check.OutState.{OutState}
use Rattle.dw_stack.specs.declared.operation_check.TheConstants.{MAX_HEIGHT, MAX_PIECES}
use Rattle.dw_stack.specs.declared.state.StackState.{StackState}
use Rattle.dw_stack.specs.declared.state.Kind.{Kind}
use Rattle.dw_stack.specs.Effects.{effect_of}
use Rattle.dw_stack.specs.States.{stands_alone, height_after, next_mode}
use Rattle.dw_stack.specs.Paths.{Placed, place, branch_target, jump_target, has_operation, is_piece}
use Rattle.dw_stack.specs.declared.in_state.InState.{InState}
use Rattle.dw_stack.specs.declared.in_state.InState.TheVariants.{Unreached, Known}
use Rattle.dw_stack.specs.declared.state.State.{State}
use Rattle.dw_stack.specs.InStates.{StepObjects}
use Rattle.dw_stack.specs.Faults.{FitsCertificate, verdicts, is_ahead, is_start, suits, passes, first_failed, rank}
use Rattle.dw_stack.specs.OperationCheck.{IsEffectAt, Suits, TargetObjects, TargetIs, Checked, Objects}
use Rattle.dw_stack.proofs.paths.InStates.{Has}
use Rattle.dw_stack.proofs.Telling.{start_tells}

-- ---- the first check that fails

pub failed : (p : FaultKind → Bool) (xs : List FaultKind) (f : FaultKind) → find (λ g. not (p g)) xs ≡ Some f → p f ≡ false
failed p [] f is = absurd (cc)
failed p (x ∷ xs) f is = by (p x) refl is (failed p xs f)
  where
    by : (b : Bool) → p x ≡ b → cond (not b) (Some x) (find (λ g. not (p g)) xs) ≡ Some f
        → (find (λ g. not (p g)) xs ≡ Some f → p f ≡ false) → p f ≡ false
    by false here found later = ap p (sym (same_Some x f found)) ∙ here
    by true here found later = later found

-- each check in the list has a greater rank than the one before
abbrev Ascends : ℕ → List FaultKind → Type 0
Ascends n [] = Unit {0}
Ascends n (x ∷ xs) = (n < rank x) × Ascends (rank x) xs

ranks_above : (n : ℕ) (xs : List FaultKind) (g : FaultKind) → Ascends n xs → Has xs g → n < rank g
ranks_above n [] g up has = absurd has
ranks_above n (x ∷ xs) g up has = elim has [
  | inl here ↦ omega (arith, up.0, ap rank here)
  | inr later ↦ omega (arith, up.0, ranks_above (rank x) xs g up.1 later)
]

passed_before : (p : FaultKind → Bool) (n : ℕ) (xs : List FaultKind) (f g : FaultKind) → Ascends n xs → find (λ h. not (p h)) xs ≡ Some f
    → Has xs g → rank g < rank f → p g ≡ true
passed_before p n [] f g up is has less = absurd has
passed_before p n (x ∷ xs) f g up is has less = by (p x) refl is (λ found later. passed_before p (rank x) xs f g up.1 found later less)
  where
    by : (b : Bool) → p x ≡ b → cond (not b) (Some x) (find (λ h. not (p h)) xs) ≡ Some f
        → (find (λ h. not (p h)) xs ≡ Some f → Has xs g → p g ≡ true) → p g ≡ true
    by false at found rest =
        let same = ap rank (same_Some x f found) in
        elim has [
          | inl here ↦ absurd (omega (arith, less, same, ap rank here))
          | inr later ↦ absurd (omega (arith, less, same, ranks_above (rank x) xs g up.1 later))
        ]
    by true at found rest = elim has [ inl here ↦ ap p (sym here) ∙ at | inr later ↦ rest found later ]

-- an operation passes all checks before the first that it fails
pub before_first : (kind : Kind) (ops : List Placed) (len k pieces : ℕ) (e : StackEffect) (s : StackState) (f g : FaultKind)
    → first_failed (passes kind ops len k pieces e s) ≡ Some f → rank g < rank f → passes kind ops len k pieces e s g ≡ true
before_first kind ops len k pieces e s f g is less = by g less
  where
    up : Ascends 0 verdicts
    up = (omega arith, (omega arith, (omega arith, (omega arith, (omega arith, (omega arith, (omega arith, tt)))))))

    there : (h : FaultKind) → Has verdicts h → rank h < rank f → passes kind ops len k pieces e s h ≡ true
    there h has lt = passed_before (passes kind ops len k pieces e s) 0 verdicts f h up is has lt

    by : (h : FaultKind) → rank h < rank f → passes kind ops len k pieces e s h ≡ true
    by fault.NotInFrame lt = there fault.NotInFrame (inl refl) lt
    by fault.NotAlone lt = there fault.NotAlone (inr (inl refl)) lt
    by fault.Underflow lt = there fault.Underflow (inr (inr (inl refl))) lt
    by fault.TooDeep lt = there fault.TooDeep (inr (inr (inr (inl refl)))) lt
    by fault.TooManyPieces lt = there fault.TooManyPieces (inr (inr (inr (inr (inl refl))))) lt
    by fault.Backward lt = there fault.Backward (inr (inr (inr (inr (inr (inl refl)))))) lt
    by fault.TargetNotStart lt = there fault.TargetNotStart (inr (inr (inr (inr (inr (inr (inl refl))))))) lt
    by _ lt = refl

-- ---- what the results of the checks mean

pub few_passes : (piece : Bool) (pieces : ℕ) → (piece ≡ true → pieces < MAX_PIECES) → not piece || ltb pieces MAX_PIECES ≡ true
few_passes false pieces few = refl
few_passes true pieces few = lt-ltb pieces MAX_PIECES (few refl)

few_holds : (piece : Bool) (pieces : ℕ) → not piece || ltb pieces MAX_PIECES ≡ true → piece ≡ true → pieces < MAX_PIECES
few_holds false pieces is names = absurd (cc)
few_holds true pieces is names = ltb-true pieces MAX_PIECES is

pub ahead_passes : (next : ℕ) (o : Option ℤ) → ((z : ℤ) → o ≡ Some z → branch_target next z ≡ None → ⊥) → is_ahead next o ≡ true
ahead_passes next None ahead = refl
ahead_passes next (Some (pos n)) ahead = refl
ahead_passes next (Some (negsuc n)) ahead = absurd (ahead (negsuc n) refl refl)

pub start_passes : (ops : List Placed) (len : ℕ) (o : Option ℕ)
    → ((t : ℕ) → o ≡ Some t → (j : ℕ) × (j ≤ length ops) × (place ops len j ≡ t)) → is_start ops len o ≡ true
start_passes ops len None there = refl
start_passes ops len (Some t) there = elim (start_tells ops len t) [
  | inl found ↦ found.0
  | inr none ↦ let at = there t refl in absurd (none.1 at.0 at.1 at.2)
]

-- ---- the five checks of the stack, and the checks after them

abbrev stacked : Bool → Bool → Bool → Bool → Bool → Option FaultKind → Option FaultKind
stacked allowed alone needs low few rest =
    cond (not allowed) (Some fault.NotInFrame)
    (cond (not alone) (Some fault.NotAlone) (cond (not needs) (Some fault.Underflow)
    (cond (not low) (Some fault.TooDeep) (cond (not few) (Some fault.TooManyPieces) rest))))

stacked_failed : (a b c d h : Bool) (rest : Option FaultKind) (f : FaultKind) → stacked a b c d h None ≡ Some f
    → stacked a b c d h rest ≡ Some f
stacked_failed false b c d h rest f is = is
stacked_failed true false c d h rest f is = is
stacked_failed true true false d h rest f is = is
stacked_failed true true true false h rest f is = is
stacked_failed true true true true false rest f is = is
stacked_failed true true true true true rest f is = absurd (cc)

stacked_passed : (a b c d h : Bool) (rest : Option FaultKind) → a ≡ true → b ≡ true → c ≡ true → d ≡ true → h ≡ true
    → stacked a b c d h rest ≡ rest
stacked_passed a b c d h rest first second third fourth fifth = rw (first, second, third, fourth, fifth) refl

stacked_none : (a b c d h : Bool) (rest : Option FaultKind) → stacked a b c d h rest ≡ None
    → (a ≡ true) × (b ≡ true) × (c ≡ true) × (d ≡ true) × (h ≡ true) × (rest ≡ None)
stacked_none true true true true true rest is = (refl, refl, refl, refl, refl, is)
stacked_none false b c d h rest is = absurd (cc)
stacked_none true false c d h rest is = absurd (cc)
stacked_none true true false d h rest is = absurd (cc)
stacked_none true true true false h rest is = absurd (cc)
stacked_none true true true true false rest is = absurd (cc)

-- the two checks of a branch target
abbrev branched : Bool → Bool → Option FaultKind
branched ahead start = cond (not ahead) (Some fault.Backward) (cond (not start) (Some fault.TargetNotStart) None)

branched_none : (ahead start : Bool) → branched ahead start ≡ None → (ahead ≡ true) × (start ≡ true)
branched_none true true is = (refl, refl)
branched_none true false is = absurd (cc)
branched_none false start is = absurd (cc)

branch_fails : (ops : List Placed) (len k : ℕ) (z : ℤ) (f : FaultKind) → TargetObjects ops len k z f
    → branched (is_ahead (place ops len (k + 1)) (Some z)) (is_start ops len (jump_target (place ops len (k + 1)) (Some z))) ≡ Some f
branch_fails ops len k z fault.Backward back = ap (λ (t : Option ℕ). branched (is_some t) (is_start ops len t)) back
branch_fails ops len k z fault.TargetNotStart none =
    ap (λ (t : Option ℕ). branched (is_some t) (is_start ops len t)) none.1 ∙ elim (start_tells ops len none.0) [
      | inl found ↦ absurd (none.2 found.1 found.2 found.3)
      | inr nowhere ↦ ap (λ (b : Bool). branched true b) nowhere.0
    ]
branch_fails ops len k z _ none = absurd none

module _ (kind : Kind) (ops : List Placed) (len k pieces : ℕ) (s : StackState) (e : StackEffect) where
  abbrev few : Bool
  few = not (is_piece e.role) || ltb pieces MAX_PIECES

  abbrev branch : Option FaultKind
  branch = branched (is_ahead (place ops len (k + 1)) e.jump) (is_start ops len (jump_target (place ops len (k + 1)) e.jump))

  suits_passed : (height : ℕ) → Suits kind e pieces s height → first_failed (passes kind ops len k pieces e s) ≡ branch
  suits_passed height fits =
      let low : height_after e s ≤ MAX_HEIGHT = subst (λ (h : ℕ). h ≤ MAX_HEIGHT) fits.height_is fits.limit in
      stacked_passed (has_operation kind e) (stands_alone e.role s.mode s.height) _ _ few branch fits.allowed fits.alone
      (le-leb e.needs s.height fits.needs) (le-leb (height_after e s) MAX_HEIGHT low) (few_passes (is_piece e.role) pieces fits.few)

  -- an operation that passes all checks is allowed (`Suits`); if it is a branch, it isn't backward
  -- and leads to the start of an operation or to the end
  pub all_passed : first_failed (passes kind ops len k pieces e s) ≡ None → Suits kind e pieces s (height_after e s)
      × (is_ahead (place ops len (k + 1)) e.jump ≡ true) × (is_start ops len (jump_target (place ops len (k + 1)) e.jump) ≡ true)
  all_passed is =
      let all = stacked_none (has_operation kind e) (stands_alone e.role s.mode s.height) _ _ few branch is in
      let fits : Suits kind e pieces s (height_after e s) =
      record {
        allowed = all.0;
        alone = all.1;
        needs = leb-true e.needs s.height all.2;
        limit = leb-true (height_after e s) MAX_HEIGHT all.3;
        few = few_holds (is_piece e.role) pieces all.4;
        height_is = refl;
      } in
      let aims = branched_none (is_ahead (place ops len (k + 1)) e.jump)
      (is_start ops len (jump_target (place ops len (k + 1)) e.jump)) all.5 in
      (fits, aims.0, aims.1)

  module _ (at : IsEffectAt ops k e) where
    objects : (f : FaultKind) → first_failed (passes kind ops len k pieces e s) ≡ Some f → Objects kind ops len k pieces s f
    objects f is = record {
      placed = at.placed;
      stands = at.stands;
      first = subst (λ (d : StackEffect). first_failed (passes kind ops len k pieces d s) ≡ Some f) at.is is;
    }

    pub objects_unsuited : (f : FaultKind) → first_failed (suits kind pieces e s) ≡ Some f → Objects kind ops len k pieces s f
    objects_unsuited f is = objects f (stacked_failed (has_operation kind e) (stands_alone e.role s.mode s.height) _ _ few branch f is)

    module _ (height : ℕ) (fits : Suits kind e pieces s height) where
      pub objects_target : (z : ℤ) (f : FaultKind) → e.jump ≡ Some z → TargetObjects ops len k z f → Objects kind ops len k pieces s f
      objects_target z f is bad = objects f (suits_passed height fits
          ∙ ap (λ (o : Option ℤ). branched (is_ahead (place ops len (k + 1)) o)
          (is_start ops len (jump_target (place ops len (k + 1)) o))) is ∙ branch_fails ops len k z f bad)

      here : Suits kind (effect_of at.placed.1) pieces s height
      here = subst (λ (d : StackEffect). Suits kind d pieces s height) at.is fits

      pub checked : (target : Option ℕ) (out : OutState) → TargetIs ops len k e.jump target → out.state ≡ next_mode e.role height s.pieced
          → out.height ≡ height → out.piece ≡ is_piece e.role → out.falls_through ≡ e.falls_through → out.target ≡ target
          → Checked kind ops len k pieces s out
      checked target out is state_is h piece falls_through target_is = record {
        placed = at.placed;
        stands = at.stands;
        allowed = here.allowed;
        alone = here.alone;
        needs = here.needs;
        limit = subst (λ (n : ℕ). n ≤ MAX_HEIGHT) (sym h) here.limit;
        few = here.few;
        height = h ∙ here.height_is;
        state = state_is ∙ ap (λ (n : ℕ). next_mode e.role n s.pieced) fits.height_is
            ∙ ap (λ (d : StackEffect). next_mode d.role (height_after d s) s.pieced) at.is;
        piece = piece ∙ ap (λ (d : StackEffect). is_piece d.role) at.is;
        falls_through = falls_through ∙ ap (λ (d : StackEffect). d.falls_through) at.is;
        target = subst (λ (t : Option ℕ). TargetIs ops len k (effect_of at.placed.1).jump t) (sym target_is)
            (subst (λ (d : StackEffect). TargetIs ops len k d.jump target) at.is is);
      }

-- if the table has one known state for an operation, and the caller passed that state for it or no
-- states at all, then the first check that the operation fails is the fault of its step
pub step_objects : (kind : Kind) (ops : List Placed) (len : ℕ) (given : Option (List State)) (i pieces : ℕ) (old : List InState)
    (f : FaultKind) (s : StackState) → slice_index_or old i Unreached ≡ Known s → FitsCertificate ops len given i s
    → Objects kind ops len i pieces s f → StepObjects kind ops len given i pieces old f
step_objects kind ops len given i pieces old f s one is o =
    by f (failed (passes kind ops len i pieces (effect_of o.placed.1) s) verdicts f o.first) o
  where
    by : (g : FaultKind) → passes kind ops len i pieces (effect_of o.placed.1) s g ≡ false → Objects kind ops len i pieces s g
        → StepObjects kind ops len given i pieces old g
    by fault.Unreachable none bad = absurd (cc)
    by fault.Mismatch none bad = absurd (cc)
    by fault.CertState none bad = absurd (cc)
    by g none bad = (s, one, is, bad)
