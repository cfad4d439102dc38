-- Lemmas about walks that grow frame by frame.
use Rattle.std.proofs.Common.{◌≡◌, ℕ, zero, suc, ◌-◌, ◌<◌, ◌≤◌, ◌==◌, List, [], ◌∷◌, ◌++◌, length, Option, None, Some}
use Rattle.std.proofs.Common.{refl, sym, ap, subst, ◌∙◌, arith}
use Rattle.std.proofs.lemmas.List.{map-append}
use Rattle.std.specs.Prelude.{All, map, true, false}
use Rattle.std.proofs.lemmas.Bool.Decides.{nat_tests}
use Rattle.std.proofs.lemmas.List.Elements.{All-append, All-from_recursion}
use Rattle.dw_unwind.specs.declared.frames.Stop.{Stop}
use Rattle.dw_unwind.specs.declared.frames.Stop.TheVariants.{Limit}
use Rattle.dw_unwind.specs.Walks.{CallerRelation, Place, WalkedFrame, AreFrames, IsFrameAt, Walks, next_place}
use Rattle.dw_unwind.specs.Walks.{address_before, stop_after, stop_of_caller}
use Rattle.dw_unwind.specs.WalkSteps.{Progress, about_to_give, has_given, GivesFrame, stop_of}

-- if `frames`, followed by `f`, are frames of a walk, and `g` is the frame after `f`, then `g` can
-- be appended
pub one_more_frame : (u : CallerRelation) (p : Option Place) (frames : List WalkedFrame) (f g : WalkedFrame)
    → AreFrames u p (frames ++ f ∷ []) → AreFrames u (next_place f.caller) (g ∷ []) → AreFrames u p ((frames ++ f ∷ []) ++ g ∷ [])
one_more_frame u None [] f g h next = absurd h
one_more_frame u (Some p) [] f g h next = (h.0, next)
one_more_frame u None (x ∷ frames) f g h next = absurd h
one_more_frame u (Some p) (x ∷ frames) f g h next = (h.0, one_more_frame u (next_place x.caller) frames f g h.1 next)

-- why no frame follows frames that end with `f` depends only on `f`
pub stop_after_last : (frames : List WalkedFrame) (f : WalkedFrame) → stop_after (frames ++ f ∷ []) ≡ stop_of_caller f.caller
stop_after_last [] f = refl
stop_after_last (x ∷ []) f = refl
stop_after_last (x ∷ y ∷ frames) f = stop_after_last (y ∷ frames) f

-- the address before `a` is `a` minus 1, if `a` isn't 0
pub before_is : (a b : ℕ) → 1 ≤ a → b ≡ a - 1 → address_before a ≡ Some b
before_is zero b some is = absurd (omega (arith, some))
before_is (suc n) b some is = let same : n ≡ b = omega (arith, is) in ap Some same

pub none_before : (a : ℕ) → (1 ≤ a → ⊥) → address_before a ≡ None
none_before zero none = refl
none_before (suc n) none = absurd (none (omega arith))

-- ---- a walk under way

-- The walk with the progress `p` has given `frames`, from the place `first` on. Any frame that it
-- gives next comes after them. If it gives no next frame for some reason (`stop_of`), that is also
-- the reason why no frame follows `frames` (`stop_after`).
pub record UnderWay (u : CallerRelation) (first : Place) (frames : List WalkedFrame) (p : Progress) : Type 0 where
  pub are : AreFrames u (Some first) frames
  pub next : (f : WalkedFrame) → GivesFrame u p f → AreFrames u (Some first) (frames ++ f ∷ [])
  pub stops : (stop : Stop) → stop_of p ≡ Some stop → stop_after frames ≡ Some stop

pub begins : (u : CallerRelation) (first : Place) (f : WalkedFrame) → IsFrameAt u first f → UnderWay u first [] (about_to_give f)
begins u first f is = record {
  are = tt;
  next = λ g same. (subst (λ (x : WalkedFrame). IsFrameAt u first x) (sym same) is, tt);
  stops = λ stop none. absurd (cc);
}

pub goes_on : (u : CallerRelation) (first : Place) (frames : List WalkedFrame) (p : Progress) (f : WalkedFrame) → UnderWay u first frames p
    → GivesFrame u p f → UnderWay u first (frames ++ f ∷ []) (has_given f)
goes_on u first frames p f h gives = record {
  are = h.next f gives;
  next = λ g comes. one_more_frame u (Some first) frames f g (h.next f gives) comes;
  stops = λ stop is. stop_after_last frames f ∙ is;
}

pub ends : (u : CallerRelation) (first : Place) (limit : ℕ) (frames : List WalkedFrame) (p : Progress) (stop : Stop)
    → UnderWay u first frames p → length frames < limit → stop_of p ≡ Some stop → Walks u first limit frames stop
ends u first limit frames p stop h few why =
    let other : (length frames == limit) ≡ false = grind (arith, nat_tests, few) in
    record { are = h.are; few = omega (arith, few); ends = rw other (h.stops stop why) }

pub fills : (u : CallerRelation) (first : Place) (limit : ℕ) (frames : List WalkedFrame) (p : Progress) → UnderWay u first frames p
    → length frames ≡ limit → Walks u first limit frames Limit
fills u first limit frames p h many =
    let full : (length frames == limit) ≡ true = grind (arith, nat_tests, many) in
    record { are = h.are; few = omega (arith, many); ends = rw full refl }

-- ---- a property of all frames, with one more frame

pub one_more_holds : {X Y : Type 0} (P : Y → Type 0) (view : X → Y) (xs : List X) (x : X) → All P (map view xs) → P (view x)
    → All P (map view (xs ++ x ∷ []))
one_more_holds P view xs x each here =
    subst (All P) (sym (map-append view xs (x ∷ [])))
    (All-append P (map view xs) (view x ∷ []) each (All-from_recursion P (view x ∷ []) (here, tt)))
