-- Frames that a walk gives one by one are the frames of a walk with a limit, or a prefix of them.
use Rattle.std.proofs.Common.{◌≡◌, ℕ, zero, suc, ◌+◌, ◌-◌, ◌<◌, ◌≤◌, List, [], ◌∷◌, ◌++◌, length, Option, None, Some, inl, inr}
use Rattle.std.proofs.Common.{refl, sym, subst, arith, append-nil, append_assoc, length-append}
use Rattle.std.specs.Prelude.{◌⊎◌, option_map}
use Rattle.dw_unwind.specs.Caller.{Answer, value, undefined, unreadable, division_by_zero, Caller}
use Rattle.dw_unwind.specs.declared.frames.Stop.{Stop}
use Rattle.dw_unwind.specs.declared.frames.Stop.TheVariants.{Limit, NotCovered, ReturnUndefined, ReturnUnreadable, ReturnDivisionByZero}
use Rattle.dw_unwind.specs.Walks.{AlwaysUnwinds, CallerRelation, Place, WalkedFrame, AreFrames, IsFrameAt, Walks, content_of, next_place}
use Rattle.dw_unwind.specs.Walks.{place_of_caller, stop_of_caller, stop_of_return}
use Rattle.dw_unwind.specs.WalkSteps.{Progress, about_to_give, has_given, GivesFrame, GivesFrames, after, stop_of}
use Rattle.dw_unwind.proofs.OneWalk.{some_frame_at}
use Rattle.dw_unwind.proofs.Walking.{UnderWay, begins, goes_on, ends, fills}

-- ---- from the frames given so far to a walk with a limit

module _ (u : CallerRelation) (first : Place) where
  -- if a walk is under way after the frames `front`, and then gives `frames`, it is under way after
  -- all of them
  further : (front : List WalkedFrame) (p : Progress) (frames : List WalkedFrame) → UnderWay u first front p → GivesFrames u p frames
      → UnderWay u first (front ++ frames) (after p frames)
  further front p [] h given = subst (λ (l : List WalkedFrame). UnderWay u first l p) (sym (append-nil front)) h
  further front p (f ∷ frames) h given =
      subst (λ (l : List WalkedFrame). UnderWay u first l (after (has_given f) frames)) (append_assoc front (f ∷ []) frames)
      (further (front ++ f ∷ []) (has_given f) frames (goes_on u first front p f h given.0) given.1)

  given_so_far : (begin : WalkedFrame) (frames : List WalkedFrame) → IsFrameAt u first begin → GivesFrames u (about_to_give begin) frames
      → UnderWay u first frames (after (about_to_give begin) frames)
  given_so_far begin frames at given = further [] (about_to_give begin) frames (begins u first begin at) given

  -- the frames given so far are a whole walk if the walk gives no next frame, or if their number is
  -- the limit
  pub given_and_ended : (begin : WalkedFrame) (limit : ℕ) (frames : List WalkedFrame) (stop : Stop) → IsFrameAt u first begin
      → GivesFrames u (about_to_give begin) frames → stop_of (after (about_to_give begin) frames) ≡ Some stop → length frames < limit
      → Walks u first limit frames stop
  given_and_ended begin limit frames stop at given why few =
      ends u first limit frames (after (about_to_give begin) frames) stop (given_so_far begin frames at given) few why

  pub given_and_filled : (begin : WalkedFrame) (limit : ℕ) (frames : List WalkedFrame) → IsFrameAt u first begin
      → GivesFrames u (about_to_give begin) frames → length frames ≡ limit → Walks u first limit frames Limit
  given_and_filled begin limit frames at given many =
      fills u first limit frames (after (about_to_give begin) frames) (given_so_far begin frames at given) many

  module _ (some : AlwaysUnwinds u) where
    -- a walk with the progress `p` either has ended or gives a next frame
    abbrev GoesOn : Progress → Type 0
    GoesOn p = ((stop : Stop) × (stop_of p ≡ Some stop)) ⊎ ((f : WalkedFrame) × GivesFrame u p f)

    by_answer : (caller : Caller) (a : Answer) → ((stop : Stop) × (stop_of_return a ≡ Some stop))
        ⊎ ((f : WalkedFrame) × AreFrames u (option_map (place_of_caller caller) (content_of a)) (f ∷ []))
    by_answer caller (value n) = let f = some_frame_at u some (place_of_caller caller n) in inr (f.0, (f.1, tt))
    by_answer caller undefined = inl (ReturnUndefined, refl)
    by_answer caller unreadable = inl (ReturnUnreadable, refl)
    by_answer caller division_by_zero = inl (ReturnDivisionByZero, refl)

    by_caller : (c : Option Caller) → ((stop : Stop) × (stop_of_caller c ≡ Some stop))
        ⊎ ((f : WalkedFrame) × AreFrames u (next_place c) (f ∷ []))
    by_caller None = inl (NotCovered, refl)
    by_caller (Some caller) = by_answer caller caller.return_address

    goes_or_ends : (p : Progress) → GoesOn p
    goes_or_ends (about_to_give f) = inr (f, refl)
    goes_or_ends (has_given last) = by_caller last.caller

    -- the frames are a prefix of some whole walk with this limit
    abbrev Whole : ℕ → List WalkedFrame → Type 0
    Whole limit frames = (more : List WalkedFrame) × (stop : Stop) × Walks u first limit (frames ++ more) stop

    no_more : (limit : ℕ) (frames : List WalkedFrame) (stop : Stop) → Walks u first limit frames stop → Whole limit frames
    no_more limit frames stop walks =
        ([], stop, subst (λ (l : List WalkedFrame). Walks u first limit l stop) (sym (append-nil frames)) walks)

    rest_of_walk : (limit n : ℕ) (frames : List WalkedFrame) (p : Progress) → UnderWay u first frames p → length frames + n ≡ limit
        → Whole limit frames
    rest_of_walk limit zero frames p h many = no_more limit frames Limit (fills u first limit frames p h (omega (arith, many)))
    rest_of_walk limit (suc n) frames p h many = go (rest_of_walk limit n) (goes_or_ends p)
      where
        go : ((longer : List WalkedFrame) (q : Progress) → UnderWay u first longer q → length longer + n ≡ limit → Whole limit longer)
            → GoesOn p → Whole limit frames
        go later (inl (stop, is)) = no_more limit frames stop (ends u first limit frames p stop h (omega (arith, many)) is)
        go later (inr (f, gives)) =
            let longer = frames ++ f ∷ [] in
            let more = later longer (has_given f) (goes_on u first frames p f h gives)
            (omega (arith, many, length-append frames (f ∷ []))) in (
              f ∷ more.0,
              more.1,
              subst (λ (l : List WalkedFrame). Walks u first limit l more.1) (append_assoc frames (f ∷ []) more.0) more.2,
            )

    pub given_and_more : (begin : WalkedFrame) (limit : ℕ) (frames : List WalkedFrame) → IsFrameAt u first begin
        → GivesFrames u (about_to_give begin) frames → length frames ≤ limit → Whole limit frames
    given_and_more begin limit frames at given few =
        rest_of_walk limit (limit - length frames) frames (after (about_to_give begin) frames) (given_so_far begin frames at given)
        (omega (arith, few))

-- ---- one more frame

pub one_more_given : (u : CallerRelation) (p : Progress) (frames : List WalkedFrame) (f : WalkedFrame) → GivesFrames u p frames
    → GivesFrame u (after p frames) f → GivesFrames u p (frames ++ f ∷ [])
one_more_given u p [] f given next = (next, tt)
one_more_given u p (x ∷ frames) f given next = (given.0, one_more_given u (has_given x) frames f given.1 next)

pub after_one_more : (p : Progress) (frames : List WalkedFrame) (f : WalkedFrame) → after p (frames ++ f ∷ []) ≡ has_given f
after_one_more p [] f = refl
after_one_more p (x ∷ frames) f = after_one_more (has_given x) frames f
