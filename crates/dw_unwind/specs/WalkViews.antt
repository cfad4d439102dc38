-- Translates the code's frames and walks to the definitions of Walks.antt and WalkSteps.antt.
use Rattle.std.specs.Prelude.{◌≡◌, ℕ, Bool, true, false, if◌then◌else◌, IfSome, List, MatchOption, Some, map, Option, option_map}
use Rattle.dw_unwind.specs.declared.frames.BriefFrame.{BriefFrame}
use Rattle.dw_unwind.specs.declared.frames.Frame as declared
use Rattle.dw_unwind.specs.declared.frames.Stop.{Stop}
use Rattle.dw_unwind.specs.declared.unwinding.Unwound.{Unwound}
use Rattle.dw_unwind.specs.Caller.{Answer}
use Rattle.dw_unwind.specs.CallerViews.{answer_in, caller_in}
use Rattle.dw_unwind.specs.UnwoundViews.{caller_with}
use Rattle.dw_unwind.specs.CallerFits.{ProgressFits}
use Rattle.dw_unwind.specs.Walks.{CallerRelation, WalkedFrame}
use Rattle.dw_unwind.specs.WalkSteps.{GivesNext, Progress, WalkState, about_to_give, has_given, cfa_of, frame_at, stop_of}

abbrev pub frame_in : declared.Frame → WalkedFrame
frame_in f = record { address = f.address; caller = option_map caller_in f.caller }

abbrev pub frames_in : List declared.Frame → List WalkedFrame
frames_in frames = map frame_in frames

-- a frame in brief: its address and its CFA
abbrev pub brief_in : BriefFrame → ℕ × Option Answer
brief_in f = (f.address, option_map answer_in f.cfa)

abbrev pub brief_of : WalkedFrame → ℕ × Option Answer
brief_of frame = (frame.address, cfa_of frame)

-- ---- the fields of a `Walk`

-- the frame at `address`; the registers of its caller are in the list `other` if `is_other`, else
-- in `one`
abbrev pub frame_with : ℕ → Bool → List (ℕ × Answer) → List (ℕ × Answer) → Option Unwound → WalkedFrame
frame_with address is_other one other unwound =
    record { address = address; caller = option_map (caller_with (if is_other then other else one)) unwound }

abbrev pub progress_with : Bool → WalkedFrame → Progress
progress_with false frame = about_to_give frame
progress_with true frame = has_given frame

-- ---- a call of `Walk::next`

-- What a call of `Walk::next` does. Either the call gives the next frame as a `BriefFrame`, or the
-- call gives none, leaves the walk unchanged, and there is a reason why no frame follows. If all
-- numbers of the current frame are below a bound for which `IsBound` holds, so are all numbers of
-- the next frame.
pub record NextFrame {U M : Type 0} (u : CallerRelation) (IsBound : ℕ → Type 0) (old : WalkState U M) (given : Option BriefFrame)
    (new : WalkState U M) : Type 0 where
  pub gives : MatchOption given (((stop : Stop) × (stop_of old.progress ≡ Some stop)) × (new ≡ old)) (λ _. GivesNext u old new)
  pub brief : IfSome given (λ f. brief_in f ≡ brief_of (frame_at new.progress))
  pub fits : IfSome given (λ _. (bound : ℕ) → IsBound bound → ProgressFits bound old.progress → ProgressFits bound new.progress)
