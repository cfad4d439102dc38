-- A walk up the stack that gives one frame at a time: its progress, and the frame that it gives
-- next.
use Rattle.std.specs.Prelude.{◌≡◌, ℕ, List, [], ◌∷◌, Option, Some, None, option_map}
use Rattle.dw_rules.specs.Rules.{PlacedRule}
use Rattle.dw_unwind.specs.Caller.{Answer, Caller}
use Rattle.dw_unwind.specs.Walks.{CallerRelation, WalkedFrame, AreFrames, UnwindsAt, address_before, contents_of, next_place, stop_of_caller}
use Rattle.dw_unwind.specs.declared.frames.Stop.{Stop}

-- The progress of a walk. Either the walk has given no frame yet, and the argument is its first
-- frame, or the argument is the frame that it gave last.
pub data Progress : Type 0 where
  about_to_give : WalkedFrame → Progress
  has_given : WalkedFrame → Progress

-- The state of a walk. Only `progress` changes from frame to frame. The unwinder, the ABI (as a
-- list of rules) and the memory stay the same.
pub record WalkState (U M : Type 0) : Type 0 where
  pub unwinder : U
  pub abi : List (ℕ × PlacedRule)
  pub memory : M
  pub progress : Progress

-- the next frame that a walk with this progress gives is `frame`
abbrev pub GivesFrame : CallerRelation → Progress → WalkedFrame → Type 0
GivesFrame u (about_to_give first) frame = frame ≡ first
GivesFrame u (has_given last) frame = AreFrames u (next_place last.caller) (frame ∷ [])

-- the next frames that a walk with this progress gives are the frames in the list, in their order
abbrev pub GivesFrames : CallerRelation → Progress → List WalkedFrame → Type 0
GivesFrames u p [] = Unit {0}
GivesFrames u p (frame ∷ frames) = GivesFrame u p frame × GivesFrames u (has_given frame) frames

-- the progress of a walk after it has given these frames
abbrev pub after : Progress → List WalkedFrame → Progress
after p [] = p
after p (frame ∷ frames) = after (has_given frame) frames

-- why a walk gives no further frame; none if it gives one
abbrev pub stop_of : Progress → Option Stop
stop_of (about_to_give first) = None
stop_of (has_given last) = stop_of_caller last.caller

-- the current frame of a walk: the frame that it gave last, or its first frame if it has given none
abbrev pub frame_at : Progress → WalkedFrame
frame_at (about_to_give first) = first
frame_at (has_given last) = last

-- the CFA of a frame; none if the frame has no caller
abbrev pub cfa_of : WalkedFrame → Option Answer
cfa_of frame = option_map (λ (c : Caller). c.cfa) frame.caller

-- the walk `w` after it has given `frame`
abbrev pub having_given : {U M : Type 0} → WalkedFrame → WalkState U M → WalkState U M
having_given frame w =
    record { unwinder = w.unwinder; abi = w.abi; memory = w.memory; progress = has_given frame }

-- The walk `old` gives its next frame and thereby becomes `new`.
abbrev pub GivesNext : {U M : Type 0} → CallerRelation → WalkState U M → WalkState U M → Type 0
GivesNext u old new = (frame : WalkedFrame) × GivesFrame u old.progress frame × (new ≡ having_given frame old)

-- `next` is the caller of the frame that `caller` describes. That frame is at `address`, has the
-- registers of `caller`, and is looked up at `address` minus 1. If the first option is none, there
-- is no such frame, and this states nothing.
abbrev pub UnwindsFrom : CallerRelation → Option Caller → ℕ → Option Caller → Type 0
UnwindsFrom u None address next = Unit {0}
UnwindsFrom u (Some caller) address next = UnwindsAt u (contents_of caller.registers) (address_before address) next
