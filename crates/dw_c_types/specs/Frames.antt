-- What C gets as the frames of a walk.
use Rattle.std.specs.Prelude.{◌≡◌, ℕ, List, length, map, Option, Some, None}
use Rattle.dw_rules.specs.Abi.{Abi}
use Rattle.dw_unwind.specs.Caller.{Answer, value, undefined, unreadable, division_by_zero}
use Rattle.dw_unwind.specs.Walks.{Place, WalkedFrame, first_place}
use Rattle.dw_unwind.specs.WalkViews.{brief_of}
use Rattle.dw_unwind.specs.declared.frames.Stop.{Stop}
use Rattle.dw_unwind.specs.declared.frames.Stop.TheVariants.{Limit, NotCovered, ReturnUndefined, ReturnUnreadable, ReturnDivisionByZero}
use Rattle.dw_process.specs.Processes.{ProcessState}
use Rattle.dw_c_types.specs.ProcessWalks.{AreFramesBy, Unwinding, WalksBy, place_after_frames, through_held}
use Rattle.dw_c_types.specs.Slots.{put_into}
use Rattle.dw_c_types.specs.declared.answer.CAnswer.{CAnswer}
use Rattle.dw_c_types.specs.declared.answer.CFrame.{CFrame}

abbrev pub canswer_by : ℕ → ℕ → CAnswer
canswer_by kind n = record { value = n; kind = kind; reserved = 0 }

abbrev pub canswer_of : Answer → CAnswer
canswer_of (value n) = canswer_by 1 n
canswer_of undefined = canswer_by 2 0
canswer_of unreadable = canswer_by 3 0
canswer_of division_by_zero = canswer_by 4 0

-- C's struct for a CFA, a return address or the content of a register. None means that no FDE
-- covers the address that was looked up; the struct's kind is then 0.
abbrev pub optional_canswer : Option Answer → CAnswer
optional_canswer None = canswer_by 0 0
optional_canswer (Some answer) = canswer_of answer

abbrev pub cframe_by : ℕ × Option Answer → CFrame
cframe_by brief = record { address = brief.0; cfa = optional_canswer brief.1 }

-- C's struct for a frame of a walk: the frame's address and CFA
abbrev pub cframe_of : WalkedFrame → CFrame
cframe_of frame = cframe_by (brief_of frame)

abbrev pub stop_number : Stop → ℕ
stop_number Limit = 0
stop_number NotCovered = 1
stop_number ReturnUndefined = 2
stop_number ReturnUnreadable = 3
stop_number ReturnDivisionByZero = 4

-- The frames of a walk are at the front of the slots; the number of slots is the walk's limit.
-- `count` is the number of frames, `stop` why there are no more. The other slots are unchanged.
pub record AreWritten (u : Unwinding) (first : Place) (old new : List CFrame) (count stop : ℕ) : Type 0 where
  pub frames : List WalkedFrame
  pub why : Stop
  pub walks : WalksBy u first (length old) frames why
  pub written : new ≡ put_into (map cframe_of frames) old
  pub count_is : count ≡ length frames
  pub stop_is : stop ≡ stop_number why

-- The frames of a walk through the modules of a process are written to the slots, as `AreWritten`
-- says. The walk starts at the frame at `address` with `registers`. All frames have the same ABI,
-- memory and signed bits.
pub record IsBacktrace (held : Option ProcessState) (abi : Abi) (memory : ℕ → Option ℕ) (bits : ℕ) (registers : ℕ → Option ℕ) (address : ℕ)
    (old new : List CFrame) (count stop : ℕ) : Type 0 where
  pub frames : AreWritten (through_held abi memory bits held) (first_place address registers) old new count stop

-- A walk that began at the place `first` has given `count` frames, which are written to the front
-- of the slots, and its next frame is at the place `p`.
pub record IsLeftAt (u : Unwinding) (first p : Place) (old new : List CFrame) (count : ℕ) : Type 0 where
  pub frames : List WalkedFrame
  pub are : AreFramesBy u (Some first) frames
  pub next : place_after_frames u (Some first) frames ≡ Some p
  pub written : new ≡ put_into (map cframe_of frames) old
  pub counted : length frames ≡ count
  pub long : length new ≡ length old
