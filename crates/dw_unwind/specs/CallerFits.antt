-- States that all numbers of a caller or of a frame are below a bound, such as 2^w (w is the size
-- of an address in bits).
use Rattle.std.specs.Prelude.{ℕ, ◌<◌, All, IfSome}
use Rattle.dw_unwind.specs.Caller.{Answer, value, Caller}
use Rattle.dw_unwind.specs.Walks.{WalkedFrame}
use Rattle.dw_unwind.specs.WalkSteps.{Progress, frame_at}

-- the answer's value, if it has one, is below m
abbrev pub AnswerFits : ℕ → Answer → Type 0
AnswerFits m (value n) = n < m
AnswerFits m _ = Unit {0}

-- all values of the caller are below m
pub record CallerFits (m : ℕ) (caller : Caller) : Type 0 where
  pub cfa : AnswerFits m caller.cfa
  pub registers : All (λ found. AnswerFits m found.1) caller.registers
  pub return_address : AnswerFits m caller.return_address

-- the address of the frame and all values of its caller are below m
pub record FrameFits (m : ℕ) (frame : WalkedFrame) : Type 0 where
  pub address : frame.address < m
  pub caller : IfSome frame.caller (CallerFits m)

-- the address of a walk's current frame and all values of that frame's caller are below m
abbrev pub ProgressFits : ℕ → Progress → Type 0
ProgressFits m progress = FrameFits m (frame_at progress)
