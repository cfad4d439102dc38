-- Walks up a stack through the modules of a process. They are the walks of Walks.antt of dw_unwind,
-- with two differences. The first is about signal frames, to which signal handlers return; an
-- `.eh_frame` section says which frames these are. The caller of a signal frame was interrupted and
-- made no call, so it is looked up at its own address, and not at the address before. The second is
-- about processors that sign return addresses: where a row says that the return address is signed, the
-- bits that have the signature are no part of the caller's address.
use Rattle.std.specs.Prelude.{◌≡◌, ℕ, ◌≤◌, ◌-◌, ◌==◌, bit_and, if◌then◌else◌, Bool, false, List, [], ◌∷◌, length, Option, Some, None, option_map}
use Rattle.dw_rules.specs.Abi.{Abi}
use Rattle.dw_unwind.specs.Caller.{Caller}
use Rattle.dw_unwind.specs.Walks.{CallerRelation, IsFrameAt, Place, WalkedFrame, address_before, content_of, contents_of, over_rows, stop_after}
use Rattle.dw_unwind.specs.declared.frames.Stop.{Stop}
use Rattle.dw_unwind.specs.declared.frames.Stop.TheVariants.{Limit}
use Rattle.dw_process.specs.Processes.{ProcessState, is_signal_in, is_signed_in, row_in}

-- ---- what a walk unwinds with

-- unwinding through the modules of an open process: by the row of the module whose range contains
-- the address
abbrev pub over_process : Abi → (ℕ → Option ℕ) → ProcessState → CallerRelation
over_process abi memory p = over_rows p.target (λ address found. found ≡ row_in p address) abi memory

-- unwinding through the modules of a process; a closed process has none, so no frame has a caller
abbrev pub over_held : Abi → (ℕ → Option ℕ) → Option ProcessState → CallerRelation
over_held abi memory None = λ registers address caller. caller ≡ None
over_held abi memory (Some p) = over_process abi memory p

-- Which caller a frame has, whether a frame that is looked up at an address is a signal frame, whether
-- its return address is signed, and which bits of a signed return address have the signature.
pub record Unwinding : Type 1 where
  pub callers : CallerRelation
  pub is_signal : ℕ → Bool
  pub is_signed : ℕ → Bool
  pub signed_bits : ℕ

abbrev pub through_process : Abi → (ℕ → Option ℕ) → ℕ → ProcessState → Unwinding
through_process abi memory bits p = record {
  callers = over_process abi memory p;
  is_signal = is_signal_in p;
  is_signed = is_signed_in p;
  signed_bits = bits;
}

abbrev pub through_held : Abi → (ℕ → Option ℕ) → ℕ → Option ProcessState → Unwinding
through_held abi memory bits None = record {
  callers = over_held abi memory None;
  is_signal = λ _. false;
  is_signed = λ _. false;
  signed_bits = bits;
}
through_held abi memory bits (Some p) = through_process abi memory bits p

-- ---- from a frame to the next

-- the address that is looked up for a caller at `address`; `is_signal` says whether the frame
-- before it is a signal frame
abbrev pub looked_up_after : Bool → ℕ → Option ℕ
looked_up_after is_signal address = if is_signal then Some address else address_before address

-- whether a frame is a signal frame, given the address that is looked up for it
abbrev pub signal_at : (ℕ → Bool) → Option ℕ → Bool
signal_at is_signal None = false
signal_at is_signal (Some a) = is_signal a

-- the number without these bits
abbrev pub without_bits : ℕ → ℕ → ℕ
without_bits bits n = n - bit_and n bits

-- which bits of a frame's return address have its signature, given the address that is looked up for the
-- frame; none if the return address isn't signed
abbrev pub bits_at : (ℕ → Bool) → ℕ → Option ℕ → ℕ
bits_at is_signed bits None = 0
bits_at is_signed bits (Some a) = if is_signed a then bits else 0

-- where a walk is at `caller`, whose frame is at `address`
abbrev pub place_at : Bool → Caller → ℕ → Place
place_at is_signal caller address =
    record { address = address; looked_up = looked_up_after is_signal address; registers = contents_of caller.registers }

-- where a walk is after a frame, for which `looked_up` was looked up: at the frame's caller; none
-- if the frame has no caller or the return address has no value
abbrev pub place_after : Unwinding → Option ℕ → Option Caller → Option Place
place_after u looked_up None = None
place_after u looked_up (Some caller) =
    option_map (λ n. place_at (signal_at u.is_signal looked_up) caller (without_bits (bits_at u.is_signed u.signed_bits looked_up) n))
    (content_of caller.return_address)

-- ---- the frames of a walk

-- The frames of a walk from a place on, each the caller of the frame before it. The walk may have
-- more frames after these.
abbrev pub AreFramesBy : Unwinding → Option Place → List WalkedFrame → Type 0
AreFramesBy u p [] = Unit {0}
AreFramesBy u None (f ∷ frames) = ⊥
AreFramesBy u (Some p) (f ∷ frames) = IsFrameAt u.callers p f × AreFramesBy u (place_after u p.looked_up f.caller) frames

-- where a walk is after these frames
abbrev pub place_after_frames : Unwinding → Option Place → List WalkedFrame → Option Place
place_after_frames u p [] = p
place_after_frames u None (f ∷ frames) = None
place_after_frames u (Some p) (f ∷ frames) = place_after_frames u (place_after u p.looked_up f.caller) frames

-- The result of a walk: its first frames, at most `limit` of them, and why it ends with these. If
-- there are `limit` frames, the reason is `Limit`, even if no other frame follows.
pub record WalksBy (u : Unwinding) (first : Place) (limit : ℕ) (frames : List WalkedFrame) (stop : Stop) : Type 0 where
  pub are : AreFramesBy u (Some first) frames
  pub few : length frames ≤ limit
  pub ends : (if length frames == limit then Some Limit else stop_after frames) ≡ Some stop
