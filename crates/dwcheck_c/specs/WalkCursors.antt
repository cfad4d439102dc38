-- A cursor: where a walk up a stack is, as plain data that C owns.
use Rattle.std.specs.Prelude.{◌≡◌, ℕ, ◌+◌, ◌≤◌, ◌==◌, if◌then◌else◌, Bool, IfSome, List, [], ◌∷◌, length, map, Option, Some}
use Rattle.dw_bytes.specs.declared.target.Target.{Target}
use Rattle.dw_rules.specs.Abi.{Abi}
use Rattle.dw_rules.specs.Rules.{Row}
use Rattle.dw_unwind.specs.Contents.{contents_in}
use Rattle.dw_unwind.specs.MissingPlaces.{LacksPlace}
use Rattle.dw_unwind.specs.Walks.{IsFrameAt, Place, WalkedFrame, address_before, over_rows, stop_after, stop_of_caller}
use Rattle.dw_unwind.specs.declared.frames.Stop.{Stop}
use Rattle.dw_process.specs.Processes.{ProcessState}
use Rattle.dw_c_types.specs.Frames.{cframe_of, stop_number}
use Rattle.dw_c_types.specs.ProcessWalks.{AreFramesBy, Unwinding, looked_up_after, over_held, place_after, through_held}
use Rattle.dw_c_types.specs.declared.answer.CFrame.{CFrame}
use Rattle.dwcheck_c.specs.declared.cursor.CCursor.{CCursor}

-- the contents of the registers of the frame that a cursor is at
abbrev pub registers_in : CCursor → ℕ → Option ℕ
registers_in c = contents_in c.registers

-- the address that is looked up for a frame at `address`: at stage 0 the address itself, at any
-- other the address minus 1
abbrev pub looked_up_by : ℕ → ℕ → Option ℕ
looked_up_by stage address = looked_up_after (stage == 0) address

-- where the walk of a cursor is
abbrev pub place_of : CCursor → Place
place_of c = record { address = c.address; looked_up = looked_up_by c.stage c.address; registers = registers_in c }

-- where a walk begins at a frame at `address`, which is looked up at the address itself if `exact`
-- isn't 0, and at the address minus 1 if it is
abbrev pub place_from : ℕ → ℕ → (ℕ → Option ℕ) → Place
place_from exact address registers = record {
  address = address;
  looked_up = if exact == 0 then address_before address else Some address;
  registers = registers;
}

-- A cursor takes a step. `frame` is C's struct for the frame that the cursor was at. If that frame
-- has a caller at a known address, the cursor is there now. Otherwise its stage says why the walk
-- ends, and it has the address and the registers of the frame.
pub record IsStepBy (u : Unwinding) (old new : CCursor) (frame : CFrame) : Type 0 where
  pub walked : WalkedFrame
  pub is : IsFrameAt u.callers (place_of old) walked
  pub shown : frame ≡ cframe_of walked
  pub goes : IfSome (place_after u (place_of old).looked_up walked.caller) (λ p. (new.stage ≤ 1) × (place_of new ≡ p))
  pub ends : IfSome (stop_of_caller walked.caller) (λ why. (new.stage ≡ stop_number why + 1) × (new.address ≡ old.address)
      × (registers_in new ≡ registers_in old))

-- unwinding by any look-up of rows: `Finds` says what it finds at an address, `signals` which addresses
-- are those of signal frames, and `signed` at which ones return addresses are signed
abbrev pub through_rows : Target → (ℕ → Option (Row × ℕ) → Type 0) → (ℕ → Bool) → (ℕ → Bool) → Abi → (ℕ → Option ℕ) → ℕ → Unwinding
through_rows target Finds signals signed abi memory bits =
    record { callers = over_rows target Finds abi memory; is_signal = signals; is_signed = signed; signed_bits = bits }

-- a step through the modules of a process
abbrev pub IsStep : Option ProcessState → Abi → (ℕ → Option ℕ) → ℕ → CCursor → CCursor → CFrame → Type 0
IsStep held abi memory bits = IsStepBy (through_held abi memory bits held)

-- the frame that the cursor is at has a caller, one of whose registers has a content but no place in
-- a cursor
abbrev pub LacksPlaceIn : Option ProcessState → Abi → (ℕ → Option ℕ) → CCursor → Type 0
LacksPlaceIn held abi memory c = LacksPlace (over_held abi memory held) (registers_in c) (looked_up_by c.stage c.address)

-- steps, one after the other, each of a cursor whose walk hasn't ended; they give these frames
abbrev pub AreSteps : Unwinding → CCursor → List CFrame → CCursor → Type 0
AreSteps u from [] to = from ≡ to
AreSteps u from (frame ∷ frames) to =
    (from.stage ≤ 1) × ((next : CCursor) × IsStepBy u from next frame × AreSteps u next frames to)

-- the walk of a cursor has ended for this reason
abbrev pub WalkHasEnded : CCursor → Stop → Type 0
WalkHasEnded c why = (c.stage ≡ stop_number why + 1) × (2 ≤ c.stage)

-- The frames of a walk from the place `p` on are these of C's; after them the cursor `to` is at the
-- next frame, or says why there is none.
pub record AreFramesOfSteps (u : Unwinding) (p : Place) (frames : List CFrame) (to : CCursor) : Type 0 where
  pub walked : List WalkedFrame
  pub are : AreFramesBy u (Some p) walked
  pub shown : frames ≡ map cframe_of walked
  pub ends : (why : Stop) → WalkHasEnded to why → 1 ≤ length frames → stop_after walked ≡ Some why
