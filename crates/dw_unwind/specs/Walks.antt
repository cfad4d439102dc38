-- A walk up the stack, each frame the caller of the frame before it. DWARF 5, section 6.4.1,
-- defines a single caller. Section 6.4.4 states that a walk is complete if the return address is
-- undefined, and that the call is looked up at the return address minus 1. The rest is defined by
-- docs/PROFILE.md: which registers have a content, the limit, and the other reasons why a walk
-- ends.
use Rattle.std.specs.Prelude.{◌≡◌, ℕ, zero, suc, ◌≤◌, ◌==◌, if◌then◌else◌, List, [], ◌∷◌, length, Option, Some, None, option_map}
use Rattle.dw_bytes.specs.declared.target.Target.{Target}
use Rattle.dw_rules.specs.Abi.{Abi}
use Rattle.dw_rules.specs.Rules.{Row}
use Rattle.dw_rows.specs.Section.{FrameSection}
use Rattle.dw_tables.specs.UnwindTables.{RowTable, row_at}
use Rattle.dw_unwind.specs.Caller.{Answer, value, undefined, unreadable, division_by_zero, Caller, Unwinds, UnwindsBy, machine}
use Rattle.dw_unwind.specs.declared.frames.Stop.{Stop}
use Rattle.dw_unwind.specs.declared.frames.Stop.TheVariants.{Limit, NotCovered, ReturnUndefined, ReturnUnreadable, ReturnDivisionByZero}

-- ---- what a walk unwinds with

-- Says which caller a frame has. It relates three things: the frame's registers, the address that
-- is looked up for the frame, and the caller, which is none if no FDE covers that address.
abbrev pub CallerRelation : Type 1
CallerRelation = (ℕ → Option ℕ) → ℕ → Option Caller → Type 0

-- unwinding with a checked section; the ABI and the memory stay the same during a walk
abbrev pub over_section : FrameSection → Abi → (ℕ → Option ℕ) → CallerRelation
over_section frame abi memory = λ registers address caller. Unwinds (machine frame.target registers memory) abi frame address caller

-- unwinding with a compiled table of rows
abbrev pub over_table : RowTable → Abi → (ℕ → Option ℕ) → CallerRelation
over_table table abi memory =
    λ registers address caller. UnwindsBy (machine table.target registers memory) abi (row_at table address) caller

-- unwinding with any look-up of rows; `Finds` says what it finds at an address: a row with its
-- return address register, or none
abbrev pub over_rows : Target → (ℕ → Option (Row × ℕ) → Type 0) → Abi → (ℕ → Option ℕ) → CallerRelation
over_rows target Finds abi memory = λ registers address caller. (found : Option (Row × ℕ)) × Finds address found
    × UnwindsBy (machine target registers memory) abi found caller

-- ---- places and frames

-- Where a walk is: the address of a frame, the address that is looked up for the frame (none for a
-- caller at address 0), and the frame's registers.
pub record Place : Type 0 where
  pub address : ℕ
  pub looked_up : Option ℕ
  pub registers : ℕ → Option ℕ

-- A frame of a walk: its address and its caller. The caller is none if no FDE covers the address
-- that is looked up for the frame, or if there is no address to look up.
pub record WalkedFrame : Type 0 where
  pub address : ℕ
  pub caller : Option Caller

-- ---- from a frame to the next

-- the content of a register whose answer is this: the value, or none if the answer isn't a value
abbrev pub content_of : Answer → Option ℕ
content_of (value n) = Some n
content_of _ = None

abbrev pub contents_of : List (ℕ × Answer) → ℕ → Option ℕ
contents_of [] r = None
contents_of (found ∷ registers) r = if found.0 == r then content_of found.1 else contents_of registers r

-- the address minus 1; none for the address 0
abbrev pub address_before : ℕ → Option ℕ
address_before zero = None
address_before (suc a) = Some a

-- where a walk starts: its first frame is looked up at its own address
abbrev pub first_place : ℕ → (ℕ → Option ℕ) → Place
first_place address registers = record { address = address; looked_up = Some address; registers = registers }

-- Where a walk is at a caller whose frame is at `address`, the return address. The call lies just
-- before that address, so the frame is looked up at `address` minus 1.
abbrev pub place_of_caller : Caller → ℕ → Place
place_of_caller caller address =
    record { address = address; looked_up = address_before address; registers = contents_of caller.registers }

-- where a walk is after a frame: at the frame's caller; none if the frame has no caller or the
-- return address has no value
abbrev pub next_place : Option Caller → Option Place
next_place None = None
next_place (Some caller) = option_map (place_of_caller caller) (content_of caller.return_address)

-- `caller` is the caller of a frame with these registers and this looked-up address; if there is no
-- address to look up, it is none
abbrev pub UnwindsAt : CallerRelation → (ℕ → Option ℕ) → Option ℕ → Option Caller → Type 0
UnwindsAt u registers None caller = caller ≡ None
UnwindsAt u registers (Some a) caller = u registers a caller

-- `f` is the frame at the place `p` of a walk
abbrev pub IsFrameAt : CallerRelation → Place → WalkedFrame → Type 0
IsFrameAt u p f = (f.address ≡ p.address) × UnwindsAt u p.registers p.looked_up f.caller

-- ---- the frames of a walk

-- The frames of a walk from a place on, each the caller of the frame before it. The walk may have
-- more frames after these.
abbrev pub AreFrames : CallerRelation → Option Place → List WalkedFrame → Type 0
AreFrames u p [] = Unit {0}
AreFrames u None (f ∷ frames) = ⊥
AreFrames u (Some p) (f ∷ frames) = IsFrameAt u p f × AreFrames u (next_place f.caller) frames

-- why a walk ends with a frame that has this return address, or (in `stop_of_caller`) this caller;
-- none if another frame follows
abbrev pub stop_of_return : Answer → Option Stop
stop_of_return (value a) = None
stop_of_return undefined = Some ReturnUndefined
stop_of_return unreadable = Some ReturnUnreadable
stop_of_return division_by_zero = Some ReturnDivisionByZero

abbrev pub stop_of_caller : Option Caller → Option Stop
stop_of_caller None = Some NotCovered
stop_of_caller (Some caller) = stop_of_return caller.return_address

-- why no frame follows the last of these frames; none if one follows
abbrev pub stop_after : List WalkedFrame → Option Stop
stop_after [] = None
stop_after (f ∷ []) = stop_of_caller f.caller
stop_after (f ∷ g ∷ frames) = stop_after (g ∷ frames)

-- The result of a walk: its first frames, at most `limit` of them, and why it ends with these. If
-- there are `limit` frames, the reason is `Limit`, even if no other frame follows.
pub record Walks (u : CallerRelation) (first : Place) (limit : ℕ) (frames : List WalkedFrame) (stop : Stop) : Type 0 where
  pub are : AreFrames u (Some first) frames
  pub few : length frames ≤ limit
  pub ends : (if length frames == limit then Some Limit else stop_after frames) ≡ Some stop

-- for all registers and each address, unwinding has a result: a caller, or none
abbrev pub AlwaysUnwinds : CallerRelation → Type 0
AlwaysUnwinds u = (registers : ℕ → Option ℕ) (address : ℕ) → (caller : Option Caller) × u registers address caller
