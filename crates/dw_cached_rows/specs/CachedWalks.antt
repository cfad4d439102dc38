-- Walks with the rows of a cache, on x86-64.
use Rattle.std.specs.Prelude.{◌≡◌, ◌≢◌, ◌+◌, ◌==◌, if◌then◌else◌, true, ℕ, zero, ℤ, pos, ◌+ℤ◌, ◌*ℤ◌, List, [], ◌∷◌, ◌++◌, map, Option, Some, None}
use Rattle.std.specs.Option.{IsSomeAnd}
use Rattle.dw_eval.specs.Numbers.{wrap}
use Rattle.dw_rules.specs.Abi.{Abi, abi_of}
use Rattle.dw_rules.specs.Rules.{Row}
use Rattle.dw_unwind.specs.Caller.{Caller, IsCaller, machine, word}
use Rattle.dw_unwind.specs.Walks.{AreFrames, CallerRelation, IsFrameAt, Place, WalkedFrame, address_before, content_of, next_place}
use Rattle.dw_unwind.specs.Walks.{over_rows, stop_of_caller}
use Rattle.dw_unwind.specs.declared.frames.Stop.{Stop}
use Rattle.dw_unwind.specs.declared.frames.Stop.TheVariants.{ReturnUndefined, ReturnUnreadable}
use Rattle.dw_cached_rows.specs.declared.packed_row.PackedRow.{PackedRow}
use Rattle.dw_cached_rows.specs.declared.packed_row.TheConstants.{LAST, REALIGNED, RBX, RBP, RSP, R12, R13, R14, R15, RETURN_ADDRESS}
use Rattle.dw_cached_rows.specs.declared.stack_place.StackPlace.{StackPlace}
use Rattle.dw_cached_rows.specs.declared.stack_place.Step.{Step}
use Rattle.dw_cached_rows.specs.declared.stack_place.Step.TheVariants as steps
use Rattle.dw_cached_rows.specs.declared.walk.WalkEnd.{WalkEnd}
use Rattle.dw_cached_rows.specs.declared.walk.WalkEnd.TheVariants as ends
use Rattle.dw_cached_rows.specs.PackedRows.{AreSmall, little_64}
use Rattle.dw_cached_rows.specs.CachedRows.{Confirms, entry_at, is_usable}

-- ---- what a walk unwinds with

-- the callee-saved registers and the stack pointer of x86-64 (System V ABI, section 3.2.1)
abbrev pub x86_64 : Abi
x86_64 = abi_of (RBX ∷ RBP ∷ R12 ∷ R13 ∷ R14 ∷ R15 ∷ []) (Some RSP)

-- unwinding with the rows that a cache has for confirmed modules
abbrev pub over_cached : List PackedRow → ℕ → (ℕ → Option ℕ) → CallerRelation
over_cached rows confirmed memory = over_rows little_64 (λ address found. IsSomeAnd found (Confirms rows confirmed address)) x86_64 memory

-- ---- where a walk is

-- the 8 bytes at the address as a number; none if one of them isn't known
abbrev pub word_at : (ℕ → Option ℕ) → ℕ → Option ℕ
word_at memory a = content_of (word (machine little_64 (λ r. None) memory) a)

-- the content of rbp, or the number that is saved for it in memory
abbrev pub frame_pointer_in : (ℕ → Option ℕ) → StackPlace → Option ℕ
frame_pointer_in memory here = if here.is_saved == 0 then Some here.frame_pointer else word_at memory here.frame_pointer

-- the content of rbp in the caller of a frame with this CFA, where it is saved that many words from
-- the CFA; 0 says that it isn't saved
abbrev pub caller_frame_pointer : (ℕ → Option ℕ) → ℕ → ℤ → StackPlace → Option ℕ
caller_frame_pointer memory cfa (pos zero) here = frame_pointer_in memory here
caller_frame_pointer memory cfa k here = word_at memory (wrap 64 (pos cfa +ℤ k *ℤ pos 8))

-- the address that is a number of words of 8 bytes above another one
abbrev pub address_by : ℕ → ℤ → ℕ
address_by base words = wrap 64 (pos base +ℤ words *ℤ pos 8)

-- what rbp has in the caller of a frame whose stack was realigned, and in which it has the content
-- `base`: it is saved k + 1 words above that; 0 says that it isn't saved
abbrev pub frame_pointer_by_rbp : (ℕ → Option ℕ) → ℕ → ℤ → StackPlace → Option ℕ
frame_pointer_by_rbp memory base (pos zero) here = frame_pointer_in memory here
frame_pointer_by_rbp memory base k here = word_at memory (address_by base (k +ℤ pos 1))

-- the same of any register, whose content is `n`
abbrev pub content_by_rbp : (ℕ → Option ℕ) → ℕ → ℤ → ℕ → Option ℕ
content_by_rbp memory base (pos zero) n = Some n
content_by_rbp memory base k n = word_at memory (address_by base (k +ℤ pos 1))

-- A walk that keeps only two registers is at the place `p`. The others have any contents.
pub record IsAt (memory : ℕ → Option ℕ) (here : StackPlace) (p : Place) : Type 0 where
  pub address : p.address ≡ here.address
  pub looked_up : p.looked_up ≡ address_before here.key
  pub pointer : p.registers RSP ≡ Some here.stack_pointer
  pub frame_pointer : p.registers RBP ≡ frame_pointer_in memory here

-- a caller's place: its address is the one by which it is looked up
abbrev pub as_caller : StackPlace → StackPlace
as_caller here = record {
  address = here.key;
  key = here.key;
  stack_pointer = here.stack_pointer;
  frame_pointer = here.frame_pointer;
  is_saved = here.is_saved;
  reserved = 0;
}

-- ---- one step

-- the row gives this caller to the frame at the place
abbrev pub IsCallerFrom : (ℕ → Option ℕ) → Row → Place → Caller → Type 0
IsCallerFrom memory row p caller = IsCaller (machine little_64 p.registers memory) x86_64 RETURN_ADDRESS row caller

-- no frame follows the one at the place, for this reason
abbrev pub EndsHere : (ℕ → Option ℕ) → Row → Place → Stop → Type 0
EndsHere memory row p stop = (caller : Caller) × IsCallerFrom memory row p caller × (stop_of_caller (Some caller) ≡ Some stop)

-- What a step says about the frame at the place `p`, whose row is `row`: where its caller is, or why
-- no frame follows. `Other` says nothing.
abbrev pub IsStep : (ℕ → Option ℕ) → Row → Place → Step → Type 0
IsStep memory row p (steps.To next) = (caller : Caller) × IsCallerFrom memory row p caller
    × (q : Place) × (next_place (Some caller) ≡ Some q) × IsAt memory next q
IsStep memory row p steps.ReturnUndefined = EndsHere memory row p ReturnUndefined
IsStep memory row p steps.ReturnUnreadable = EndsHere memory row p ReturnUnreadable
IsStep memory row p steps.Other = Unit {0}

-- Two registers aren't enough for a step by the entry: the CFA's register is neither of them, or it
-- is rbp, whose content isn't known; or the return address is undefined, and the CFA's register isn't
-- rsp; or the entry stands for no row. So it is where the stack was realigned, if rbp's content isn't
-- known, or the word that has the CFA.
abbrev pub NeedsMore : (ℕ → Option ℕ) → PackedRow → StackPlace → Type 0
NeedsMore memory p here = (p.form ≢ RSP) × (p.form ≢ LAST + RSP) × (p.form ≡ RBP → frame_pointer_in memory here ≡ None)
    × (p.form ≡ REALIGNED → (base : ℕ) → AreSmall p → frame_pointer_in memory here ≡ Some base
    → word_at memory (address_by base p.cfa_offset) ≡ None)

-- ---- many steps

-- where a walk is after these frames
abbrev pub place_after : Option Place → List WalkedFrame → Option Place
place_after p [] = p
place_after p (f ∷ frames) = place_after (next_place f.caller) frames

abbrev pub addresses_of : List WalkedFrame → List ℕ
addresses_of frames = map (λ (f : WalkedFrame). f.address) frames

-- A walk passes frames, each the caller of the one before it, and is at the place `to`.
pub record HasPassed (u : CallerRelation) (from : Place) (frames : List WalkedFrame) (to : Place) : Type 0 where
  pub are : AreFrames u (Some from) frames
  pub to_is : place_after (Some from) frames ≡ Some to

-- From the first place on, whatever the registers are that it doesn't keep, the walk passes frames with
-- these addresses and comes to the second place.
abbrev pub Passes : CallerRelation → (ℕ → Option ℕ) → StackPlace → List ℕ → StackPlace → Type 0
Passes u memory from addresses to = (p : Place) → IsAt memory from p → (frames : List WalkedFrame) × (q : Place)
    × HasPassed u p frames q × IsAt memory to q × (addresses_of frames ≡ addresses)

-- The walk has frames with these addresses, and ends with the last one of them, for this reason.
pub record IsLast (u : CallerRelation) (from : Place) (frames : List WalkedFrame) (stop : Stop) : Type 0 where
  pub before : List WalkedFrame
  pub place : Place
  pub last : WalkedFrame
  pub passed : HasPassed u from before place
  pub is : IsFrameAt u place last
  pub ends : stop_of_caller last.caller ≡ Some stop
  pub all : frames ≡ before ++ last ∷ []

abbrev pub EndsAfter : CallerRelation → (ℕ → Option ℕ) → StackPlace → List ℕ → Stop → Type 0
EndsAfter u memory from addresses stop = (p : Place) → IsAt memory from p → (frames : List WalkedFrame)
    × IsLast u p frames stop × (addresses_of frames ≡ addresses)

-- the reason for which no frame follows the last one, if this is why a walk ends
abbrev pub stop_of_end : WalkEnd → Option Stop
stop_of_end ends.ReturnUndefined = Some ReturnUndefined
stop_of_end ends.ReturnUnreadable = Some ReturnUnreadable
stop_of_end _ = None

-- A walk that is here may use an entry that its two registers, and what is known of memory, aren't
-- enough for.
pub record IsOther (rows : List PackedRow) (mask : ℕ) (memory : ℕ → Option ℕ) (here : StackPlace) : Type 0 where
  pub looked_up : here.key ≢ 0
  pub index : ℕ
  pub usable : is_usable mask here.key (entry_at rows index) ≡ true
  pub needs : NeedsMore memory (entry_at rows index) here
