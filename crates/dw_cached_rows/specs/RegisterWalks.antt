-- Walks with the rows of a cache that give the registers of each frame, on x86-64.
use Rattle.std.specs.Prelude.{◌≡◌, ◌≢◌, ◌⊎◌, ◌+◌, ◌==◌, ◌+ℤ◌, ◌*ℤ◌, if◌then◌else◌, true, ℕ, zero, ℤ, pos, List, [], ◌∷◌, ◌++◌, Option, Some, None}
use Rattle.dw_eval.specs.Numbers.{wrap}
use Rattle.dw_rules.specs.Rules.{Row}
use Rattle.dw_unwind.specs.Caller.{Caller, value}
use Rattle.dw_unwind.specs.Walks.{CallerRelation, IsFrameAt, Place, WalkedFrame, address_before, next_place, stop_of_caller}
use Rattle.dw_unwind.specs.WalkSteps.{cfa_of}
use Rattle.dw_unwind.specs.declared.frames.Stop.{Stop}
use Rattle.dw_unwind.specs.declared.frames.Stop.TheVariants.{ReturnUndefined, ReturnUnreadable}
use Rattle.dw_cached_rows.specs.declared.packed_row.PackedRow.{PackedRow}
use Rattle.dw_cached_rows.specs.declared.packed_row.TheConstants.{LAST, REALIGNED, RBX, RBP, RSP, R12, R13, R14, R15}
use Rattle.dw_cached_rows.specs.declared.register_place.FrameWithRegisters.{FrameWithRegisters}
use Rattle.dw_cached_rows.specs.declared.register_place.RegisterPlace.{RegisterPlace}
use Rattle.dw_cached_rows.specs.declared.register_place.RegisterStep.{RegisterStep}
use Rattle.dw_cached_rows.specs.declared.register_place.RegisterStep.TheVariants as steps
use Rattle.dw_cached_rows.specs.PackedRows.{AreSmall}
use Rattle.dw_cached_rows.specs.CachedRows.{entry_at, is_usable}
use Rattle.dw_cached_rows.specs.CachedWalks.{IsCallerFrom, address_by, content_by_rbp, word_at}

-- ---- where a walk is

-- the content of a register that the walk keeps; None for any other register
abbrev pub register_in : RegisterPlace → ℕ → Option ℕ
register_in here r = if R15 == r then Some here.r15 else if R14 == r then Some here.r14 else if R13 == r then Some here.r13
    else if R12 == r then Some here.r12 else if RBP == r then Some here.rbp else if RBX == r then Some here.rbx
    else if RSP == r then Some here.stack_pointer else None

-- A walk that keeps the stack pointer and the callee-saved registers is at the place `p`. The other
-- registers have any contents.
pub record IsWith (here : RegisterPlace) (p : Place) : Type 0 where
  pub address : p.address ≡ here.address
  pub looked_up : p.looked_up ≡ address_before here.key
  pub pointer : p.registers RSP ≡ Some here.stack_pointer
  pub rbx : p.registers RBX ≡ Some here.rbx
  pub rbp : p.registers RBP ≡ Some here.rbp
  pub r12 : p.registers R12 ≡ Some here.r12
  pub r13 : p.registers R13 ≡ Some here.r13
  pub r14 : p.registers R14 ≡ Some here.r14
  pub r15 : p.registers R15 ≡ Some here.r15

-- ---- one step

-- The content of a register in the caller of a frame with this CFA, where the register is saved that
-- many words from the CFA; 0 says that it isn't saved, and then it has the content `n`.
abbrev pub content_after : (ℕ → Option ℕ) → ℕ → ℤ → ℕ → Option ℕ
content_after memory cfa (pos zero) n = Some n
content_after memory cfa k n = word_at memory (wrap 64 (pos cfa +ℤ k *ℤ pos 8))

-- The place is that of the caller of a frame with this CFA, which has this return address, and whose
-- row is this one. `after` gives the content of a register in the caller, of what the entry says of it
-- and of its content here.
pub record IsAfterBy (after : ℤ → ℕ → Option ℕ) (cfa return_address : ℕ) (p : PackedRow) (here next : RegisterPlace) : Type 0 where
  pub address : next.address ≡ return_address
  pub key : next.key ≡ return_address
  pub pointer : next.stack_pointer ≡ cfa
  pub rbx : after p.rbx here.rbx ≡ Some next.rbx
  pub rbp : after p.rbp here.rbp ≡ Some next.rbp
  pub r12 : after p.r12 here.r12 ≡ Some next.r12
  pub r13 : after p.r13 here.r13 ≡ Some next.r13
  pub r14 : after p.r14 here.r14 ≡ Some next.r14
  pub r15 : after p.r15 here.r15 ≡ Some next.r15

abbrev pub IsAfter : (ℕ → Option ℕ) → ℕ → ℕ → PackedRow → RegisterPlace → RegisterPlace → Type 0
IsAfter memory cfa return_address p here next = IsAfterBy (content_after memory cfa) cfa return_address p here next

-- no frame follows the one at the place, for this reason; its CFA is this
abbrev pub EndsWith : (ℕ → Option ℕ) → Row → Place → ℕ → Stop → Type 0
EndsWith memory row p cfa stop = (caller : Caller) × IsCallerFrom memory row p caller × (caller.cfa ≡ value cfa)
    × (stop_of_caller (Some caller) ≡ Some stop)

-- What a step says about the frame at the place `p`, whose row is `row`: its CFA, and where its
-- caller is, or why no frame follows. `Other` says nothing.
abbrev pub IsRegisterStep : (ℕ → Option ℕ) → Row → Place → RegisterStep → Type 0
IsRegisterStep memory row p (steps.To next) = (caller : Caller) × IsCallerFrom memory row p caller
    × (caller.cfa ≡ value next.stack_pointer) × (q : Place) × (next_place (Some caller) ≡ Some q) × IsWith next q
IsRegisterStep memory row p (steps.ReturnUndefined cfa) = EndsWith memory row p cfa ReturnUndefined
IsRegisterStep memory row p (steps.ReturnUnreadable cfa) = EndsWith memory row p cfa ReturnUnreadable
IsRegisterStep memory row p steps.Other = Unit {0}

-- ---- many steps

-- A walk passes frames from a place on, each the caller of the one before it, and comes to the place
-- `to`. Each has these registers and this CFA.
abbrev pub PassesWith : CallerRelation → Place → List FrameWithRegisters → Place → Type 0
PassesWith u from [] to = from ≡ to
PassesWith u from (shown ∷ frames) to = IsWith shown.place from × (frame : WalkedFrame) × IsFrameAt u from frame
    × (cfa_of frame ≡ Some (value shown.cfa)) × (next : Place) × (next_place frame.caller ≡ Some next) × PassesWith u next frames to

-- from the first place on, whatever the registers are that the walk doesn't keep
abbrev pub WalksWith : CallerRelation → RegisterPlace → List FrameWithRegisters → RegisterPlace → Type 0
WalksWith u from frames to = (p : Place) → IsWith from p → (q : Place) × PassesWith u p frames q × IsWith to q

-- The walk has these frames, and ends with the last one of them, for this reason.
pub record EndsWithFrame (u : CallerRelation) (from : Place) (frames : List FrameWithRegisters) (stop : Stop) : Type 0 where
  pub before : List FrameWithRegisters
  pub place : Place
  pub shown : FrameWithRegisters
  pub last : WalkedFrame
  pub passes : PassesWith u from before place
  pub with : IsWith shown.place place
  pub is : IsFrameAt u place last
  pub cfa : cfa_of last ≡ Some (value shown.cfa)
  pub ends : stop_of_caller last.caller ≡ Some stop
  pub all : frames ≡ before ++ shown ∷ []

abbrev pub EndsWithRegisters : CallerRelation → RegisterPlace → List FrameWithRegisters → Stop → Type 0
EndsWithRegisters u from frames stop = (p : Place) → IsWith from p → EndsWithFrame u p frames stop

-- ---- where a walk stops

-- The walk has no content for the register of the CFA; or the return address is undefined, and the
-- CFA's register isn't rsp; or the entry stands for no row.
abbrev pub NeedsOthers : PackedRow → RegisterPlace → Type 0
NeedsOthers p here = (register_in here p.form ≡ None) × (p.form ≢ LAST + RSP) × (p.form ≢ REALIGNED)

-- a callee-saved register has no content in the caller, as `after` gives it
abbrev pub LacksOneBy : (ℤ → ℕ → Option ℕ) → PackedRow → RegisterPlace → Type 0
LacksOneBy after p here = (after p.rbx here.rbx ≡ None) ⊎ (after p.rbp here.rbp ≡ None) ⊎ (after p.r12 here.r12 ≡ None)
    ⊎ (after p.r13 here.r13 ≡ None) ⊎ (after p.r14 here.r14 ≡ None) ⊎ (after p.r15 here.r15 ≡ None)

-- a callee-saved register is saved where memory isn't known, from this CFA on
abbrev pub LacksSaved : (ℕ → Option ℕ) → ℕ → PackedRow → RegisterPlace → Type 0
LacksSaved memory cfa p here = LacksOneBy (content_after memory cfa) p here

-- The stack was realigned, and the word that has the CFA isn't known, or one where a register is saved;
-- or the entry stands for no row.
abbrev pub LacksRealigned : (ℕ → Option ℕ) → PackedRow → RegisterPlace → Type 0
LacksRealigned memory p here = (p.form ≡ REALIGNED) × ((cfa : ℕ) → AreSmall p
    → word_at memory (address_by here.rbp p.cfa_offset) ≡ Some cfa → LacksOneBy (content_by_rbp memory here.rbp) p here)

-- so it is from the CFA that the entry's row gives
pub record LacksWord (memory : ℕ → Option ℕ) (p : PackedRow) (here : RegisterPlace) : Type 0 where
  pub base : ℕ
  pub base_is : register_in here p.form ≡ Some base
  pub lacks : LacksSaved memory (wrap 64 (pos base +ℤ p.cfa_offset)) p here

-- A walk that is here may use an entry whose row takes more.
pub record IsOtherWith (rows : List PackedRow) (mask : ℕ) (memory : ℕ → Option ℕ) (here : RegisterPlace) : Type 0 where
  pub looked_up : here.key ≢ 0
  pub index : ℕ
  pub usable : is_usable mask here.key (entry_at rows index) ≡ true
  pub needs : NeedsOthers (entry_at rows index) here ⊎ LacksWord memory (entry_at rows index) here ⊎ LacksRealigned memory (entry_at rows index) here
