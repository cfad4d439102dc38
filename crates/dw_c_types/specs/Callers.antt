-- What C gets as the caller of a frame.
use Rattle.std.specs.Prelude.{◌≡◌, ◌^◌, ℕ, List, length, map, Option, None, Some}
use Rattle.dw_eval.specs.Numbers.{width_of}
use Rattle.dw_rules.specs.Abi.{Abi}
use Rattle.dw_unwind.specs.Caller.{Answer, Caller}
use Rattle.dw_unwind.specs.CallerFits.{CallerFits}
use Rattle.dw_process.specs.Processes.{ProcessState}
use Rattle.dw_c_types.specs.Frames.{canswer_of}
use Rattle.dw_c_types.specs.ProcessWalks.{over_held}
use Rattle.dw_c_types.specs.Slots.{put_into}
use Rattle.dw_c_types.specs.declared.callers.CRegister.{CRegister}
use Rattle.dw_c_types.specs.declared.callers.CCaller.{CCaller}

abbrev pub cregister_of : ℕ × Answer → CRegister
cregister_of found = record { value = (canswer_of found.1).value; kind = (canswer_of found.1).kind; number = found.0 }

-- `out` is C's struct for `caller`, and the slots `new` are `old` with the caller's registers
-- written to the front, as many as fit
pub record ShowsCaller (caller : Caller) (out : CCaller) (old new : List CRegister) : Type 0 where
  pub cfa : out.cfa ≡ canswer_of caller.cfa
  pub return_address : out.return_address ≡ canswer_of caller.return_address
  pub count : out.count ≡ length caller.registers
  pub registers : new ≡ put_into (map cregister_of caller.registers) old

-- `caller` is the caller of the frame at `address`, computed with the tables of a process's
-- modules. It is None if no module has a row for the address.
pub record Unwinds (held : Option ProcessState) (abi : Abi) (memory registers : ℕ → Option ℕ) (address : ℕ) (caller : Option Caller) : Type 0 where
  pub is : over_held abi memory held registers address caller

-- all numbers of a caller are below 2^w, w being the size of an address of the process in bits
abbrev pub FitsIn : Option ProcessState → Caller → Type 0
FitsIn None caller = Unit {0}
FitsIn (Some p) caller = CallerFits (2 ^ width_of p.target.address_size) caller

-- the frame at `address` has a caller, whose numbers are below 2^w, and which is written to `out`
-- and to the slots, as `ShowsCaller` says
pub record IsCaller (held : Option ProcessState) (abi : Abi) (memory registers : ℕ → Option ℕ) (address : ℕ) (out : CCaller)
    (old new : List CRegister) : Type 0 where
  pub caller : Caller
  pub unwinds : Unwinds held abi memory registers address (Some caller)
  pub fits : FitsIn held caller
  pub shows : ShowsCaller caller out old new
