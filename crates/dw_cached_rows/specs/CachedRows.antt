-- Which rows a cache has. Each is of a module: the caller of a cache gives each module a number, its
-- slot.
use Rattle.std.specs.Prelude.{◌≡◌, ◌<◌, ℕ, suc, ◌/◌, ◌%◌, ◌^◌, ◌*◌, ◌==◌, ◌&&◌, ◌⊎◌, Bool, true, false, if◌then◌else◌, List, Option, Some, pos}
use Rattle.std.proofs.Math.ListN.{get_or}
use Rattle.dw_rules.specs.Abi.{Abi}
use Rattle.dw_rules.specs.Rules.{Row, cfa_expression}
use Rattle.dw_stack.specs.Located.{LocatedExpression}
use Rattle.dw_unwind.specs.Caller.{Caller, IsCaller, machine}
use Rattle.dw_unwind.specs.Walks.{Place, address_before}
use Rattle.dw_cached_rows.specs.declared.packed_row.PackedRow.{PackedRow}
use Rattle.dw_cached_rows.specs.declared.packed_row.TheConstants.{RETURN_ADDRESS, SLOTS}
use Rattle.dw_cached_rows.specs.declared.cached_rows.TheConstants.{MULTIPLIER, ROWS, WAYS}
use Rattle.dw_cached_rows.specs.PackedRows.{StandsFor, little_64}

-- an entry without a row
abbrev pub nothing : PackedRow
nothing = record {
  key = 0;
  cfa_offset = pos 0;
  form = 0;
  slot = 0;
  rbx = pos 0;
  rbp = pos 0;
  r12 = pos 0;
  r13 = pos 0;
  r14 = pos 0;
  r15 = pos 0;
  plt_limit = 0;
}

abbrev pub entry_at : List PackedRow → ℕ → PackedRow
entry_at rows i = get_or rows i nothing

-- the mask has the bit of the slot
abbrev pub is_confirmed : ℕ → ℕ → Bool
is_confirmed mask slot = mask / 2 ^ slot % 2 == 1

-- The entry has this key, and its slot has its bit in the mask.
abbrev pub is_usable : ℕ → ℕ → PackedRow → Bool
is_usable mask key p = (p.key == key) && is_confirmed mask (p.slot % SLOTS)

-- the entry, or, if it has this slot, the entry without its key
abbrev pub without_slot : ℕ → PackedRow → PackedRow
without_slot slot p = if p.slot % SLOTS == slot then record {
  key = 0;
  cfa_offset = p.cfa_offset;
  form = p.form;
  slot = p.slot;
  rbx = p.rbx;
  rbp = p.rbp;
  r12 = p.r12;
  r13 = p.r13;
  r14 = p.r14;
  r15 = p.r15;
  plt_limit = p.plt_limit;
} else p

-- ---- which rows the entries have

-- The entry at the index `i` has the row of an address, for the module with this slot.
pub record IsHeldAt (rows : List PackedRow) (slot address : ℕ) (row : Row) (i : ℕ) : Type 0 where
  pub inside : i < ROWS
  pub key : (entry_at rows i).key ≡ suc address
  pub slot_is : (entry_at rows i).slot % SLOTS ≡ slot
  pub is : StandsFor address (entry_at rows i) row

-- one of the entries has it
abbrev pub Holds : List PackedRow → ℕ → ℕ → Row → Type 0
Holds rows slot address row = (i : ℕ) × IsHeldAt rows slot address row i

-- the set of entries in which a key is searched for: some bits of a product of 64 bits
abbrev pub set_of_key : ℕ → ℕ
set_of_key key = (key * MULTIPLIER) % 2 ^ 64 / 2 ^ 56

-- one of the entries has it in which it is searched for
abbrev pub HoldsInSet : List PackedRow → ℕ → ℕ → Row → Type 0
HoldsInSet rows slot address row = (i : ℕ) × IsHeldAt rows slot address row i × (i / WAYS ≡ set_of_key (suc address))

-- ---- which of them a walk may use

-- A module whose slot has its bit in the mask has the row, and the return address has the column
-- that x86-64 gives it.
pub record Confirms (rows : List PackedRow) (mask address : ℕ) (found : Row × ℕ) : Type 0 where
  pub slot : ℕ
  pub confirmed : is_confirmed mask slot ≡ true
  pub held : Holds rows slot address found.0
  pub column : found.1 ≡ RETURN_ADDRESS

-- no entry in which the address is searched for has it, for a module whose slot has its bit in the mask
abbrev pub IsMissing : List PackedRow → ℕ → ℕ → Type 0
IsMissing rows mask address = (i : ℕ) → i / WAYS ≡ set_of_key (suc address) → is_usable mask (suc address) (entry_at rows i) ≡ false

-- ---- how rows come into a cache

-- the two rows have the same rules, whatever addresses they cover
pub record HasRulesOf (one other : Row) : Type 0 where
  pub cfa : one.cfa ≡ other.cfa
  pub rules : one.rules ≡ other.rules

-- rip has the address that is looked up, or the next one, as in a caller, whose call is looked up
abbrev pub KnowsAddress : ℕ → (ℕ → Option ℕ) → Type 0
KnowsAddress address registers = (registers RETURN_ADDRESS ≡ Some address) ⊎ (registers RETURN_ADDRESS ≡ Some (suc address))

-- in each frame for which the address is looked up, the other row gives the caller that the one gives
abbrev pub GivesAt : ℕ → Row → Row → Type 0
GivesAt address one other = (registers memory : ℕ → Option ℕ) (abi : Abi) (caller : Caller) → KnowsAddress address registers
    → IsCaller (machine little_64 registers memory) abi RETURN_ADDRESS one caller
    → IsCaller (machine little_64 registers memory) abi RETURN_ADDRESS other caller

-- The one row has the rules of the other. Or the CFA of the other is an expression, and it gives, at
-- this address, what the one gives.
abbrev pub HasRulesAt : ℕ → Row → Row → Type 0
HasRulesAt address one other = HasRulesOf one other
    ⊎ ((x : LocatedExpression) × (other.cfa ≡ Some (cfa_expression x)) × GivesAt address one other)

-- The row that is held has the rules of one that was kept for this slot and this address, or gives what
-- that one gives there. That one isn't a signal frame's, and the return address has the column that
-- x86-64 gives it.
pub record IsKept (slot address : ℕ) (row : Row) (column : ℕ) (is_signal : Bool) (other at : ℕ) (held : Row) : Type 0 where
  pub slot_is : other ≡ slot
  pub address_is : at ≡ address
  pub rules : HasRulesAt address held row
  pub column_is : column ≡ RETURN_ADDRESS
  pub called : is_signal ≡ false

-- The row that is held is one for which this entry stands, for this slot and this address.
pub record IsPutIn (slot address : ℕ) (entry : PackedRow) (other at : ℕ) (held : Row) : Type 0 where
  pub slot_is : other ≡ slot
  pub address_is : at ≡ address
  pub is : StandsFor address entry held

-- Each row has the rules of the row that its module has at the address, or gives there what that row
-- gives. `finds` says which rows the look-up of an address may find in the module with a slot.
abbrev pub AreRowsOf : (ℕ → ℕ → Option (Row × ℕ) → Type 0) → List PackedRow → Type 0
AreRowsOf finds rows = (slot address : ℕ) (held : Row) → Holds rows slot address held
    → (row : Row) × finds slot address (Some (row, RETURN_ADDRESS)) × HasRulesAt address held row

-- Each row of a confirmed module has the rules of the row that a look-up finds at its address.
abbrev pub LeadsTo : (ℕ → Option (Row × ℕ) → Type 0) → List PackedRow → ℕ → Type 0
LeadsTo finds rows mask = (address : ℕ) (held : Row × ℕ) → Confirms rows mask address held
    → (row : Row) × finds address (Some (row, RETURN_ADDRESS)) × HasRulesOf held.0 row

-- the same, or that row gives there what the row gives that the cache has
abbrev pub LeadsToAt : (ℕ → Option (Row × ℕ) → Type 0) → List PackedRow → ℕ → Type 0
LeadsToAt finds rows mask = (address : ℕ) (held : Row × ℕ) → Confirms rows mask address held
    → (row : Row) × finds address (Some (row, RETURN_ADDRESS)) × HasRulesAt address held.0 row

-- A walk may begin at the place: rip has the address of the frame, which is looked up itself or, for
-- a caller, minus 1.
pub record KnowsItsAddress (p : Place) : Type 0 where
  pub known : p.registers RETURN_ADDRESS ≡ Some p.address
  pub looked_up : (p.looked_up ≡ Some p.address) ⊎ (p.looked_up ≡ address_before p.address)
