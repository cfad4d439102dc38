-- Which contents have no place in a register file, and what that means for the frame whose caller's
-- registers were to be written to one.
use Rattle.std.specs.Prelude.{◌≡◌, ℕ, ◌<◌, ◌≤◌, Any, Bool, IsSome, None, Option, Some}
use Rattle.std.specs.Bool.{OnTrue}
use Rattle.dw_eval.specs.World.{World}
use Rattle.dw_rules.specs.Rules.{Rule}
use Rattle.dw_unwind.specs.declared.register_file.TheConstants.{PLACES}
use Rattle.dw_unwind.specs.Caller.{Answer, Caller, IsRegister, value}
use Rattle.dw_unwind.specs.Walks.{CallerRelation, UnwindsAt, content_of}

-- a register with its answer: its number is PLACES or more, and it has a content
abbrev pub IsFarContent : ℕ × Answer → Type 0
IsFarContent found = (PLACES ≤ found.0) × IsSome (content_of found.1)

-- The frame with these registers, for which the address `looked_up` is looked up, has a caller, and
-- one of the caller's registers has a number of PLACES or more and a content.
pub record LacksPlace (u : CallerRelation) (registers : ℕ → Option ℕ) (looked_up : Option ℕ) : Type 0 where
  pub caller : Caller
  pub unwinds : UnwindsAt u registers looked_up (Some caller)
  pub past : Any IsFarContent caller.registers

-- ---- registers by their rules

-- a register with a number of PLACES or more has a content by `rules`
pub record HasFarContent (e : World) (cfa : Answer) (rules : ℕ → Rule) : Type 0 where
  pub register : ℕ
  pub far : PLACES ≤ register
  pub is_number : register < 65536
  pub content : ℕ
  pub found : IsRegister e cfa register (rules register) (value content)

-- the register `r` has no content by `rules`
abbrev pub LacksContent : World → Answer → (ℕ → Rule) → ℕ → Type 0
LacksContent e cfa rules r = (answer : Answer) × IsRegister e cfa r (rules r) answer × (content_of answer ≡ None)

-- no register with a number of PLACES or more has a content by `rules`
abbrev pub LacksFarContents : World → Answer → (ℕ → Rule) → Type 0
LacksFarContents e cfa rules = (r : ℕ) → PLACES ≤ r → LacksContent e cfa rules r

-- ---- contents that are written

-- Contents that were `wanted` were written: those of registers with numbers below PLACES are there
-- now, and all are if `all_placed`.
pub record Writes (wanted contents : ℕ → Option ℕ) (all_placed : Bool) : Type 0 where
  pub near : (r : ℕ) → r < PLACES → wanted r ≡ contents r
  pub all : OnTrue all_placed (wanted ≡ contents)

-- Contents were written (`Writes`). The contents that were wanted are `Right`, even if there is no
-- place for some of them.
pub record Fills (Right : (ℕ → Option ℕ) → Type 0) (all_placed : Bool) (contents : ℕ → Option ℕ) : Type 0 where
  pub wanted : ℕ → Option ℕ
  pub right : Right wanted
  pub writes : Writes wanted contents all_placed
