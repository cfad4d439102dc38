-- Look-ups in place that have no answer: what C is told.
use Rattle.std.proofs.Common.{◌≡◌, ◌≢◌, ℕ, inl, inr, Err, ap, subst, arith}
use Rattle.dw_bytes.specs.declared.fault.Fault.{Fault}
use Rattle.dw_bytes.specs.declared.fault.FaultKind.TheVariants.{Memory}
use Rattle.dw_c_types.specs.declared.status.TheConstants.{NO_ROOM, REFUSED}
use Rattle.dwcheck_c.specs.InPlaceLookUps.{IsLookedUp, IsNoRow, IsUnusable, IsUsable, Says}
use Rattle.dwcheck_c.specs.declared.in_place.CHeader.{CHeader}
use Rattle.dwcheck_c.specs.declared.in_place.NoAnswer.{NoAnswer}
use Rattle.dwcheck_c.specs.declared.in_place.NoAnswer.TheVariants.{BadKind, BadTarget, NoTable, Refused, TooLong}
use Rattle.dwcheck_c.specs.declared.module.CModule.{CModule}

pub first-fault : (m : CModule) (h : CHeader) (a : ℕ) (why : NoAnswer) (first : Fault) → IsNoRow m h a why → why ≡ Refused first
    → first.kind ≢ Memory → IsLookedUp m h a (Err first)
first-fault m h a why first none is other = elim (subst (IsNoRow m h a) is none) [
  | inl lacks ↦ absurd (other (ap (λ (f : Fault). f.kind) lacks.0))
  | inr found ↦ found
]

pub not-usable : (m : CModule) (h : CHeader) (a : ℕ) (why : NoAnswer) (status : ℕ) → IsNoRow m h a why → Says why status
    → status ≢ REFUSED → status ≢ NO_ROOM → IsUnusable m h status
not-usable m h a TooLong status none says refused room = inl (says, none)
not-usable m h a BadKind status none says refused room = inr (inl (says, none.0, none.1))
not-usable m h a BadTarget status none says refused room = inr (inr (inl (says, none.0, none.1)))
not-usable m h a NoTable status none says refused room = inr (inr (inr (says, none.0, none.1)))
not-usable m h a (Refused fault) status none says refused room = elim says [
  | inl is ↦ absurd (refused is)
  | inr is ↦ absurd (room is.0)
]

pub no-room : (m : CModule) (h : CHeader) (a : ℕ) (why : NoAnswer) (status : ℕ) → IsNoRow m h a why → Says why status
    → status ≡ NO_ROOM → IsUsable m h
no-room m h a TooLong status none says is = absurd (omega (arith, says, is))
no-room m h a BadKind status none says is = absurd (omega (arith, says, is))
no-room m h a BadTarget status none says is = absurd (omega (arith, says, is))
no-room m h a NoTable status none says is = absurd (omega (arith, says, is))
no-room m h a (Refused fault) status none says is = elim none [
  | inl lacks ↦ lacks.1
  | inr found ↦ (found.section, found.table, found.are)
]
